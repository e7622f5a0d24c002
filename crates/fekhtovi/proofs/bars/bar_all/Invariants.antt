use Rattle.std.proofs.Common.{◌≡◌, List, ℕ}
use Rattle.std.specs.Iterator.{AlwaysYields}
use Rattle.fekhtovi.proofs.Barring.{ToCome}
use Rattle.fekhtovi.proofs.bars.bar_all.Given as goal

abbrev pub invariant-loop-rule : goal.invariant-loop-rule
invariant-loop-rule g l =
    (l.chosen.below ≡ l.initial.chosen.below)
    × ((listed : List ℕ) → AlwaysYields g.I.Iterator.next_gives (λ n. n) l.fn.bars listed
    → ToCome g.I.Iterator.next_gives l.rule-iterator listed l.chosen.set.flags)
