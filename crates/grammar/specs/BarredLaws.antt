-- Laws of the barred grammar.
use Rattle.std.specs.Prelude.{◌≡◌, ℕ, ◌<◌, Bool, true, false, List, None, ◌≢◌}
use Rattle.grammar.specs.Meaning.{Meaning}
use Rattle.grammar.specs.Barred.{can_bar, Bars, NoneBarred, barred_meaning}
use Rattle.grammar.specs.Spaced.{spaced_meaning}

-- barring n makes a gap there and changes no other rule; a refused number changes none
pub record OneGap (n : ℕ) (before after : Meaning) : Type 0 where
  pub gap : can_bar n ≡ true → after.rule n ≡ None
  pub others : (k : ℕ) → (k ≢ n) → after.rule k ≡ before.rule k
  pub refused : can_bar n ≡ false → (k : ℕ) → after.rule k ≡ before.rule k

abbrev pub BarringMakesOneGap : Type 0
BarringMakesOneGap =
    (m : Meaning) (n : ℕ) (before after : List Bool) → Bars n before after → OneGap n (barred_meaning before m) (barred_meaning after m)

abbrev pub NothingBarredAsBelow : Type 0
NothingBarredAsBelow = (m : Meaning) (flags : List Bool) → NoneBarred flags → (k : ℕ) → (barred_meaning flags m).rule k ≡ m.rule k

-- over the rules of the grammar below, the two layers may stand in either order
abbrev pub BarsAndBlanksCommute : Type 0
BarsAndBlanksCommute =
    (m : Meaning) (flags : List Bool) (n : ℕ) → n < m.rules
    → (spaced_meaning (barred_meaning flags m)).rule n ≡ (barred_meaning flags (spaced_meaning m)).rule n
