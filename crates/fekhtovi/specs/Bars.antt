-- A list of rule numbers to bar.
use Rattle.std.specs.Prelude.{ℕ, Bool, false, cond, ◌||◌, List, [], ◌∷◌, None, Ok, Err, Result, ◌==◌}
use Rattle.grammar.specs.Meaning.{Meaning}
use Rattle.grammar.specs.declared.barred.BarRefusal.{BarRefusal}
use Rattle.grammar.specs.declared.barred.BarRefusal.TheVariants.{NumberTooLarge}
use Rattle.grammar.specs.Barred.{can_bar}
use Rattle.packed.specs.Check.{every}

abbrev pub is_in : ℕ → List ℕ → Bool
is_in n [] = false
is_in n (b ∷ bs) = n == b || is_in n bs

-- the grammar with a gap at each of these numbers
abbrev pub without_rules : List ℕ → Meaning → Meaning
without_rules bars m = record {
  start = m.start;
  symbols = m.symbols;
  rules = m.rules;
  rule = λ n. cond (is_in n bars) None (m.rule n);
}

-- may each of them be barred?
abbrev pub bars_answer : List ℕ → Result Unit BarRefusal
bars_answer bars = cond (every can_bar bars) (Ok tt) (Err NumberTooLarge)
