-- The barred grammar: the grammar below with a gap at each barred rule number.
use Rattle.std.specs.Prelude.{◌≡◌, ℕ, Bool, false, cond, ◌&&◌, ◌||◌, List, None, Ok, Err, Result, ◌==◌, nat_lt, slice_index_or}
use Rattle.grammar.specs.Meaning.{Meaning}
use Rattle.grammar.specs.declared.barred.BarRefusal.{BarRefusal}
use Rattle.grammar.specs.declared.barred.BarRefusal.TheVariants.{NumberTooLarge}

abbrev pub refusal_number : BarRefusal → ℕ
refusal_number NumberTooLarge = 56

-- may rule n be barred?
abbrev pub can_bar : ℕ → Bool
can_bar n = nat_lt n 1024

abbrev pub bar_answer : ℕ → Result Unit BarRefusal
bar_answer n = cond (can_bar n) (Ok tt) (Err NumberTooLarge)

-- the bar set is a table of flags, and a number past its end is not barred
abbrev pub is_barred : List Bool → ℕ → Bool
is_barred flags n = slice_index_or flags n false

-- barring rule n: afterwards just those are barred that were, and n where it may be
abbrev pub Bars : ℕ → List Bool → List Bool → Type 0
Bars n before after = (k : ℕ) → is_barred after k ≡ (is_barred before k || (k == n && can_bar n))

abbrev pub NoneBarred : List Bool → Type 0
NoneBarred flags = (k : ℕ) → is_barred flags k ≡ false

abbrev pub barred_meaning : List Bool → Meaning → Meaning
barred_meaning flags m = record {
  start = m.start;
  symbols = m.symbols;
  rules = m.rules;
  rule = λ n. cond (is_barred flags n) None (m.rule n);
}
