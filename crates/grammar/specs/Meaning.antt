-- What a grammar means, the questions that it is asked, and the bounds that every grammar keeps.
use Rattle.std.specs.Prelude.{◌≡◌, ℕ, ◌<◌, ◌≤◌, Bool, false, not, ◌&&◌, List, length, IfSome, Some, None, Option, ◌==◌, nat_le}
use Rattle.std.specs.List.{AllByRecursion, slice_get}
use Rattle.grammar.specs.declared.Mark.{Mark}
use Rattle.grammar.specs.declared.Part.{Part}
use Rattle.grammar.specs.declared.Part.TheVariants.{Symbol, Range, Except}

-- the left symbol, and the parts from left to right
pub record Rule : Type 0 where
  pub left : ℕ
  pub mark : Mark
  pub parts : List Part

abbrev pub ruled : ℕ → Mark → List Part → Rule
ruled s m ps = record { left = s; mark = m; parts = ps }

-- the start symbol, how many symbols and rule numbers there are, and the rule at each number: None at a gap and past the last
pub record Meaning : Type 0 where
  pub start : ℕ
  pub symbols : ℕ
  pub rules : ℕ
  pub rule : ℕ → Option Rule

-- does a leaf with this byte match the part?
abbrev pub allows : Part → ℕ → Bool
allows (Symbol s) b = false
allows (Range low high) b = nat_le low b && nat_le b high
allows (Except x y z) b = not (b == x) && (not (b == y) && not (b == z))

-- the questions: the left symbol, the mark, the number of parts and the k-th part, of a rule or a gap
abbrev pub left_of : Option Rule → Option ℕ
left_of None = None
left_of (Some r) = Some r.left

abbrev pub mark_of : Option Rule → Option Mark
mark_of None = None
mark_of (Some r) = Some r.mark

abbrev pub count_of : Option Rule → Option ℕ
count_of None = None
count_of (Some r) = Some (length r.parts)

abbrev pub part_of : Option Rule → ℕ → Option Part
part_of None k = None
part_of (Some r) k = slice_get r.parts k

-- a symbol is below the count n, and a range is not empty
abbrev pub LawfulPart : ℕ → Part → Type 0
LawfulPart n (Symbol s) = s < n
LawfulPart n (Range low high) = low ≤ high
LawfulPart n (Except x y z) = Unit {0}

pub record LawfulRule (n : ℕ) (r : Rule) : Type 0 where
  pub left_below : r.left < n
  pub few_parts : length r.parts ≤ 255
  pub each_part : AllByRecursion (LawfulPart n) r.parts

-- what every grammar keeps
pub record Bounded (m : Meaning) : Type 0 where
  pub some_symbol : 1 ≤ m.symbols
  pub few_symbols : m.symbols ≤ 256
  pub few_rules : m.rules ≤ 1024
  pub start_below : m.start < m.symbols
  pub each_rule : (n : ℕ) → IfSome (m.rule n) (LawfulRule m.symbols)
  pub none_past : (n : ℕ) → m.rules ≤ n → m.rule n ≡ None
