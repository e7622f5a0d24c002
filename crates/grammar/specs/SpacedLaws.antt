-- Laws of the spaced grammar, in the words of rules and parts.
use Rattle.std.specs.Prelude.{◌≡◌, ℕ, ◌+◌, ◌-◌, ◌*◌, ◌<◌, ◌≤◌, Bool, true, false, not, List, [], length, Some, None, filter, Option, ◌==◌}
use Rattle.std.specs.List.{slice_get}
use Rattle.grammar.specs.Meaning.{Rule, Meaning, Bounded, left_of}
use Rattle.grammar.specs.Spaced.{blank_symbol, has_room, spaced_meaning}
use Rattle.grammar.specs.declared.Mark.TheVariants.{Loose, Tight}
use Rattle.grammar.specs.declared.Part.{Part}
use Rattle.grammar.specs.declared.Part.TheVariants.{Symbol, Range, Except}

abbrev pub GetsBlanks : Rule → Type 0
GetsBlanks r = (r.mark ≡ Loose) × (2 ≤ length r.parts) × (length r.parts ≤ 128)

-- qs has the parts ps at its even places and w at its odd ones, so it begins and ends with a part of ps
pub record OnlyBetween (w : Part) (ps qs : List Part) : Type 0 where
  pub count : length qs + 1 ≡ 2 * length ps
  pub part_at : (k : ℕ) → slice_get qs (2 * k) ≡ slice_get ps k
  pub blank_at : (k : ℕ) → k + 1 < length ps → slice_get qs (2 * k + 1) ≡ Some w
  pub first_kept : slice_get qs 0 ≡ slice_get ps 0
  pub last_kept : slice_get qs (length qs - 1) ≡ slice_get ps (length ps - 1)

-- the rule s is the rule r with blanks between its parts
pub record SpacedRule (w : ℕ) (r s : Rule) : Type 0 where
  pub left_kept : s.left ≡ r.left
  pub is_tight : s.mark ≡ Tight
  pub blanks : OnlyBetween (Symbol w) r.parts s.parts

abbrev pub BlanksOnlyBetweenParts : Type 0
BlanksOnlyBetweenParts =
    (m : Meaning) (n : ℕ) (r : Rule) → has_room m ≡ true → n < m.rules → m.rule n ≡ Some r → GetsBlanks r
    → (s : Rule) × ((spaced_meaning m).rule n ≡ Some s) × SpacedRule (blank_symbol m) r s

-- the parts of a rule that are not the symbol w; a gap has none
abbrev pub is_symbol : ℕ → Part → Bool
is_symbol w (Symbol s) = s == w
is_symbol w (Range low high) = false
is_symbol w (Except x y z) = false

abbrev pub parts_without : ℕ → Option Rule → List Part
parts_without w None = []
parts_without w (Some r) = filter (λ p. not (is_symbol w p)) r.parts

abbrev pub parts_of : Option Rule → List Part
parts_of None = []
parts_of (Some r) = r.parts

abbrev pub WithoutBlanksAsBelow : Type 0
WithoutBlanksAsBelow =
    (m : Meaning) (n : ℕ) → Bounded m → has_room m ≡ true → n < m.rules
    → parts_without (blank_symbol m) ((spaced_meaning m).rule n) ≡ parts_of (m.rule n)

-- the start stays, a gap stays, and so does every rule that gets no blanks; without room all stays
pub record OthersKept (m : Meaning) : Type 0 where
  pub start_kept : (spaced_meaning m).start ≡ m.start
  pub gap_kept : (n : ℕ) → n < m.rules → m.rule n ≡ None → (spaced_meaning m).rule n ≡ None
  pub rule_kept : (n : ℕ) (r : Rule) → n < m.rules → m.rule n ≡ Some r → (GetsBlanks r → ⊥) → (spaced_meaning m).rule n ≡ Some r
  pub large_kept : has_room m ≡ false → spaced_meaning m ≡ m

abbrev pub OthersAsBelow : Type 0
OthersAsBelow = (m : Meaning) → OthersKept m

-- no rule of the grammar below has the blank symbol on its left
abbrev pub BlankRulesComeLast : Type 0
BlankRulesComeLast =
    (m : Meaning) (n : ℕ) → Bounded m → has_room m ≡ true → left_of ((spaced_meaning m).rule n) ≡ Some (blank_symbol m)
    → (m.rules ≤ n) × (n < (spaced_meaning m).rules)
