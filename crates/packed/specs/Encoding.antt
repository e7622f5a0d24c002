-- How a grammar without gaps is written as a packed table, and which grammars fit into one.
use Rattle.std.specs.Prelude.{ℕ, ◌-◌, ◌*◌, ◌/◌, ◌%◌, ◌<◌, ◌≤◌, List, [], ◌∷◌, ◌++◌, map, length, replicate}
use Rattle.std.specs.List.{AllByRecursion}
use Rattle.grammar.specs.Meaning.{Rule}
use Rattle.grammar.specs.declared.Mark.{Mark}
use Rattle.grammar.specs.declared.Mark.TheVariants.{Loose, Tight}
use Rattle.grammar.specs.declared.Part.{Part}
use Rattle.grammar.specs.declared.Part.TheVariants.{Symbol, Range, Except}
use Rattle.std.specs.List.{concat}
use Rattle.packed.specs.Format.{Listed}

abbrev pub IsByte : ℕ → Type 0
IsByte b = b < 256

abbrev pub pair_bytes : ℕ → List ℕ
pair_bytes n = n / 256 ∷ n % 256 ∷ []

abbrev pub mark_number : Mark → ℕ
mark_number Loose = 1
mark_number Tight = 0

abbrev pub part_bytes : Part → List ℕ
part_bytes (Symbol s) = 1 ∷ 0 ∷ pair_bytes s
part_bytes (Range low high) = 2 ∷ low ∷ high ∷ 0 ∷ []
part_bytes (Except x y z) = 3 ∷ x ∷ y ∷ z ∷ []

-- what is left of the sixty bytes for parts is zero
abbrev pub row_bytes : Rule → List ℕ
row_bytes r =
    pair_bytes r.left
    ++ (mark_number r.mark ∷ length r.parts ∷ (concat (map part_bytes r.parts) ++ replicate (60 - 4 * length r.parts) 0))

abbrev pub table_of : Listed → List ℕ
table_of g =
    pair_bytes g.symbols ++ (pair_bytes (length g.rules) ++ (pair_bytes g.start ++ (pair_bytes 0 ++ concat (map row_bytes g.rules))))

-- the bounds of the format
abbrev pub FitsPart : ℕ → Part → Type 0
FitsPart n (Symbol s) = s < n
FitsPart n (Range low high) = (low ≤ high) × (high < 256)
FitsPart n (Except x y z) = (x < 256) × (y < 256) × (z < 256)

pub record FitsRule (n : ℕ) (r : Rule) : Type 0 where
  pub left_below : r.left < n
  pub few_parts : length r.parts ≤ 15
  pub each_part : AllByRecursion (FitsPart n) r.parts

pub record FitsTable (g : Listed) : Type 0 where
  pub some_symbol : 1 ≤ g.symbols
  pub few_symbols : g.symbols ≤ 256
  pub start_below : g.start < g.symbols
  pub few_rules : length g.rules ≤ 1000
  pub each_rule : AllByRecursion (FitsRule g.symbols) g.rules
