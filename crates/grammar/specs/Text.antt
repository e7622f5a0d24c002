-- How the pieces of a grammar read as text.
use Rattle.std.specs.Prelude.{ℕ, List, ◌++◌, codes, decimal}
use Rattle.grammar.specs.declared.Mark.{Mark}
use Rattle.grammar.specs.declared.Mark.TheVariants.{Loose, Tight}
use Rattle.grammar.specs.declared.Part.{Part}
use Rattle.grammar.specs.declared.Part.TheVariants.{Symbol, Range, Except}

abbrev pub part_text : Part → List ℕ
part_text (Symbol s) = codes "symbol " ++ decimal s
part_text (Range low high) = codes "byte " ++ (decimal low ++ (codes " to " ++ decimal high))
part_text (Except x y z) = codes "byte except " ++ (decimal x ++ (codes ", " ++ (decimal y ++ (codes ", " ++ decimal z))))

abbrev pub mark_text : Mark → List ℕ
mark_text Loose = codes "loose"
mark_text Tight = codes "tight"
