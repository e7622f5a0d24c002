-- How a grammar's start and counts read as text.
use Rattle.std.specs.Prelude.{ℕ, List, ◌++◌, codes, decimal}
use Rattle.grammar.specs.Meaning.{Meaning}

abbrev pub head_text : Meaning → List ℕ
head_text m = codes "symbols=" ++ (decimal m.symbols ++ (codes " start=" ++ (decimal m.start ++ (codes " rules=" ++ decimal m.rules))))
