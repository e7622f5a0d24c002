-- The grammar that a caller brings as bytes: a packed table, or none for the house grammar.
use Rattle.std.specs.Prelude.{ℕ, List, [], ◌∷◌, Ok, Result}
use Rattle.grammar.specs.Meaning.{Meaning}
use Rattle.grammar.specs.House.{house_meaning}
use Rattle.packed.specs.declared.fault.TableFault.{TableFault}
use Rattle.packed.specs.Check.{table_fault, outcome, opened_meaning}

abbrev pub base_meaning : List ℕ → Meaning
base_meaning [] = house_meaning
base_meaning (b ∷ bs) = opened_meaning (b ∷ bs)

-- whether there is a grammar: if not, the first question about the table with the answer no
abbrev pub base_answer : List ℕ → Result Unit TableFault
base_answer [] = Ok tt
base_answer (b ∷ bs) = outcome (table_fault (b ∷ bs))
