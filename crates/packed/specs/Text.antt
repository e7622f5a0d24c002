-- How the refusal of a packed table reads as text.
use Rattle.std.specs.Prelude.{ℕ, List, ◌++◌, codes, decimal}
use Rattle.packed.specs.Check.{fault_number, fault_rule}
use Rattle.packed.specs.declared.fault.TableFault.{TableFault}

abbrev pub fault_text : TableFault → List ℕ
fault_text fault = codes "refused " ++ (decimal (fault_number fault) ++ (codes " rule=" ++ decimal (fault_rule fault)))
