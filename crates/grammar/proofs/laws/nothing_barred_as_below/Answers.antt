use Rattle.grammar.proofs.BarredLaws.{nothing_barred_as_below}
use Rattle.grammar.proofs.laws.nothing_barred_as_below.Goals as goal

pub returns : goal.returns
returns c = nothing_barred_as_below
