use Rattle.grammar.proofs.SpacedLaws.{others_as_below}
use Rattle.grammar.proofs.laws.others_as_below.Goals as goal

pub returns : goal.returns
returns c = others_as_below
