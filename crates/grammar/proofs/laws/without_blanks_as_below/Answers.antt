use Rattle.grammar.proofs.SpacedLaws.{without_blanks_as_below}
use Rattle.grammar.proofs.laws.without_blanks_as_below.Goals as goal

pub returns : goal.returns
returns c = without_blanks_as_below
