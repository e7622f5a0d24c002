use Rattle.grammar.proofs.BarredLaws.{barring_makes_one_gap}
use Rattle.grammar.proofs.laws.barring_makes_one_gap.Goals as goal

pub returns : goal.returns
returns c = barring_makes_one_gap
