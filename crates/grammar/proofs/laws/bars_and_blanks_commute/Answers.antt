use Rattle.grammar.proofs.BarredLaws.{bars_and_blanks_commute}
use Rattle.grammar.proofs.laws.bars_and_blanks_commute.Goals as goal

pub returns : goal.returns
returns c = bars_and_blanks_commute
