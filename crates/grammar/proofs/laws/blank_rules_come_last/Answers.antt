use Rattle.grammar.proofs.SpacedLaws.{blank_rules_come_last}
use Rattle.grammar.proofs.laws.blank_rules_come_last.Goals as goal

pub returns : goal.returns
returns c = blank_rules_come_last
