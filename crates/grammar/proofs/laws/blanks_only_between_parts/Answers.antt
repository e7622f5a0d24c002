use Rattle.grammar.proofs.SpacedLaws.{blanks_only_between_parts}
use Rattle.grammar.proofs.laws.blanks_only_between_parts.Goals as goal

pub returns : goal.returns
returns c = blanks_only_between_parts
