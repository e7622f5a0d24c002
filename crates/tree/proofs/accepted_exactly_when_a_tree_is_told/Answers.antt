use Rattle.tree.proofs.Complete.{accepted_exactly_when_a_tree_is_told}
use Rattle.tree.proofs.accepted_exactly_when_a_tree_is_told.Goals as goal

pub returns : goal.returns
returns c = accepted_exactly_when_a_tree_is_told
