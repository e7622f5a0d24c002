use Rattle.tree.proofs.Complete.{one_tree_is_told}
use Rattle.tree.proofs.one_tree_is_told.Goals as goal

pub returns : goal.returns
returns c = one_tree_is_told
