use Rattle.forms.specs.Writing.{link_table_of}
use Rattle.forms.proofs.LinkTables.{link_table_as_written}
use Rattle.forms.proofs.one_link_table_for_each_tree.Goals as goal

pub returns : goal.returns
returns c = λ t w. (link_table_of t, link_table_as_written t w)
