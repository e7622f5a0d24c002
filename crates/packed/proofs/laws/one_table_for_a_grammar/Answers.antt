use Rattle.packed.proofs.Encoded.{one_table_for_a_grammar}
use Rattle.packed.proofs.laws.one_table_for_a_grammar.Goals as goal

pub returns : goal.returns
returns c = one_table_for_a_grammar
