use Rattle.packed.proofs.Encoded.{encodings_mean_their_grammar}
use Rattle.packed.proofs.laws.encodings_mean_their_grammar.Goals as goal

pub returns : goal.returns
returns c = encodings_mean_their_grammar
