use Rattle.packed.proofs.Encoded.{lawful_tables_are_the_encodings}
use Rattle.packed.proofs.laws.lawful_tables_are_the_encodings.Goals as goal

pub returns : goal.returns
returns c = lawful_tables_are_the_encodings
