use Rattle.std.proofs.Common.{ap, Some}
use Rattle.std.proofs.lemmas.List.{length-map}
use Rattle.packed.specs.Chunks.{length_chunks}
use Rattle.packed.proofs.PackedGrammar.parts.Goals as goal

pub returns : goal.returns
returns c = rw c.in_ok-row.ensures (simp (length-map, length_chunks) (ap Some c.parts.ensures))
