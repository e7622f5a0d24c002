use Rattle.std.proofs.Common.{ap, ◌∙◌}
use Rattle.std.proofs.lemmas.List.{length-map}
use Rattle.packed.specs.Chunks.{length_chunks}
use Rattle.packed.specs.Format.{rule_count}
use Rattle.packed.proofs.PackedGrammar.rules.Goals as goal

pub returns : goal.returns
returns c = simp (length-map, length_chunks) (c.rules.ensures ∙ ap rule_count c.layout.ensures)
