use Rattle.std.proofs.Common.{◌≡◌, map, ap, ◌∙◌, arith}
use Rattle.std.proofs.lemmas.Grind.{common_steps}
use Rattle.fekhtovi.specs.Pairs.{pair_in, pairs_in}
use Rattle.fekhtovi.proofs.Paired.{numbers_of_chunks}
use Rattle.fekhtovi.proofs.script.first_fields.Goals as goal

pub returns : goal.returns
returns c =
    let bars = c.in_ok-bars.bars.now in
    let numbers : map pair_in c.as_chunks.result.0.now ≡ pairs_in bars =
    ap (map pair_in) c.as_chunks.ensures.front ∙ numbers_of_chunks _ bars (omega arith) (omega arith) in
    grind (arith, common_steps)
