use Rattle.report.proofs.Spots.{part_taken}
use Rattle.report.proofs.spot.part_from.Goals as goal

pub returns : goal.returns
returns c = part_taken _ _ _ _ c.min.ensures c.min-2.ensures
