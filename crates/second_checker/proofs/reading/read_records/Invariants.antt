use Rattle.std.proofs.Common.{vec_len}
use Rattle.second_checker.proofs.reading.read_records.Given as goal

abbrev pub decreases-loop-link : goal.decreases-loop-link
decreases-loop-link l = vec_len l.open
