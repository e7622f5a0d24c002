use Rattle.std.proofs.Common.{arith}
use Rattle.memory.proofs.Sums.{sum_to_none}
use Rattle.memory.proofs.empty_memory_is_all_free.Goals as goal

pub returns : goal.returns
returns c blocks = let e = sum_to_none 120 in omega arith
