use Rattle.memory.proofs.Calls.{done}
use Rattle.memory.proofs.calls_are_done_where_possible.Goals as goal

pub returns : goal.returns
returns g c = done g.M.Memory.block_count (g.M.Memory.texts c.args.memory.now)
