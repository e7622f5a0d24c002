use Rattle.std.proofs.Common.{arith}
use Rattle.guide.proofs.Stacks.{some_held, held_rest}
use Rattle.guide.proofs.stack.pop.Goals as goal

pub overflow_sub-len : goal.overflow_sub-len
overflow_sub-len g c = let h = some_held _ _ _ c.in_ok-newest.ensures in omega (arith, c.min.ensures)

pub returns : goal.returns
returns g c = held_rest _ _ _ _ c.min.ensures c.in_ok-newest.ensures
