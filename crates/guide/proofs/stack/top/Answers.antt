use Rattle.std.proofs.Common.{◌∙◌}
use Rattle.guide.proofs.Stacks.{held_newest}
use Rattle.guide.proofs.stack.top.Goals as goal

pub returns : goal.returns
returns g c = c.last.ensures.value ∙ held_newest _ _ _ c.min.ensures
