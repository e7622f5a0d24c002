use Rattle.std.proofs.Common.{refl}
use Rattle.guide.proofs.Stacks.{held_push}
use Rattle.guide.proofs.stack.push.Goals as goal

pub returns : goal.returns
returns g c = (c.if-len-slots.false, refl, refl, held_push _ _ _ c.if-len-slots.false)
