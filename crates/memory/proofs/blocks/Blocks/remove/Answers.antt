use mathlib.Core.Path.{fun_ext}
use Rattle.std.proofs.Common.{arith}
use Rattle.memory.proofs.Change.{struck, fit_at, text_at, given_back}
use Rattle.memory.proofs.blocks.Blocks.remove.Goals as goal

pub invariant_of-self : goal.invariant_of-self
invariant_of-self c =
    let f = fit_at (struck c.args.self.now c.args.number (omega arith) (omega arith) c.release.new.owners c.release.ensures) c.index-2.result c.index-2.ensures.same in
    let back = given_back c.args.self.now c.args.number c.index.result c.index.ensures.same in
    record { sized = f.sized; unnumbered = f.unnumbered; noted = f.noted; owns = f.owns; rest = f.rest; counted = cc }

pub returns : goal.returns
returns c =
    fun_ext (text_at (struck c.args.self.now c.args.number (omega arith) (omega arith) c.release.new.owners c.release.ensures) c.index-2.result c.index-2.ensures.same)
