use Rattle.std.proofs.Common.{arith}
use Rattle.memory.proofs.Change.{stored, fit_at}
use Rattle.memory.proofs.blocks.Blocks.insert.Goals as goal

pub invariant_of-self : goal.invariant_of-self
invariant_of-self c =
    let p = c.place.ensures in
    let f = fit_at (stored c.args.self.now c.args.number c.requires.unused (omega arith) (omega arith)
    c.args.text.now c.place.new.owners c.place.new.blocks p) c.index.result c.index.ensures.same in
    record { sized = f.sized; unnumbered = f.unnumbered; noted = f.noted; owns = f.owns; rest = f.rest; counted = omega (arith, p.taken, p.count, c.args.self.now.counted) }
