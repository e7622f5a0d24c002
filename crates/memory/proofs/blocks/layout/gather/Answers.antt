use Rattle.std.proofs.Common.{◌≡◌, ◌+◌, ◌-◌, min, length, sym, ◌∙◌, arith, rules}
use Rattle.memory.proofs.Owners.{owner_test}
use Rattle.memory.proofs.Gather.{gathering_mine, gathering_other}
use Rattle.memory.proofs.blocks.layout.gather.Goals as goal

pub loop-owner-preserved-then-eq : goal.loop-owner-preserved-then-eq
loop-owner-preserved-then-eq c =
    let g = rw (c.in-Some.ensures.steps.0, c.in-Some.ensures.steps.1) at c.loop-owner.invariant.2 in
    let own = sym (owner_test c.args.number c.in-Some.owner.now) ∙ sym c.eq.ensures ∙ c.if-eq.true in
    let done = c.loop-owner.done in
    let k = c.min-piece.result in
    let room : k ≡ min (length c.loop-owner.buffer - done) 64 = search rules in
    let k1 : done + k - done ≡ k = omega arith in
    let m = gathering_mine c.args.number c.args.owners.now c.args.blocks.now _ _ c.in-Some.owner.now c.in-Some.block.now c.loop-owner.buffer done
    c.requires.0 g own c.told-blocks c.copy_from_slice.new.self k room c.copy_from_slice.ensures.after in
    ((tt, tt), tt, rw k1 m)

pub loop-owner-preserved : goal.loop-owner-preserved
loop-owner-preserved c =
    let g = rw (c.in-Some.ensures.steps.0, c.in-Some.ensures.steps.1) at c.loop-owner.invariant.2 in
    let other = sym (owner_test c.args.number c.in-Some.owner.now) ∙ sym c.eq.ensures ∙ c.if-eq.false in
    let s = gathering_other c.args.number c.args.owners.now c.args.blocks.now _ _ c.in-Some.owner.now c.in-Some.block.now c.loop-owner.buffer c.loop-owner.done
    c.requires.0 g other in
    ((tt, tt), tt, s)
