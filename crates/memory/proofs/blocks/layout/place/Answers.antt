use Rattle.std.proofs.Common.{◌≡◌, ◌-◌, length, ◌∙◌, arith, rules}
use Rattle.std.specs.Slice.Iter.{chunks_rest, chunks_size}
use Rattle.memory.proofs.Place.{so_far_none, so_far_more, so_far_full, so_far_whole}
use Rattle.memory.proofs.blocks.layout.place.Goals as goal

pub loop-piece-init : goal.loop-piece-init
loop-piece-init c =
    let whole : chunks_rest c.into_iter-piece-iterator.result ≡ c.args.text.now = search rules in
    let size : chunks_size c.into_iter-piece-iterator.result ≡ 64 = search rules in
    (omega arith, tt, size, rw whole (so_far_none c.args.number c.args.text.now c.args.owners.now c.args.blocks.now c.requires.level))

pub returns-in_default : goal.returns-in_default
returns-in_default c =
    so_far_full c.args.number c.args.text.now _ c.loop-piece.end c.args.owners.now c.args.blocks.now c.loop-piece.owners c.loop-piece.blocks
    c.requires.level (omega arith) (omega arith) c.requires.absent c.loop-piece.invariant.3 c.in_default.ensures c.requires.room

pub loop-piece-preserved : goal.loop-piece-preserved
loop-piece-preserved c =
    let s = c.in-Some.ensures.steps in
    let size = s.0 ∙ c.loop-piece.invariant.2 in
    let k0 : length c.in-Some.piece.now - 0 ≡ length c.in-Some.piece.now = omega arith in
    let full = rw c.loop-piece.invariant.2 at s.1.1 in
    let next = so_far_more c.args.number c.args.text.now _ c.loop-piece.end c.args.owners.now c.args.blocks.now c.loop-piece.owners c.loop-piece.blocks
    c.requires.level (omega arith) (omega arith) c.requires.absent c.loop-piece.invariant.3
    c.in-Some.piece.now _ s.1.0 full s.1.2 c.in-Some-last_unused.last c.in-Some-last_unused.ensures c.told-blocks in
    (omega (arith, size), tt, size, rw (c.copy_from_slice.ensures.after, k0) next)

pub returns : goal.returns
returns c =
    so_far_whole c.args.number c.args.text.now _ c.loop-piece.end c.args.owners.now c.args.blocks.now c.loop-piece.owners c.loop-piece.blocks
    c.requires.level (omega arith) (omega arith) c.requires.absent c.loop-piece.invariant.3 c.in-None.ensures.steps.1.0 c.requires.room
