use Rattle.std.proofs.Common.{drop}
use Rattle.packed.specs.Chunks.{take_chunks}
use Rattle.packed.specs.Format.{part_count}
use Rattle.packed.proofs.layout.Row.slots.Goals as goal

pub returns : goal.returns
returns c =
    let row = c.args.self.bytes.now in
    let all = rw (c.behind_head.ensures.len, c.behind_head.ensures.bytes) at c.as_chunks.ensures.front in
    rw (all, c.parts.ensures) (take_chunks 4 (part_count row) 15 (drop 4 row) c.args.self.room)
