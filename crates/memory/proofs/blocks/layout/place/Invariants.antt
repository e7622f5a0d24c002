use Rattle.std.proofs.Common.{◌≡◌}
use Rattle.std.specs.Slice.Iter.{chunks_rest, chunks_size}
use Rattle.memory.proofs.Place.{SoFar}
use Rattle.memory.proofs.blocks.layout.place.Given as goal

abbrev pub invariant-loop-piece : goal.invariant-loop-piece
invariant-loop-piece l =
    (goal.iterator-loop-piece).can_next l.piece-iterator ×
    (goal.iterator-loop-piece).is_finite l.piece-iterator ×
    (chunks_size l.piece-iterator ≡ 64) ×
    SoFar l.number l.text (chunks_rest l.piece-iterator) l.end l.initial.owners l.initial.blocks l.owners l.blocks
