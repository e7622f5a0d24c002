use Rattle.std.specs.Slice.Iter.{iter_rest}
use Rattle.std.specs.Iterator.Adapters.{zip_first, zip_second, rev_source}
use Rattle.memory.proofs.Gather.{Gathering}
use Rattle.memory.proofs.blocks.layout.gather.Given as goal

abbrev pub invariant-loop-owner : goal.invariant-loop-owner
invariant-loop-owner l =
    (goal.iterator-loop-owner).can_next l.owner-iterator ×
    (goal.iterator-loop-owner).is_finite l.owner-iterator ×
    Gathering l.number l.owners l.blocks (iter_rest (rev_source (zip_first l.owner-iterator))) (iter_rest (rev_source (zip_second l.owner-iterator))) l.buffer l.done
