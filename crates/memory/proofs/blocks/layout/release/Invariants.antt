use Rattle.std.proofs.Common.{◌≡◌, ◌++◌, take, drop}
use Rattle.memory.specs.Blocks.{released}
use Rattle.memory.proofs.blocks.layout.release.Given as goal

abbrev pub invariant-loop-owner : goal.invariant-loop-owner
invariant-loop-owner l = l.owners ≡ released l.number (take l.owner-index l.initial.owners) ++ drop l.owner-index l.initial.owners
