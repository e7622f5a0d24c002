use Rattle.std.proofs.Common.{◌≡◌, true, take}
use Rattle.std.specs.List.{list_all}
use Rattle.packed.specs.Check.{is_zero}
use Rattle.packed.proofs.check.rest_is_zero.Given as goal

abbrev pub invariant-loop-byte : goal.invariant-loop-byte
invariant-loop-byte l = list_all is_zero (take l.byte-index l.byte-items) ≡ true
