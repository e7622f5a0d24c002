use Rattle.std.proofs.Common.{◌≡◌, ◌^◌, ◌<◌, drop}
use Rattle.guide.specs.Listing.{decimal}
use Rattle.guide.proofs.lines.decimal.Given as goal

abbrev pub invariant-loop-d : goal.invariant-loop-d
invariant-loop-d l = (l.n < 10 ^ l.d-index) × (decimal 0 l.digits ≡ decimal l.n (drop l.d-index l.digits))
