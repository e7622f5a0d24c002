use Rattle.std.proofs.Common.{refl}
use Rattle.std.specs.Fmt.{digits}
use Rattle.memory.specs.Texts.{sum_to}
use Rattle.worked_cases.proofs.worked_cases_hold.Goals as goal

-- each row by computation, in the order of the three tables
pub returns : goal.returns
unfolding sum_to digits
returns c = (
  (refl, (refl, (refl, (refl, (refl, (refl, (refl, (refl, (refl, (refl, (refl, (refl, (refl, (refl, (refl, tt))))))))))))))),
  (refl, (refl, (refl, tt))),
  (refl, (refl, tt)),
)
