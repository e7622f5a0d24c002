use Rattle.std.proofs.lemmas.Result.{err_from_is_err_and}
use Rattle.guide.proofs.Linking.{step_taken, step_refused}
use Rattle.guide.proofs.steps.next_step.Goals as goal

pub returns-in_err-decide : goal.returns-in_err-decide
returns-in_err-decide c =
    let q = err_from_is_err_and c.from_residual.result c.from_residual.ensures.1 in
    rw (q.1, q.2) (step_refused _ _ _ _ _ c.split_record-record.result.0 c.split_record-record.ensures _ c.in_err-decide.ensures)

pub returns : goal.returns
returns c = step_taken _ _ _ _ _ c.split_record-record.result.0 c.split_record-record.ensures _ c.in_ok-decide.ensures
