use Rattle.cues.specs.Sheet.{start}
use Rattle.cues.proofs.Runs.{stands_first}
use Rattle.cues.proofs.requests.runs_begin_empty.Goals as goal

pub returns : goal.returns
returns g c = λ none. rw none (record { run = start; stands = stands_first _ })
