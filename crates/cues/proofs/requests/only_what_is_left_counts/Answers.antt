use Rattle.cues.proofs.Decided.{only_what_is_left_counts}
use Rattle.cues.proofs.requests.only_what_is_left_counts.Goals as goal

pub returns : goal.returns
returns c = only_what_is_left_counts
