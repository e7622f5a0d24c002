use Rattle.std.proofs.Common.{◌≡◌, ℕ, ◌≤◌, List, ◌++◌, length, take, drop}
use Rattle.fekhtovi.specs.Replay.{Replays}
use Rattle.fekhtovi.proofs.replay.replay_on.Given as goal

-- whatever the rest of the script is replayed to, the whole script is replayed to what was written and then that
abbrev pub invariant-loop-call : goal.invariant-loop-call
invariant-loop-call g l =
    (l.written ≤ length l.initial.answers)
    × (drop l.written l.answers ≡ drop l.written l.initial.answers)
    × ((out : List ℕ) → Replays g.M.Memory.block_count (g.M.Memory.texts l.memory) l.call-iterator.rest.now (drop l.written l.initial.answers) out
    → Replays g.M.Memory.block_count (g.M.Memory.texts l.initial.memory) l.script l.initial.answers (take l.written l.answers ++ out))
