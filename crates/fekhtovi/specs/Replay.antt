-- A replay: the calls of a script on one memory, and what they leave in the bytes for their answers.
use Rattle.std.specs.Prelude.{◌≡◌, ℕ, ◌+◌, ◌<◌, ◌≤◌, min, List, [], ◌++◌, length, take, drop, Some, None, Ok, Err, Result}
use Rattle.std.specs.Result.{result_and}
use Rattle.guide.specs.Written.{form_of}
use Rattle.memory.specs.Texts.{Texts}
use Rattle.cues.specs.declared.requests.Request.{Request}
use Rattle.cues.specs.declared.requests.Request.TheVariants as ask
use Rattle.cues.specs.declared.answers.Answer.{Answer}
use Rattle.cues.specs.Calls.{Call}
use Rattle.cues.specs.Requests.{asked}
use Rattle.cues.specs.Sheet.{answer, next, buffer_after}
use Rattle.fekhtovi.specs.declared.answer.FekhtoviAnswer.{FekhtoviAnswer}
use Rattle.fekhtovi.specs.declared.refused.Refused.{Refused}
use Rattle.fekhtovi.specs.declared.refused.Refused.TheVariants.{Call as RefusedCall}
use Rattle.fekhtovi.specs.Answer.{of_called, refusing}
use Rattle.fekhtovi.specs.Check.{chosen_meaning, guide_told, may_check}
use Rattle.fekhtovi.specs.Record.{encoded}
use Rattle.fekhtovi.specs.Script.{Scripted, call_of}

-- a request as a call on the memory, with what is handed in and a fetch's buffer; a load is lent 1,024 frames at most
abbrev pub handing : Request → Scripted → List ℕ → Call
handing request c buffer =
    asked request c.handed.text
    (chosen_meaning c.handed.table c.head.blanks c.handed.bars)
    (guide_told (form_of c.head.form) c.handed.guide) (min c.head.frames 1024) buffer

abbrev pub call_in : Scripted → List ℕ → Call
call_in c buffer = handing c.head.request c buffer

-- whether a load is even made, and why not; every other call is made
abbrev pub may_load : Scripted → Result Unit Refused
may_load c = may_check c.head.form c.handed.table c.handed.bars

abbrev pub may_make : Request → Scripted → Result Unit Refused
may_make (ask.Load n) c = may_load c
may_make (ask.Clear n) c = Ok tt
may_make (ask.Fetch n) c = Ok tt
may_make ask.Free c = Ok tt

abbrev pub result_of : ℕ → Texts → Scripted → List ℕ → Result Answer Refused
result_of blocks held c buffer = result_and (may_make c.head.request c) (refusing RefusedCall (answer blocks held (call_in c buffer)))

abbrev pub answer_to : ℕ → Texts → Scripted → List ℕ → FekhtoviAnswer
answer_to blocks held c buffer = of_called (result_of blocks held c buffer)

-- the texts that are held afterwards
abbrev pub held_if_made : Result Unit Refused → Texts → Texts → Texts
held_if_made (Ok u) held held' = held'
held_if_made (Err refused) held held' = held

abbrev pub held_after : ℕ → Texts → Scripted → List ℕ → Texts
held_after blocks held c buffer = held_if_made (may_make c.head.request c) held (next blocks held (call_in c buffer))

-- the bytes that a call takes of those for the answers: its record, and a fetch's buffer
abbrev pub buffer_for : Request → ℕ → ℕ
buffer_for (ask.Load n) buffer = 0
buffer_for (ask.Clear n) buffer = 0
buffer_for (ask.Fetch n) buffer = buffer
buffer_for ask.Free buffer = 0

abbrev pub room_for : Scripted → ℕ
room_for c = 80 + buffer_for c.head.request c.head.buffer

-- what a call leaves in its place: the record, and behind it the buffer
abbrev pub left : ℕ → Texts → Scripted → List ℕ → List ℕ
left blocks held c place = encoded (answer_to blocks held c (drop 80 place)) ++ buffer_after held (call_in c (drop 80 place)) (drop 80 place)

-- A memory of so many blocks that holds `held` replays the script, with so many bytes for the answers, and writes the last list to their
-- front. It stops where no whole call stands in the script, and where the answers have no place for the next call's; else it makes the
-- call and goes on behind it.
pub data Replays (blocks : ℕ) : Texts → List ℕ → List ℕ → List ℕ → Type 0 where
  ended : {held : Texts} {script answers : List ℕ} → call_of script ≡ None → Replays blocks held script answers []
  full : {held : Texts} {script answers rest : List ℕ} {c : Scripted} → call_of script ≡ Some (c, rest) → length answers < room_for c
      → Replays blocks held script answers []
  goes : {held : Texts} {script answers rest : List ℕ} {c : Scripted} {out : List ℕ}
      → call_of script ≡ Some (c, rest) → room_for c ≤ length answers
      → Replays blocks (held_after blocks held c (drop 80 (take (room_for c) answers))) rest (drop (room_for c) answers) out
      → Replays blocks held script answers (left blocks held c (take (room_for c) answers) ++ out)

-- the first r bytes were written, by a replay, and all others are as they were
pub record Replayed (blocks : ℕ) (held : Texts) (script before : List ℕ) (r : ℕ) (after : List ℕ) : Type 0 where
  pub fits : r ≤ length before
  pub wrote : Replays blocks held script before (take r after)
  pub rest : drop r after ≡ drop r before
