-- What can be asked of a cue memory, by its meaning, and what is answered.
use Rattle.std.specs.Prelude.{ℕ, List, Result}
use Rattle.std.specs.Result.{result_map_both}
use Rattle.guide.specs.Told.{Told}
use Rattle.grammar.specs.Meaning.{Meaning}
use Rattle.memory.specs.declared.Refusal.{Refusal as MemoryRefusal}
use Rattle.memory.specs.Texts.{refusal_number as memory_number}
use Rattle.tree.specs.declared.verdict.Accepted.{Accepted}
use Rattle.tree.specs.Verdict.{Verdict, reason_number}
use Rattle.tree.specs.Check.{depth_limit, verdict}
use Rattle.cues.specs.declared.answers.Answer.{Answer}
use Rattle.cues.specs.declared.answers.Refusal.{Refusal}
use Rattle.cues.specs.declared.answers.Refusal.TheVariants.{Memory, Check}

-- the number of each refusal
abbrev pub refusal_number : Refusal → ℕ
refusal_number (Memory why) = memory_number why
refusal_number (Check refusal) = reason_number refusal.reason

-- how many events were accepted when it came: none before the check of a guide
abbrev pub refusal_events : Refusal → ℕ
refusal_events (Memory why) = 0
refusal_events (Check refusal) = refusal.events

-- how many text bytes were used when it came
abbrev pub refusal_bytes : Refusal → ℕ
refusal_bytes (Memory why) = 0
refusal_bytes (Check refusal) = refusal.bytes

-- what a load is handed: a cue number, a text, a grammar by its meaning, a guide by what it tells, and the entries of its frame memory
pub record Load : Type 0 where
  pub number : ℕ
  pub text : List ℕ
  pub grammar : Meaning
  pub told : Told
  pub frames : ℕ

abbrev pub loading : ℕ → List ℕ → Meaning → Told → ℕ → Load
loading n t g told frames = record { number = n; text = t; grammar = g; told = told; frames = frames }

-- how many nodes of the load's tree may be open
abbrev pub depth_of : Load → ℕ
depth_of l = depth_limit l.frames

-- the verdict on the load's guide
abbrev pub verdict_on : Load → Verdict
verdict_on l = verdict l.grammar (depth_of l) l.text l.told

-- a call by its arguments; a fetch has what its buffer holds
pub data Call : Type 0 where
  load : Load → Call
  clear : ℕ → Call
  fetch : ℕ → List ℕ → Call
  free : Call

-- what comes back of a call: its answer, or why it is refused
abbrev pub Reply : Type 0
Reply = Result Answer Refusal

-- what went on, the newest first: calls with what came back
abbrev pub History : Type 0
History = List (Call × Reply)

-- the memory's own answer, and the verdict on a guide, as a call passes them on
abbrev pub by_memory : {A : Type 0} → Result A MemoryRefusal → Result A Refusal
by_memory r = result_map_both (λ x. x) Memory r

abbrev pub checked : Verdict → Result Accepted Refusal
checked v = result_map_both (λ a. a) Check v
