-- The cue sheet: what each call is answered and what it leaves, by the texts under the numbers 1 to 120 of a memory with so many blocks.
use Rattle.std.specs.Prelude.{◌≡◌, ℕ, cond, List, [], ◌∷◌, length, Ok, Err, Result}
use Rattle.std.specs.Result.{result_and, result_map_both}
use Rattle.guide.specs.Told.{Told, after}
use Rattle.memory.specs.declared.Refusal.{Refusal as MemoryRefusal}
use Rattle.memory.specs.Texts.{Texts, no_texts, holding, without, free as free_in, is_number, ask, may_store, may_strike, may_copy, copied}
use Rattle.memory.specs.declared.Refusal.TheVariants.{NumberOutside}
use Rattle.tree.specs.declared.verdict.Accepted.{Accepted}
use Rattle.tree.specs.Verdict.{taken}
use Rattle.cues.specs.declared.answers.Answer.{Answer}
use Rattle.cues.specs.declared.answers.Answer.TheVariants as say
use Rattle.cues.specs.declared.answers.Refusal.{Refusal}
use Rattle.cues.specs.Calls.{Load, verdict_on, Call, load, clear, fetch, free, Reply, History, by_memory, checked}

-- what the memory asks of a load before the guide is read
abbrev pub before_load : ℕ → Texts → Load → Result Unit MemoryRefusal
before_load blocks s l = may_store blocks s l.number (length l.text)

abbrev pub on_load : ℕ → Texts → Load → Result Accepted Refusal
on_load blocks s l = result_and (by_memory (before_load blocks s l)) (checked (verdict_on l))

-- a clear and a fetch ask for the number first, whatever the memory holds
abbrev pub on_clear : Texts → ℕ → Result ℕ Refusal
on_clear s n = result_and (by_memory (ask (is_number n) NumberOutside (may_strike s n))) (Ok n)

abbrev pub on_fetch : Texts → ℕ → ℕ → Result ℕ Refusal
on_fetch s n room = by_memory (ask (is_number n) NumberOutside (may_copy s n room))

-- one type of answer for every call
abbrev pub answered : {A : Type 0} → (A → Answer) → Result A Refusal → Reply
answered f r = result_map_both f (λ e. e) r

-- what the sheet answers
abbrev pub answer : ℕ → Texts → Call → Reply
answer blocks s (load l) = answered say.Loaded (on_load blocks s l)
answer blocks s (clear n) = answered say.Cleared (on_clear s n)
answer blocks s (fetch n b) = answered say.Fetched (on_fetch s n (length b))
answer blocks s free = Ok (say.Free (free_in blocks s))

-- the sheet after a call, by its answer: an accepted load puts its text under its number, an answered clear strikes one out
abbrev pub with_loaded : Texts → Call → Texts
with_loaded s (load l) = holding s l.number l.text
with_loaded s (clear n) = s
with_loaded s (fetch n b) = s
with_loaded s free = s

abbrev pub changed : Texts → Call → Reply → Texts
changed s c (Ok (say.Loaded a)) = with_loaded s c
changed s c (Ok (say.Cleared n)) = without s n
changed s c (Ok (say.Fetched k)) = s
changed s c (Ok (say.Free k)) = s
changed s c (Err refusal) = s

abbrev pub next : ℕ → Texts → Call → Texts
next blocks s c = changed s c (answer blocks s c)

-- what a call leaves in the buffer
abbrev pub buffer_after : Texts → Call → List ℕ → List ℕ
buffer_after s (load l) b = b
buffer_after s (clear n) b = b
buffer_after s (fetch n b) b' = cond (is_number n) (copied (s n) b') b'
buffer_after s free b = b

-- where a load leaves its guide: unread where the memory refuses it, else behind the last answer taken
abbrev pub guide_after : Result Unit MemoryRefusal → Load → Told
guide_after (Ok _) l = after (taken (verdict_on l)) l.told
guide_after (Err why) l = l.told

abbrev pub told_after : ℕ → Texts → Call → Told → Told
told_after blocks s (load l) told = guide_after (before_load blocks s l) l
told_after blocks s (clear n) told = told
told_after blocks s (fetch n b) told = told
told_after blocks s free told = told

-- What a call finds, and what it leaves: the texts held, the bytes of the buffer, and what the guide tells. How many blocks there are no
-- call changes, and the memory's own definitions take that number beside the texts.
pub record State : Type 0 where
  pub held : Texts
  pub buffer : List ℕ
  pub told : Told

-- What each call does, by the sheet before it.
pub record Loads (blocks : ℕ) (held : Texts) (l : Load) (r : Result Accepted Refusal) (held' : Texts) (told' : Told) : Type 0 where
  pub answers : r ≡ on_load blocks held l
  pub texts : held' ≡ next blocks held (load l)
  pub guide : told' ≡ told_after blocks held (load l) l.told

pub record Clears (blocks : ℕ) (held : Texts) (n : ℕ) (r : Result ℕ Refusal) (held' : Texts) : Type 0 where
  pub answers : r ≡ on_clear held n
  pub texts : held' ≡ next blocks held (clear n)

pub record Fetches (held : Texts) (n : ℕ) (buffer : List ℕ) (r : Result ℕ Refusal) (buffer' : List ℕ) : Type 0 where
  pub answers : r ≡ on_fetch held n (length buffer)
  pub copy : buffer' ≡ buffer_after held (fetch n buffer) buffer

pub record Performs (blocks : ℕ) (found : State) (c : Call) (reply : Reply) (left : State) : Type 0 where
  pub answers : reply ≡ answer blocks found.held c
  pub texts : left.held ≡ next blocks found.held c
  pub copy : left.buffer ≡ buffer_after found.held c found.buffer
  pub guide : left.told ≡ told_after blocks found.held c found.told

-- what a memory of so many blocks went through that was empty at first, and the texts to which that led
pub data Run (blocks : ℕ) : History → Texts → Type 0 where
  start : Run blocks [] no_texts
  more : {past : History} {s : Texts} (c : Call) → Run blocks past s → Run blocks ((c, answer blocks s c) ∷ past) (next blocks s c)
