-- The law over every run of load, clear, fetch and free, in terms of what was asked and answered before, and of parse trees.
use Rattle.std.specs.Prelude.{◌≡◌, ℕ, ◌+◌, ◌*◌, ◌<◌, ◌≤◌, ◌⊎◌, ◌↔◌, List, [], ◌∷◌, ◌++◌, length, drop, Some, Ok, Err, ◌≢◌}
use Rattle.guide.specs.Told.{after}
use Rattle.memory.specs.declared.Refusal.{Refusal as MemoryRefusal}
use Rattle.memory.specs.declared.Refusal.TheVariants.{NumberOutside, AlreadyHeld, TextTooLong, NoRoom, NotHeld, BufferTooShort}
use Rattle.memory.specs.Texts.{Texts, blocks_for, last_number, longest_text, needs, free as free_in}
use Rattle.tree.specs.declared.verdict.Accepted.{Accepted}
use Rattle.tree.specs.declared.verdict.Refusal.{Refusal as CheckRefusal}
use Rattle.tree.specs.Theorems.{TellsTree, RefusedThere}
use Rattle.tree.specs.Tree.{Tree, rules}
use Rattle.cues.specs.declared.answers.Answer.TheVariants as say
use Rattle.cues.specs.declared.answers.Refusal.{Refusal}
use Rattle.cues.specs.declared.answers.Refusal.TheVariants.{Memory, Check}
use Rattle.cues.specs.Calls.{Load, depth_of, verdict_on, Call, load, clear, fetch, free, Reply, History, checked}
use Rattle.cues.specs.Sheet.{answered, State, Performs, Run}

-- Words.
-- the load was accepted
abbrev pub IsLoaded : Reply → Type 0
IsLoaded r = (x : Accepted) × (r ≡ Ok (say.Loaded x))

abbrev pub IsRefused : Reply → Type 0
IsRefused r = (refusal : Refusal) × (r ≡ Err refusal)

-- refused by the memory, for this reason
abbrev pub RefusedFor : MemoryRefusal → Reply → Type 0
RefusedFor why r = r ≡ Err (Memory why)

-- the call is a load of t under n, and was accepted
abbrev pub Puts : Call → Reply → ℕ → List ℕ → Type 0
Puts c r n t = (l : Load) × (c ≡ load l) × IsLoaded r × (l.number ≡ n) × (l.text ≡ t)

-- the history leaves t under n: an accepted load put it there, and no clear of n was answered since
abbrev pub Leaves : History → ℕ → List ℕ → Type 0
Leaves [] n t = ⊥
Leaves ((c, r) ∷ past) n t = Puts c r n t ⊎ (Leaves past n t × (r ≢ Ok (say.Cleared n)))

-- the history leaves nothing under n
abbrev pub Unused : History → ℕ → Type 0
Unused past n = (t : List ℕ) → Leaves past n t → ⊥

-- these are just the texts that the history leaves
abbrev pub HoldsJust : Texts → History → Type 0
HoldsJust held past = (n : ℕ) (t : List ℕ) → (held n ≡ Some t) ↔ Leaves past n t

-- a cue number is 1 to 120
abbrev pub Lawful : ℕ → Type 0
Lawful n = (0 < n) × (n ≤ last_number)

-- a text fits: it is not too long, and needs no more blocks than the texts held leave
abbrev pub Fits : ℕ → Texts → List ℕ → Type 0
Fits blocks held t = (length t ≤ longest_text) × (blocks_for (length t) ≤ free_in blocks held)

-- the load's guide tells the whole walk of the parse tree, within the limits and spelling the text, and then ends
abbrev pub Shows : Load → Tree → Type 0
Shows l t = TellsTree l.grammar (depth_of l) l.text l.told t

-- how many answers of the guide a call took, by what came back: all the steps of an accepted load, one behind the events of a refused
-- check, and none of any other
abbrev pub answers_taken : Reply → ℕ
answers_taken (Ok (say.Loaded x)) = x.steps
answers_taken (Ok (say.Cleared n)) = 0
answers_taken (Ok (say.Fetched k)) = 0
answers_taken (Ok (say.Free k)) = 0
answers_taken (Err (Memory why)) = 0
answers_taken (Err (Check refusal)) = refusal.events + 1

-- The law.
-- a load `l` after the history `past`, while `held` is held
pub record OfLoad (blocks : ℕ) (past : History) (held : Texts) (l : Load) (reply : Reply) : Type 0 where
  -- it is accepted exactly when its number is lawful, nothing is left under it, its text fits, and its guide shows a parse tree
  pub accepted :
      IsLoaded reply ↔ (Lawful l.number × Unused past l.number × Fits blocks held l.text × ((t : Tree) × Shows l t))
  -- it then answers the rules of that tree, the bytes of the text, and the steps: twice the rules, plus the bytes, plus one
  pub counted : (x : Accepted) (t : Tree) → reply ≡ Ok (say.Loaded x) → Shows l t
      → (x.rules ≡ rules t) × (x.bytes ≡ length l.text) × (x.steps ≡ 2 * rules t + length l.text + 1)
  -- what is refused before the guide is read, and exactly when
  pub refused_number : RefusedFor NumberOutside reply ↔ (Lawful l.number → ⊥)
  pub refused_held : RefusedFor AlreadyHeld reply ↔ ((t : List ℕ) × Leaves past l.number t)
  pub refused_length :
      RefusedFor TextTooLong reply ↔ (Lawful l.number × Unused past l.number × (longest_text < length l.text))
  pub refused_blocks :
      RefusedFor NoRoom reply
      ↔ (Lawful l.number × Unused past l.number × (length l.text ≤ longest_text) × (free_in blocks held < blocks_for (length l.text)))
  -- otherwise the check of the guide decides
  pub decided : Lawful l.number → Unused past l.number → Fits blocks held l.text → reply ≡ answered say.Loaded (checked (verdict_on l))
  -- a refusal during the check says where: the events accepted, the text bytes that they told, and that a guide which begins alike and
  -- goes on alike is refused alike; it blames a fault exactly where the guide's own fault comes next
  pub refused_check : (refusal : CheckRefusal) → reply ≡ Err (Check refusal)
      → RefusedThere l.grammar (depth_of l) l.text l.told refusal.reason refusal.events refusal.bytes

-- a clear of n after the history `past`
pub record OfClear (past : History) (n : ℕ) (reply : Reply) : Type 0 where
  -- it is answered exactly when something is left under n
  pub cleared : (reply ≡ Ok (say.Cleared n)) ↔ ((t : List ℕ) × Leaves past n t)
  pub refused_none : RefusedFor NotHeld reply ↔ (Lawful n × Unused past n)
  pub refused_number : RefusedFor NumberOutside reply ↔ (Lawful n → ⊥)

-- a fetch of n into `buffer`, which then holds `buffer'`
pub record OfFetch (past : History) (n : ℕ) (buffer : List ℕ) (reply : Reply) (buffer' : List ℕ) : Type 0 where
  -- it answers k exactly when a text of k bytes is left under n, and the buffer is at least as long
  pub fetched : (k : ℕ) → (reply ≡ Ok (say.Fetched k)) ↔ ((t : List ℕ) × Leaves past n t × (length t ≡ k) × (k ≤ length buffer))
  -- the text is then at the buffer's front, and the bytes behind it are as they were
  pub given_back : (k : ℕ) (t : List ℕ) → reply ≡ Ok (say.Fetched k) → Leaves past n t → buffer' ≡ t ++ drop k buffer
  pub refused_short : RefusedFor BufferTooShort reply ↔ ((t : List ℕ) × Leaves past n t × (length buffer < length t))
  pub refused_none : RefusedFor NotHeld reply ↔ (Lawful n × Unused past n)
  pub refused_number : RefusedFor NumberOutside reply ↔ (Lawful n → ⊥)

abbrev pub Promised : ℕ → History → Texts → Call → Reply → List ℕ → Type 0
Promised blocks past held (load l) reply buffer' = OfLoad blocks past held l reply
Promised blocks past held (clear n) reply buffer' = OfClear past n reply
Promised blocks past held (fetch n buffer) reply buffer' = OfFetch past n buffer reply buffer'
Promised blocks past held free reply buffer' = reply ≡ Ok (say.Free (free_in blocks held))

-- The memory stands where the history led it: it holds just what the history leaves, all of it under lawful numbers, and the blocks that
-- these texts need and the free ones are all its blocks.
pub record Stands (blocks : ℕ) (past : History) (held : Texts) : Type 0 where
  pub holds : HoldsJust held past
  pub numbered : (n : ℕ) (t : List ℕ) → Leaves past n t → Lawful n
  pub balance : needs held + free_in blocks held ≡ blocks

-- One call of a run. `past` is what was asked and answered before. Now comes `call`, which finds `found`; it is answered `reply`, and
-- leaves `left`.
pub record Whole (blocks : ℕ) (past : History) (found : State) (call : Call) (reply : Reply) (left : State) : Type 0 where
  -- the memory stands where the longer history led it
  pub stands : Stands blocks ((call, reply) ∷ past) left.held
  -- what is promised of this call
  pub promised : Promised blocks past found.held call reply left.buffer
  -- a refused call changes nothing, and only a fetch writes into the buffer
  pub unchanged : IsRefused reply → (left.held ≡ found.held) × (left.buffer ≡ found.buffer)
  pub spared : ((n : ℕ) (b : List ℕ) → call ≢ fetch n b) → left.buffer ≡ found.buffer
  -- the guide stands behind the answers that were taken
  pub guide : left.told ≡ after (answers_taken reply) found.told

-- it holds of the call after every history that led to the texts found
abbrev pub Law : ℕ → State → Call → Reply → State → Type 0
Law blocks found call reply left = (past : History) → Stands blocks past found.held → Whole blocks past found call reply left

-- every history of a memory that was empty at first goes on by the call to the texts left, and the law holds of the call
abbrev pub GoesOn : ℕ → State → Call → Reply → State → Type 0
GoesOn blocks found call reply left =
    (past : History) → Run blocks past found.held
    → Run blocks ((call, reply) ∷ past) left.held × Stands blocks past found.held × Whole blocks past found call reply left

-- a call was performed: the law holds of it, every history goes on by it, and it did what the cue sheet says
pub record Performed (blocks : ℕ) (found : State) (call : Call) (reply : Reply) (left : State) : Type 0 where
  pub law : Law blocks found call reply left
  pub run : GoesOn blocks found call reply left
  pub sheet : Performs blocks found call reply left

-- these texts are where a run begins: with no history
pub record Begins (blocks : ℕ) (held : Texts) : Type 0 where
  pub run : Run blocks [] held
  pub stands : Stands blocks [] held

-- two histories leave the same texts
abbrev pub LeaveAlike : History → History → Type 0
LeaveAlike p q = (n : ℕ) (t : List ℕ) → Leaves p n t ↔ Leaves q n t

-- The law leaves nothing open, and only what is left counts: where two histories leave the same texts, the same call with the same buffer
-- and guide gets the same answer and leaves the same texts, the same buffer and the same guide. So the order in which texts came, and what
-- was cleared before, make no difference, and free space never comes in pieces.
abbrev pub OnlyWhatIsLeftCounts : Type 0
OnlyWhatIsLeftCounts =
    (blocks : ℕ) (p q : History) (found found' : State) (call : Call) (reply reply' : Reply) (left left' : State)
    → found.buffer ≡ found'.buffer → found.told ≡ found'.told
    → Stands blocks p found.held → Stands blocks q found'.held → LeaveAlike p q
    → Whole blocks p found call reply left → Whole blocks q found' call reply' left'
    → (reply ≡ reply') × (left.held ≡ left'.held) × (left.buffer ≡ left'.buffer) × (left.told ≡ left'.told)
