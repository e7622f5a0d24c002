-- What the reader of a link table still tells, and the step that it takes next.
use Rattle.std.specs.Prelude.{◌≡◌, ℕ, ◌+◌, ◌*◌, ◌≤◌, cond, List, [], ◌∷◌, length, Some, None, Option, Ok, Err, Result, ◌==◌, nat_lt}
use Rattle.std.specs.Borrow.{Bor}
use Rattle.guide.specs.declared.Defect.TheVariants.{TableLength, BadLink, TooManyOpen, RecordsUnread}
use Rattle.guide.specs.declared.Fault.{Fault}
use Rattle.guide.specs.declared.Event.TheVariants.{Enter, Byte, Leave}
use Rattle.guide.specs.declared.records.Record.TheVariants.{Rule, Leaf}
use Rattle.guide.specs.declared.steps.Phase.{Phase}
use Rattle.guide.specs.declared.steps.Phase.TheVariants.{WrongLength, Begin, Walk}
use Rattle.guide.specs.declared.steps.Step.{Step}
use Rattle.guide.specs.declared.steps.Step.TheVariants.{Stop, Close, Open, Tell}
use Rattle.guide.specs.Told.{Finish, End, Broken, defect_at, Told, finally, ◌and◌}
use Rattle.guide.specs.LinkTable.{Entry, records, fault_at, ask, begin, follow, link_table}

-- the first record of a table and the rest, or no record
abbrev pub Split : List ℕ → Option Entry → List ℕ → Type 0
Split table None rest = records table ≡ []
Split table (Some r) rest = (length rest + 8 ≡ length table) × (records table ≡ r ∷ records rest)

-- what is still told: n records were read, `unread` is to be read, `link` is to be followed
abbrev pub link_table_from : Phase → ℕ → List ℕ → ℕ → List ℕ → Told
link_table_from WrongLength n unread link opened = fault_at TableLength 0
link_table_from Begin n unread link opened = begin n (records unread) opened
link_table_from Walk n unread link opened = follow n (records unread) link opened

-- a reader begins with what the table tells
pub record Begun (bs : List ℕ) (phase : Phase) (unread : List ℕ) : Type 0 where
  pub tells : link_table_from phase 0 unread 0 [] ≡ link_table bs
  pub short : length unread ≤ 64000

-- the step at the entry that is to be read as number n
abbrev pub read_step : Option Entry → ℕ → Result Step Fault
read_step None n = Err (defect_at BadLink (8 * n))
read_step (Some (Ok (Rule r child sibling))) n = Ok (Open r child sibling)
read_step (Some (Ok (Leaf b sibling))) n = Ok (Tell b sibling)
read_step (Some (Err d)) n = Err (defect_at d (8 * n))

-- the step that begins the walk
abbrev pub begin_step : Option Entry → ℕ → Result Step Fault
begin_step None n = Ok Stop
begin_step (Some r) n = read_step (Some r) n

-- with no node open and no link left, the walk is over, or records are unread
abbrev pub all_read : Option Entry → ℕ → Result Unit Fault
all_read None n = Ok tt
all_read (Some r) n = Err (defect_at RecordsUnread (8 * n))

-- the step in each phase, by the next record and the link
abbrev pub decided : Phase → Option Entry → ℕ → ℕ → Result Step Fault
decided WrongLength next link n = Err (defect_at TableLength 0)
decided Begin next link n = begin_step next n
decided Walk next link n =
    cond (link == 0) (Ok (Close (all_read next n))) (cond (link == n) (read_step next n) (Err (defect_at BadLink (8 * n))))

-- the finish where nothing more is told
abbrev pub finish : Result Unit Fault → Finish
finish (Ok over) = End
finish (Err f) = Broken f

-- what a step tells, where n records were read and `rest` stands behind the next
abbrev pub step_told : Step → ℕ → List ℕ → List ℕ → List ℕ → Told
step_told Stop n unread rest opened = finally End
step_told (Close r) n unread rest [] = finally (finish r)
step_told (Close r) n unread rest (sibling ∷ opened) = Leave and follow n (records unread) sibling opened
step_told (Open r child sibling) n unread rest opened =
    ask (nat_lt (length opened) 256) TooManyOpen n (Enter r and follow (n + 1) (records rest) child (sibling ∷ opened))
step_told (Tell b sibling) n unread rest opened = Byte b and follow (n + 1) (records rest) sibling opened

-- what a step or a fault tells
abbrev pub outcome_told : Result Step Fault → ℕ → List ℕ → List ℕ → List ℕ → Told
outcome_told (Ok s) n unread rest opened = step_told s n unread rest opened
outcome_told (Err f) n unread rest opened = finally (Broken f)

-- a step that reads a record leaves its eight bytes behind
abbrev pub Shorter : Step → List ℕ → List ℕ → Type 0
Shorter Stop unread rest = Unit {0}
Shorter (Close r) unread rest = Unit {0}
Shorter (Open r child sibling) unread rest = length rest + 8 ≡ length unread
Shorter (Tell b sibling) unread rest = length rest + 8 ≡ length unread

-- the step s tells what is still told, whatever nodes are open
pub record Takes (phase : Phase) (n : ℕ) (unread : List ℕ) (link : ℕ) (s : Step) (rest : List ℕ) : Type 0 where
  pub tells : (opened : List ℕ) → link_table_from phase n unread link opened ≡ step_told s n unread rest opened
  pub shorter : Shorter s unread rest

-- a step tells what is still told; or nothing is, but the fault
abbrev pub Decided : Phase → ℕ → List ℕ → ℕ → Result (Step × Bor (List ℕ)) Fault → Type 0
Decided phase n unread link (Ok r) = Takes phase n unread link r.0 r.1.now
Decided phase n unread link (Err f) = (opened : List ℕ) → link_table_from phase n unread link opened ≡ finally (Broken f)
