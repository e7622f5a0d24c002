-- Where a walk stands, by the frames of its open nodes: the row of parts that each has still to come.
use Rattle.std.specs.Prelude.{◌≡◌, ℕ, zero, suc, ◌+◌, ◌<◌, List, [], ◌∷◌, length, drop, Some, None, Ok, Err, Option, Result}
use Rattle.std.specs.declared.ops.ControlFlow.{ControlFlow}
use Rattle.std.specs.declared.ops.ControlFlow.TheVariants.{Continue, Break}
use Rattle.guide.specs.declared.Event.{Event}
use Rattle.guide.specs.declared.Fault.{Fault}
use Rattle.guide.specs.Stack.{held}
use Rattle.grammar.specs.declared.Part.{Part}
use Rattle.grammar.specs.declared.Part.TheVariants.{Symbol}
use Rattle.grammar.specs.Meaning.{Rule, Meaning}
use Rattle.tree.specs.declared.verdict.Reason.{Reason}
use Rattle.tree.specs.declared.verdict.Refusal.{Refusal}
use Rattle.tree.specs.Verdict.{Verdict}
use Rattle.tree.specs.Check.{State, Progress, going, over, no, of_kind, on_event, step}
use Rattle.walk.specs.declared.state.Frame.{Frame}
use Rattle.walk.specs.declared.state.Walk.{Walk}
use Rattle.walk.specs.declared.state.LentWalk.{LentWalk}

abbrev pub parts_of : Option Rule → List Part
parts_of None = []
parts_of (Some r) = r.parts

-- the parts that a frame's node has still to come
abbrev pub row : Meaning → Frame → List Part
row g f = drop f.next (parts_of (g.rule f.rule))

-- the same of each open node, the newest first, and last of what comes after the root: nothing
abbrev pub rows : Meaning → List Frame → List (List Part)
rows g [] = [] ∷ []
rows g (f ∷ fs) = row g f ∷ rows g fs

-- before any rule is entered, the start symbol is still to come
abbrev pub all_rows : Meaning → ℕ → List Frame → List (List Part)
all_rows g zero fs = (Symbol g.start ∷ []) ∷ []
all_rows g (suc n) fs = rows g fs

abbrev pub first_row : List (List Part) → List Part
first_row [] = []
first_row (ps ∷ pss) = ps

abbrev pub other_rows : List (List Part) → List (List Part)
other_rows [] = []
other_rows (ps ∷ pss) = pss

-- the parts still to come of the newest open node, and of the older ones
abbrev pub parts_at : Meaning → List Frame → Walk → List Part
parts_at g frames w = first_row (all_rows g w.rules (held frames w.depth))

abbrev pub older_at : Meaning → List Frame → Walk → List (List Part)
older_at g frames w = other_rows (all_rows g w.rules (held frames w.depth))

-- the state of the check at which a walk stands, with the frames and the text that it is lent
abbrev pub stands_at : Meaning → List Frame → List ℕ → Walk → State
stands_at g frames text w =
    record {
      parts = parts_at g frames w;
      older = older_at g frames w;
      text = drop w.used text;
      rules = w.rules;
      bytes = w.used;
      events = w.events;
    }

-- the same of a walk that holds what it is lent
abbrev pub parts_now : {B : Type 0} → Meaning → LentWalk B → List Part
parts_now g w = parts_at g w.frames.now w.counts

abbrev pub older_now : {B : Type 0} → Meaning → LentWalk B → List (List Part)
older_now g w = older_at g w.frames.now w.counts

abbrev pub state_of : {B : Type 0} → Meaning → LentWalk B → State
state_of g w = stands_at g w.frames.now w.text.now w.counts

-- the newest open node's awaited part is behind
abbrev pub advanced : List Frame → List Frame
advanced [] = []
advanced (f ∷ fs) = record { rule = f.rule; next = f.next + 1 } ∷ fs

-- the number of the newest open node's next part fits a byte with one to spare
abbrev pub NextFits : List Frame → Type 0
NextFits [] = Unit {0}
NextFits (f ∷ fs) = f.next < 255

-- the check goes on where a kept walk stands, or is over with a verdict
abbrev pub went : Meaning → List Frame → List ℕ → ControlFlow Verdict Walk → Progress
went g frames text (Continue w) = going (stands_at g frames text w)
went g frames text (Break v) = over v

-- the answer a takes the walk w to r and the frames to frames', as the check of the same answer goes
abbrev pub StepsTo : Meaning → List ℕ → List Frame → Walk → Result (Option Event) Fault → ControlFlow Verdict Walk → List Frame → Type 0
StepsTo g text frames w a r frames' = went g frames' text r ≡ step g (length frames) (stands_at g frames text w) a

-- the check goes on where the walk stands, or is over with a reason and the walk's counts
abbrev pub led_to : {B : Type 0} → Meaning → Result Unit Reason → LentWalk B → Progress
led_to g (Ok _) w = going (state_of g w)
led_to g (Err why) w = no why (state_of g w)

-- the check goes on where the walk stands, or is over with a refusal
abbrev pub progress_of : {B : Type 0} → Meaning → Result Unit Refusal → LentWalk B → Progress
progress_of g (Ok _) w = going (state_of g w)
progress_of g (Err f) w = over (Err f)

-- the event e, of which there are not too many, takes the walk w to w', or is refused
abbrev pub Takes : {B : Type 0} → Meaning → LentWalk B → Event → Result Unit Reason → LentWalk B → Type 0
Takes g w e r w' = led_to g r w' ≡ of_kind g (length w.frames.now) (state_of g w) e

-- the same of any event
abbrev pub Follows : {B : Type 0} → Meaning → LentWalk B → Event → Result Unit Reason → LentWalk B → Type 0
Follows g w e r w' = led_to g r w' ≡ on_event g (length w.frames.now) (state_of g w) e

-- the event e takes the walk w to w', or is refused, as the check of the same event goes
abbrev pub Steps : {B : Type 0} → Meaning → LentWalk B → Event → Result Unit Refusal → LentWalk B → Type 0
Steps g w e r w' = progress_of g r w' ≡ on_event g (length w.frames.now) (state_of g w) e

-- what a walk is lent stays what it was, but for the entries of the frame memory
pub record SameLoans {B : Type 0} (w w' : LentWalk B) : Type 0 where
  pub grammar : w'.grammar.now ≡ w.grammar.now
  pub text : w'.text.now ≡ w.text.now
  pub memory : w'.frames.ghost_name ≡ w.frames.ghost_name
  pub frames : length w'.frames.now ≡ length w.frames.now
