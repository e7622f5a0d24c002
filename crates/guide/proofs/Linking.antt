-- What the reader of a link table goes by.
use Rattle.std.proofs.Common.{◌≡◌, ℕ, zero, suc, ◌+◌, ◌-◌, ◌*◌, ◌≤◌, Bool, true, false, cond, eqb, ltb, List, [], ◌∷◌, length, get_or, take, drop, Some, None, Option, Ok, Err, Result, sym, refl, ap, ◌∙◌, arith}
use Rattle.std.specs.Result.{result_or}
use Rattle.std.proofs.lemmas.List.{take_rest, length-drop}
use Rattle.std.proofs.lemmas.Bool.{lt-ltb, le-ltb, cond-false, ne_eqb}
use Rattle.guide.specs.declared.Defect.TheVariants.{BadLink, TooManyOpen}
use Rattle.guide.specs.declared.Fault.{Fault}
use Rattle.guide.specs.declared.Event.TheVariants.{Enter, Byte}
use Rattle.guide.specs.declared.records.Record.TheVariants.{Rule, Leaf}
use Rattle.guide.specs.declared.stack.Full.{Full}
use Rattle.guide.specs.declared.steps.Phase.{Phase}
use Rattle.guide.specs.declared.steps.Phase.TheVariants.{WrongLength, Begin, Walk}
use Rattle.guide.specs.declared.steps.Step.{Step}
use Rattle.guide.specs.declared.steps.Step.TheVariants.{Close, Open, Tell}
use Rattle.guide.specs.LinkTable.{Entry, field, record_of, records, fault_at, ask, reading, follow, begin, link_table}
use Rattle.guide.specs.LinkTableBounds.{by_records}
use Rattle.guide.specs.Stack.{held, Pushed}
use Rattle.guide.specs.Steps.{Split, link_table_from, Begun, read_step, all_read, decided, finish, step_told, outcome_told, Shorter, Takes}
use Rattle.guide.specs.Told.{Broken, defect_at, fault, Told, finally, ◌and◌, answer, behind}
use Rattle.guide.proofs.Answering.{done, next_one}
use Rattle.guide.proofs.Stacks.{held_length, held_none}

-- Records.
-- the record in the first eight bytes
abbrev first_record : List ℕ → Entry
first_record bs =
    record_of (get_or bs 0 0) (get_or bs 1 0) (field (get_or bs 2 0) (get_or bs 3 0)) (field (get_or bs 4 0) (get_or bs 5 0)) (field (get_or bs 6 0) (get_or bs 7 0))

records_split : (bs : List ℕ) → 8 ≤ length bs → records bs ≡ first_record bs ∷ records (drop 8 bs)
records_split =
    by_records (λ bs. 8 ≤ length bs → records bs ≡ first_record bs ∷ records (drop 8 bs)) (λ bs l e h. absurd (omega arith))
    (λ k z v1 v0 c1 c0 s1 s0 bs i h. refl)

pub split_first : (bs : List ℕ) (r : Entry) → 8 ≤ length bs → r ≡ first_record bs → Split bs (Some r) (take (length bs - 8) (drop 8 bs))
split_first bs r h e = rw take_rest (simp length-drop (omega arith), records_split bs h ∙ ap (λ x. x ∷ records (drop 8 bs)) (sym e))

-- Steps.
-- a link other than 0, where b says whether it names the next record
abbrev linked : Bool → ℕ → List Entry → List ℕ → Told
linked b n [] opened = fault_at BadLink n
linked b n (r ∷ rs) opened = ask b BadLink n (reading n r opened (follow (n + 1) rs))

linked_is : (n k : ℕ) (rs : List Entry) (opened : List ℕ) → follow n rs (suc k) opened ≡ linked (eqb (suc k) n) n rs opened
linked_is n k [] opened = refl
linked_is n k (r ∷ rs) opened = refl

module _ (n : ℕ) (unread rest : List ℕ) where
  -- the records that a split leaves to the reader
  abbrev seen : Option Entry → List Entry
  seen None = []
  seen (Some r) = r ∷ records rest

  seen_is : (next : Option Entry) → Split unread next rest → records unread ≡ seen next
  seen_is None s = s
  seen_is (Some r) s = s.1

  linked_told : (b : Bool) (next : Option Entry) (opened : List ℕ)
      → linked b n (seen next) opened ≡ outcome_told (cond b (read_step next n) (Err (defect_at BadLink (8 * n)))) n unread rest opened
  linked_told true None opened = refl
  linked_told false None opened = refl
  linked_told true (Some (Ok (Rule r child sibling))) opened = refl
  linked_told true (Some (Ok (Leaf b sibling))) opened = refl
  linked_told true (Some (Err d)) opened = refl
  linked_told false (Some r) opened = refl

  begin_told : (next : Option Entry) (link : ℕ) (opened : List ℕ)
      → begin n (seen next) opened ≡ outcome_told (decided Begin next link n) n unread rest opened
  begin_told None link opened = refl
  begin_told (Some (Ok (Rule r child sibling))) link opened = refl
  begin_told (Some (Ok (Leaf b sibling))) link opened = refl
  begin_told (Some (Err d)) link opened = refl

  finish_told : (next : Option Entry) → follow n (seen next) zero [] ≡ finally (finish (all_read next n))
  finish_told None = refl
  finish_told (Some r) = refl

  tells_step : (p : Phase) (link : ℕ) (next : Option Entry) (opened : List ℕ) → Split unread next rest
      → link_table_from p n unread link opened ≡ outcome_told (decided p next link n) n unread rest opened
  tells_step WrongLength link next opened s = refl
  tells_step Begin link next opened s = ap (λ rs. begin n rs opened) (seen_is next s) ∙ begin_told next link opened
  tells_step Walk zero next [] s = ap (λ rs. follow n rs zero []) (seen_is next s) ∙ finish_told next
  tells_step Walk zero next (sibling ∷ opened) s = refl
  tells_step Walk (suc k) next opened s =
      linked_is n k (records unread) opened ∙ ap (λ rs. linked (eqb (suc k) n) n rs opened) (seen_is next s)
      ∙ linked_told (eqb (suc k) n) next opened
      ∙ ap (λ x. outcome_told x n unread rest opened) (sym (cond-false (eqb (suc k) 0) _ _ (ne_eqb (suc k) 0 (λ e. omega arith))))

  -- a step that reads a record leaves its bytes behind, and a fault reads none
  abbrev Behind : Result Step Fault → Type 0
  Behind (Ok s) = Shorter s unread rest
  Behind (Err f) = Unit {0}

  read_shorter : (next : Option Entry) → Split unread next rest → Behind (read_step next n)
  read_shorter None s = tt
  read_shorter (Some (Ok (Rule r child sibling))) s = s.0
  read_shorter (Some (Ok (Leaf b sibling))) s = s.0
  read_shorter (Some (Err d)) s = tt

  walk_shorter : (none here : Bool) (next : Option Entry) (f : Result Unit Fault) (g : Fault) → Split unread next rest
      → Behind (cond none (Ok (Close f)) (cond here (read_step next n) (Err g)))
  walk_shorter true here next f g s = tt
  walk_shorter false true next f g s = read_shorter next s
  walk_shorter false false next f g s = tt

  step_shorter : (p : Phase) (link : ℕ) (next : Option Entry) → Split unread next rest → Behind (decided p next link n)
  step_shorter WrongLength link next s = tt
  step_shorter Begin link None s = tt
  step_shorter Begin link (Some r) s = read_shorter (Some r) s
  step_shorter Walk link next s = walk_shorter (eqb link 0) (eqb link n) next _ _ s

  module _ (p : Phase) (link : ℕ) (next : Option Entry) (split : Split unread next rest) where
    pub step_taken : (s : Step) → Ok s ≡ decided p next link n → Takes p n unread link s rest
    step_taken s e = record {
      tells = λ opened. rw (← e) at (tells_step p link next opened split);
      shorter = rw (← e) at (step_shorter p link next split);
    }

    pub step_refused : (f : Fault) → Err f ≡ decided p next link n → (opened : List ℕ) → link_table_from p n unread link opened ≡ finally (Broken f)
    step_refused f e opened = rw (← e) at (tells_step p link next opened split)

-- The node of a rule record is opened.
module _ (p : Phase) (n : ℕ) (unread rest : List ℕ) (link : ℕ) (slots : List ℕ) (depth : ℕ) (sized : length slots ≡ 256) where
  abbrev Here : Told
  Here = link_table_from p n unread link (held slots depth)

  module _ (step : Step) (v child sibling : ℕ) (taken : step ≡ Open v child sibling) (step_is : Takes p n unread link step rest) where
    asked : (room : Bool) → ltb (length (held slots depth)) 256 ≡ room
        → Here ≡ ask room TooManyOpen n (Enter v and follow (n + 1) (records rest) child (sibling ∷ held slots depth))
    asked room e =
        step_is.tells (held slots depth) ∙ ap (λ s. step_told s n unread rest (held slots depth)) taken
        ∙ ap (λ b. ask b TooManyOpen n (Enter v and follow (n + 1) (records rest) child (sibling ∷ held slots depth))) e

    -- what the sibling's push came to, and the fault that it is answered with
    pub no_room : (pushed : Result Unit Full) (slots' : List ℕ) (depth' : ℕ) (f : Fault) → Pushed slots depth sibling pushed slots' depth'
        → Err f ≡ result_or pushed (Err (defect_at TooManyOpen (8 * n)))
        → (Err f ≡ answer Here) × (link_table_from p n unread link (held slots' depth') ≡ behind Here)
    no_room (Ok done) slots' depth' f h e = cc
    no_room (Err full) slots' depth' f h e =
        let k = held_length slots depth in
        let a : f ≡ defect_at TooManyOpen (8 * n) = cc in
        rw (a, h.1, h.2) (done Here (fault TooManyOpen (8 * n)) (asked false (le-ltb _ 256 (omega arith))))

    pub opened : (pushed : Result Unit Full) (slots' : List ℕ) (depth' : ℕ) (u : Unit) → Pushed slots depth sibling pushed slots' depth'
        → Ok u ≡ result_or pushed (Err (defect_at TooManyOpen (8 * n)))
        → (Ok (Some (Enter v)) ≡ answer Here) × (follow (n + 1) (records rest) child (held slots' depth') ≡ behind Here)
    opened (Ok done) slots' depth' u h e =
        let k = held_length slots depth in
        next_one Here _ (Enter v)
        (asked true (lt-ltb _ 256 (omega arith)) ∙ ap (λ o. Enter v and follow (n + 1) (records rest) child o) (sym h.3))
    opened (Err full) slots' depth' u h e = cc

-- A leaf is told.
pub leaf_told : (p : Phase) (n : ℕ) (unread rest : List ℕ) (link : ℕ) (slots : List ℕ) (depth : ℕ) (s : Step) (b sibling : ℕ) → s ≡ Tell b sibling
    → Takes p n unread link s rest
    → (Ok (Some (Byte b)) ≡ answer (link_table_from p n unread link (held slots depth)))
    × (follow (n + 1) (records rest) sibling (held slots depth) ≡ behind (link_table_from p n unread link (held slots depth)))
leaf_told p n unread rest link slots depth s b sibling taken step_is =
    next_one _ _ (Byte b) (step_is.tells (held slots depth) ∙ ap (λ x. step_told x n unread rest (held slots depth)) taken)

-- no node is open where the reader begins
pub begun_told : (bs : List ℕ) (p : Phase) (unread slots : List ℕ) → Begun bs p unread → link_table_from p 0 unread 0 (held slots 0) ≡ link_table bs
begun_told bs p unread slots b = ap (link_table_from p 0 unread 0) (held_none slots 0 (omega arith)) ∙ b.tells
