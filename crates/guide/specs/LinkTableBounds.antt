-- The events of any link table are in range. (A ghost member cites it, so it stands here and not in proofs/.)
use Rattle.std.specs.Prelude.{◌≡◌, ℕ, zero, suc, ◌+◌, ◌<◌, ◌≤◌, Bool, true, false, ◌&&◌, List, [], ◌∷◌, length, Ok, Err, ◌==◌, nat_le, nat_lt, refl}
use Rattle.std.proofs.Common.{sym, subst, arith}
use Rattle.std.proofs.lemmas.Bool.{and_parts, leb-true, cond_both}
use Rattle.guide.specs.declared.Defect.{Defect}
use Rattle.guide.specs.declared.Defect.TheVariants.{BadRecord, TooManyOpen, BadLink}
use Rattle.guide.specs.declared.Event.TheVariants.{Enter}
use Rattle.guide.specs.declared.records.Record.TheVariants.{Rule, Leaf}
use Rattle.guide.specs.declared.steps.Phase.{Phase}
use Rattle.guide.specs.declared.steps.Phase.TheVariants.{WrongLength, Begin, Walk}
use Rattle.guide.specs.Told.{Told, ◌and◌, InRange}
use Rattle.guide.specs.LinkTable.{Entry, field, record_of, records, ask, reading, follow, begin}
use Rattle.guide.specs.Steps.{link_table_from}

-- Tables are taken apart by eight bytes. What holds of a table too short for a record, and of a record and a table
-- wherever it holds of that table, holds of every table.
pub by_records : (P : List ℕ → Type 0) → ((bs : List ℕ) → length bs < 8 → records bs ≡ [] → P bs)
    → ((k z v1 v0 c1 c0 s1 s0 : ℕ) (bs : List ℕ) → P bs → P (k ∷ z ∷ v1 ∷ v0 ∷ c1 ∷ c0 ∷ s1 ∷ s0 ∷ bs)) → (bs : List ℕ) → P bs
by_records P short one [] = short [] (omega arith) refl
by_records P short one (k ∷ []) = short _ (omega arith) refl
by_records P short one (k ∷ z ∷ []) = short _ (omega arith) refl
by_records P short one (k ∷ z ∷ v1 ∷ []) = short _ (omega arith) refl
by_records P short one (k ∷ z ∷ v1 ∷ v0 ∷ []) = short _ (omega arith) refl
by_records P short one (k ∷ z ∷ v1 ∷ v0 ∷ c1 ∷ []) = short _ (omega arith) refl
by_records P short one (k ∷ z ∷ v1 ∷ v0 ∷ c1 ∷ c0 ∷ []) = short _ (omega arith) refl
by_records P short one (k ∷ z ∷ v1 ∷ v0 ∷ c1 ∷ c0 ∷ s1 ∷ []) = short _ (omega arith) refl
by_records P short one (k ∷ z ∷ v1 ∷ v0 ∷ c1 ∷ c0 ∷ s1 ∷ s0 ∷ bs) = one k z v1 v0 c1 c0 s1 s0 bs (by_records P short one bs)

-- a record's value is in range
abbrev ValueInRange : Entry → Type 0
ValueInRange (Ok (Rule r child sibling)) = r ≤ 9999
ValueInRange (Ok (Leaf b sibling)) = b < 256
ValueInRange (Err d) = Unit {0}

abbrev AllInRange : List Entry → Type 0
AllInRange [] = Unit {0}
AllInRange (r ∷ rs) = ValueInRange r × AllInRange rs

record_in : (k z v c s : ℕ) → ValueInRange (record_of k z v c s)
record_in k z v c s =
    cond_both (k == 1 && (z == 0 && nat_le v 9999)) (Ok (Rule v c s)) _ ValueInRange
    (λ e. let p = and_parts (k == 1) _ e in leb-true v 9999 (and_parts (z == 0) (nat_le v 9999) p.1).1)
    (λ _. cond_both (k == 2 && (z == 0 && (nat_le v 255 && c == 0))) (Ok (Leaf v s)) (Err BadRecord) ValueInRange
    (λ e.
    let p = and_parts (k == 2) _ e in
    let q = and_parts (z == 0) _ p.1 in
    let h = leb-true v 255 (and_parts (nat_le v 255) (c == 0) q.1).0 in omega arith)
    (λ _. tt))

records_in : (bs : List ℕ) → AllInRange (records bs)
records_in =
    by_records (λ bs. AllInRange (records bs)) (λ bs h e. subst AllInRange (sym e) tt)
    (λ k z v1 v0 c1 c0 s1 s0 bs h. (record_in k z (field v1 v0) (field c1 c0) (field s1 s0), h))

ask_in : (b : Bool) (d : Defect) (n : ℕ) (g : Told) → InRange g → InRange (ask b d n g)
ask_in true d n g h = h
ask_in false d n g h = tt

reading_in : (n : ℕ) (r : Entry) (opened : List ℕ) (go : ℕ → List ℕ → Told) → ValueInRange r
    → ((link : ℕ) (now_open : List ℕ) → InRange (go link now_open)) → InRange (reading n r opened go)
reading_in n (Ok (Rule r child sibling)) opened go h k =
    ask_in (nat_lt (length opened) 256) TooManyOpen n (Enter r and go child (sibling ∷ opened)) (h, k child (sibling ∷ opened))
reading_in n (Ok (Leaf b sibling)) opened go h k = (h, k sibling opened)
reading_in n (Err d) opened go h k = tt

follow_in : (n : ℕ) (rs : List Entry) (link : ℕ) (opened : List ℕ) → AllInRange rs → InRange (follow n rs link opened)
follow_in n rs zero (sibling ∷ opened) h = (tt, follow_in n rs sibling opened h)
follow_in n [] zero [] h = tt
follow_in n (r ∷ rs) zero [] h = tt
follow_in n [] (suc k) opened h = tt
follow_in n (r ∷ rs) (suc k) opened h =
    ask_in (suc k == n) BadLink n (reading n r opened (follow (n + 1) rs))
    (reading_in n r opened (follow (n + 1) rs) h.0 (λ link now_open. follow_in (n + 1) rs link now_open h.1))

begin_in : (n : ℕ) (rs : List Entry) (opened : List ℕ) → AllInRange rs → InRange (begin n rs opened)
begin_in n [] opened h = tt
begin_in n (r ∷ rs) opened h =
    reading_in n r opened (follow (n + 1) rs) h.0 (λ link now_open. follow_in (n + 1) rs link now_open h.1)

pub link_table_in_range : (p : Phase) (n : ℕ) (unread : List ℕ) (link : ℕ) (opened : List ℕ) → InRange (link_table_from p n unread link opened)
link_table_in_range WrongLength n unread link opened = tt
link_table_in_range Begin n unread link opened = begin_in n (records unread) opened (records_in unread)
link_table_in_range Walk n unread link opened = follow_in n (records unread) link opened (records_in unread)
