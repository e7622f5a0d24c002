-- The link table: which events and finish any bytes mean.
use Rattle.std.specs.Prelude.{ℕ, zero, suc, ◌+◌, ◌*◌, ◌%◌, Bool, true, false, cond, ◌&&◌, List, [], ◌∷◌, length, Ok, Err, Result, ◌==◌, nat_le, nat_lt}
use Rattle.guide.specs.declared.Defect.{Defect}
use Rattle.guide.specs.declared.Defect.TheVariants.{TableLength, BadRecord, BadLink, TooManyOpen, RecordsUnread}
use Rattle.guide.specs.declared.Event.TheVariants.{Enter, Byte, Leave}
use Rattle.guide.specs.declared.records.Record.{Record}
use Rattle.guide.specs.declared.records.Record.TheVariants.{Rule, Leaf}
use Rattle.guide.specs.Told.{End, fault, Told, finally, ◌and◌}

-- a big-endian field of two bytes
abbrev pub field : ℕ → ℕ → ℕ
field high low = high * 256 + low

-- what eight bytes hold: a record, or the defect of bytes that are not in form
abbrev pub Entry : Type 0
Entry = Result Record Defect

-- kind 1 is a rule up to 9,999, kind 2 a leaf up to 255 without a child; the byte behind the kind is 0
abbrev pub record_of : ℕ → ℕ → ℕ → ℕ → ℕ → Entry
record_of kind nought value child sibling =
    cond (kind == 1 && (nought == 0 && nat_le value 9999)) (Ok (Rule value child sibling))
    (cond (kind == 2 && (nought == 0 && (nat_le value 255 && child == 0))) (Ok (Leaf value sibling)) (Err BadRecord))

-- the records of a table, eight bytes each: kind, zero, value, child, sibling
abbrev pub records : List ℕ → List Entry
records [] = []
records (k ∷ []) = []
records (k ∷ z ∷ []) = []
records (k ∷ z ∷ v1 ∷ []) = []
records (k ∷ z ∷ v1 ∷ v0 ∷ []) = []
records (k ∷ z ∷ v1 ∷ v0 ∷ c1 ∷ []) = []
records (k ∷ z ∷ v1 ∷ v0 ∷ c1 ∷ c0 ∷ []) = []
records (k ∷ z ∷ v1 ∷ v0 ∷ c1 ∷ c0 ∷ s1 ∷ []) = []
records (k ∷ z ∷ v1 ∷ v0 ∷ c1 ∷ c0 ∷ s1 ∷ s0 ∷ bs) = record_of k z (field v1 v0) (field c1 c0) (field s1 s0) ∷ records bs

-- the fault behind n records whose events were told
abbrev pub fault_at : Defect → ℕ → Told
fault_at d n = finally (fault d (8 * n))

-- g where the question is answered yes, else the fault
abbrev pub ask : Bool → Defect → ℕ → Told → Told
ask true d n g = g
ask false d n g = fault_at d n

-- entry number n is read, and `go` tells what comes of the link to follow and the siblings of the open nodes:
-- a rule's node is open, and its child is followed; a leaf's sibling is followed
abbrev pub reading : ℕ → Entry → List ℕ → (ℕ → List ℕ → Told) → Told
reading n (Ok (Rule r child sibling)) opened go = ask (nat_lt (length opened) 256) TooManyOpen n (Enter r and go child (sibling ∷ opened))
reading n (Ok (Leaf b sibling)) opened go = Byte b and go sibling opened
reading n (Err d) opened go = fault_at d n

-- what is told from a link on, where n records were read and rs are unread; `opened` has the siblings of the open nodes, the newest first.
-- Link 0 leads nowhere: a leave is told of the newest open node, and its sibling is the next link; with none open the walk is over.
-- Any other link leads to the next unread record, or it is wrong.
abbrev pub follow : ℕ → List Entry → ℕ → List ℕ → Told
follow n rs zero (sibling ∷ opened) = Leave and follow n rs sibling opened
follow n [] zero [] = finally End
follow n (r ∷ rs) zero [] = fault_at RecordsUnread n
follow n [] (suc k) opened = fault_at BadLink n
follow n (r ∷ rs) (suc k) opened = ask (suc k == n) BadLink n (reading n r opened (λ link now_open. follow (n + 1) rs link now_open))

-- the first record begins the walk; an empty table ends at once
abbrev pub begin : ℕ → List Entry → List ℕ → Told
begin n [] opened = finally End
begin n (r ∷ rs) opened = reading n r opened (follow (n + 1) rs)

-- what a link table tells
abbrev pub link_table : List ℕ → Told
link_table bs = cond (length bs % 8 == 0 && nat_le (length bs) 64000) (begin 0 (records bs) []) (fault_at TableLength 0)
