-- The places of a link table's faults.
use Rattle.std.proofs.Common.{ℕ, zero, suc, ◌+◌, ◌%◌, Bool, true, false, ◌&&◌, eqb, ltb, leb, List, [], ◌∷◌, length, Ok, Err, refl}
use Rattle.std.proofs.lemmas.Bool.{cond_both}
use Rattle.guide.specs.declared.Defect.{Defect}
use Rattle.guide.specs.declared.Defect.TheVariants.{TableLength, BadLink, TooManyOpen}
use Rattle.guide.specs.declared.Event.TheVariants.{Enter}
use Rattle.guide.specs.declared.records.Record.TheVariants.{Rule, Leaf}
use Rattle.guide.specs.LinkTable.{Entry, records, fault_at, ask, reading, follow, begin}
use Rattle.guide.specs.Told.{Told, ◌and◌}
use Rattle.forms.specs.Laws.{PlacedAfter, FaultPlaceCountsRecords}

ask_placed : (b : Bool) (d : Defect) (n : ℕ) (g : Told) → PlacedAfter n g → PlacedAfter n (ask b d n g)
ask_placed true d n g h = h
ask_placed false d n g h = refl

reading_placed : (n : ℕ) (r : Entry) (opened : List ℕ) (go : ℕ → List ℕ → Told)
    → ((link : ℕ) (now_open : List ℕ) → PlacedAfter (n + 1) (go link now_open)) → PlacedAfter n (reading n r opened go)
reading_placed n (Ok (Rule r child sibling)) opened go h =
    ask_placed (ltb (length opened) 256) TooManyOpen n (Enter r and go child (sibling ∷ opened)) (h child (sibling ∷ opened))
reading_placed n (Ok (Leaf b sibling)) opened go h = h sibling opened
reading_placed n (Err d) opened go h = refl

follow_placed : (n : ℕ) (rs : List Entry) (link : ℕ) (opened : List ℕ) → PlacedAfter n (follow n rs link opened)
follow_placed n rs zero (sibling ∷ opened) = follow_placed n rs sibling opened
follow_placed n [] zero [] = tt
follow_placed n (r ∷ rs) zero [] = refl
follow_placed n [] (suc k) opened = refl
follow_placed n (r ∷ rs) (suc k) opened =
    ask_placed (eqb (suc k) n) BadLink n (reading n r opened (follow (n + 1) rs))
    (reading_placed n r opened (follow (n + 1) rs) (λ link now_open. follow_placed (n + 1) rs link now_open))

begin_placed : (n : ℕ) (rs : List Entry) (opened : List ℕ) → PlacedAfter n (begin n rs opened)
begin_placed n [] opened = tt
begin_placed n (r ∷ rs) opened = reading_placed n r opened (follow (n + 1) rs) (λ link now_open. follow_placed (n + 1) rs link now_open)

pub fault_place_counts_records : FaultPlaceCountsRecords
fault_place_counts_records bs =
    cond_both (eqb (length bs % 8) 0 && leb (length bs) 64000) (begin 0 (records bs) []) (fault_at TableLength 0) (PlacedAfter 0)
    (λ _. begin_placed 0 (records bs) []) (λ _. refl)
