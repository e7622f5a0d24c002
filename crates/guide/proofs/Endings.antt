-- The first line of a listing ends at its first byte 10.
use Rattle.std.proofs.Common.{◌≡◌, ℕ, zero, suc, ◌+◌, ◌<◌, Bool, true, false, eqb, cond, List, [], ◌∷◌, length, get_or, take, drop, Some, None, Option, sym, refl, ap, ◌∙◌, add-one, arith, length-take-le}
use Rattle.std.specs.List.{position, position_from}
use Rattle.std.proofs.lemmas.List.Quantifiers.{position-Some}
use Rattle.std.proofs.lemmas.Iterator.Adapters.{position_from-zero}
use Rattle.std.proofs.lemmas.Bool.{cond-true, cond-false}
use Rattle.guide.specs.Listing.{unended, ended, longer, lines}

line_found : (bs : List ℕ) (i : ℕ) → i < length bs → eqb (get_or bs i 0) 10 ≡ true → ((k : ℕ) → k < i → eqb (get_or bs k 0) 10 ≡ false)
    → lines bs ≡ ended (take i bs) (lines (drop (suc i) bs))
line_found [] i h e before = absurd (omega arith)
line_found (b ∷ bs) zero h e before = cond-true (eqb b 10) _ _ e
line_found (b ∷ bs) (suc i) h e before =
    cond-false (eqb b 10) _ _ (before 0 (omega arith))
    ∙ ap (longer b) (line_found bs i (omega arith) e (λ k l. before (suc k) (omega arith)))

pub line_here : (bs : List ℕ) (i : ℕ) → position (λ b. eqb b 10) bs ≡ Some i
    → (length (take i bs) < length bs) × (lines bs ≡ ended (take i bs) (lines (drop (length (take i bs) + 1) bs)))
line_here bs i e =
    let p = position-Some (λ b. eqb b 10) bs i 0 e in
    let l : length (take i bs) ≡ i = length-take-le i bs (omega arith) in
    rw l (p.0, line_found bs i p.0 p.1 p.2 ∙ ap (λ (k : ℕ). ended (take i bs) (lines (drop k bs))) (sym (add-one i)))

unended_after : (ending : Bool) (b k : ℕ) (bs : List ℕ) (later : Option ℕ) → (later ≡ None → lines bs ≡ unended bs)
    → cond ending (Some k) later ≡ None → cond ending (ended [] (lines bs)) (longer b (lines bs)) ≡ unended (b ∷ bs)
unended_after true b k bs later h e = cc
unended_after false b k bs later h e = ap (longer b) (h e)

unended_from : (k : ℕ) (bs : List ℕ) → position_from (λ b. eqb b 10) k bs ≡ None → lines bs ≡ unended bs
unended_from k [] e = refl
unended_from k (b ∷ bs) e = unended_after (eqb b 10) b k bs (position_from (λ c. eqb c 10) (k + 1) bs) (unended_from (k + 1) bs) e

pub line_unended : (bs : List ℕ) → position (λ b. eqb b 10) bs ≡ None → lines bs ≡ unended bs
line_unended bs e = unended_from 0 bs (sym (position_from-zero (λ b. eqb b 10) bs) ∙ e)
