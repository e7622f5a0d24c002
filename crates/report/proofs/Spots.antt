-- A part of some bytes from an offset on.
use Rattle.std.proofs.Common.{◌≡◌, ℕ, zero, suc, ◌-◌, min, List, [], ◌∷◌, ◌++◌, length, take, drop, Some, None, Option, sym, refl, ap, ◌∙◌, subst, arith, length-drop, take-append-drop, length-take}
use native.Mathlib.Numerals.{unary_clauses}
use Rattle.std.proofs.lemmas.List.{take_all}
use Rattle.report.specs.Spot.{spot_length, spotted, PartAt, StandsAt}
use Rattle.report.specs.declared.spot.Place.{Place}
use Rattle.report.specs.declared.spot.Place.TheVariants.{InText, InGuide}

-- an offset past the end leaves nothing, as the end does
drop_min : (at : ℕ) (bs : List ℕ) → drop (min at (length bs)) bs ≡ drop at bs
drop_min zero bs = simp unary_clauses refl
drop_min (suc n) [] = simp unary_clauses refl
drop_min (suc n) (b ∷ bs) = simp unary_clauses (drop_min n bs)

take_min : (n : ℕ) (bs : List ℕ) → take (min (length bs) n) bs ≡ take n bs
take_min zero bs = simp unary_clauses refl
take_min (suc n) [] = simp unary_clauses refl
take_min (suc n) (b ∷ bs) = simp unary_clauses (ap (λ l. b ∷ l) (take_min n bs))

pub part_taken : (bs : List ℕ) (at from long : ℕ) → from ≡ min at (length bs)
    → long ≡ min (length (take (length bs - from) (drop from bs))) spot_length
    → take (long - 0) (take (length bs - from) (drop from bs)) ≡ take spot_length (drop at bs)
part_taken bs at from long e f =
    let all : take (length bs - from) (drop from bs) ≡ drop from bs = take_all (length bs - from) (drop from bs) (omega (arith, length-drop from bs)) in
    let few : long - 0 ≡ min (length (take (length bs - from) (drop from bs))) spot_length = omega (arith, f) in
    ap (λ n. take n (take (length bs - from) (drop from bs))) few ∙ take_min spot_length (take (length bs - from) (drop from bs))
    ∙ ap (take spot_length) (all ∙ ap (λ n. drop n bs) e ∙ drop_min at bs)

part_stands : (all : List ℕ) (at : ℕ) → PartAt all at (take spot_length (drop at all))
part_stands all at = record {
  before = take at all;
  behind = drop spot_length (drop at all);
  whole = ap (λ l. take at all ++ l) (take-append-drop spot_length (drop at all)) ∙ take-append-drop at all;
  offset = length-take at all;
  long = length-take spot_length (drop at all) ∙ ap (min spot_length) (length-drop at all);
}

spot_stands : (p : Option Place) (text guide : List ℕ) → StandsAt p text guide (spotted p text guide)
spot_stands (Some (InText at)) text guide = part_stands text at
spot_stands (Some (InGuide at)) text guide = part_stands guide at
spot_stands None text guide = refl

-- the part that the definition gives stands at its place
pub stands_there : (p : Option Place) (text guide part : List ℕ) → part ≡ spotted p text guide → StandsAt p text guide part
stands_there p text guide part e = subst (StandsAt p text guide) (sym e) (spot_stands p text guide)
