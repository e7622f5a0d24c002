-- What room there is depends on the texts alone.
use Rattle.std.proofs.Common.{◌≡◌, ℕ, ◌+◌, ◌-◌, ◌<◌, ◌≤◌, Bool, true, false, not, eqb, leb, List, length, is_some, Some, None, Option, refl, ap, arith}
use Rattle.std.specs.Map.{update}
use Rattle.std.proofs.lemmas.Bool.{and_parts, leb-true}
use Rattle.std.proofs.lemmas.Map.{update_here, update_apart}
use Rattle.std.proofs.lemmas.Bool.Decides.{nat_tests}
use Rattle.memory.specs.Texts.{Texts, blocks_for, longest_text, need, needs, free, is_number, storable}
use Rattle.memory.specs.Laws.{StoredTextTakesItsBlocks, StruckTextGivesItsBlocksBack}
use Rattle.memory.proofs.Sums.{sum_to_same, sum_to_change}

pub number_within : (n : ℕ) → is_number n ≡ true → (0 < n) × (n ≤ 120)
number_within n e = (grind (arith, nat_tests), grind (arith, nat_tests))

pub number : (n : ℕ) → 0 < n → n ≤ 120 → is_number n ≡ true
number n p q = grind (arith, nat_tests)

module _ (blocks : ℕ) (s s' : Texts) (same : (n : ℕ) → is_number n ≡ true → s n ≡ s' n) where
  pub same_free : free blocks s ≡ free blocks s'
  same_free = ap (λ (x : ℕ). blocks - x) (sum_to_same (λ n. need (s n)) (λ n. need (s' n)) 120 (λ n p q. ap need (same n (number n p q))))

  pub same_storable : (n : ℕ) (t : List ℕ) → storable blocks s n t ≡ storable blocks s' n t
  same_storable n t = by (is_number n) refl
    where
      by : (b : Bool) → is_number n ≡ b → storable blocks s n t ≡ storable blocks s' n t
      by true e = let f = same_free in let h = same n e in simp (h, f)
      by false e = simp e

-- a change of what is under one number
pub updated_needs : (s : Texts) (n : ℕ) (o : Option (List ℕ)) → is_number n ≡ true → needs (update eqb s n o) + need (s n) ≡ needs s + need o
updated_needs s n o numbered =
    let within = number_within n numbered in
    let here : update eqb s n o n ≡ o = update_here s n o in
    let change = sum_to_change (λ m. need (update eqb s n o m)) (λ m. need (s m)) n 120 within.0 within.1 (λ m h. ap need (update_apart s n o m h)) in
    simp here at change

unneeded : (o : Option (List ℕ)) → not (is_some o) ≡ true → need o ≡ 0
unneeded None e = refl
unneeded (Some t) e = let z : ◌≡◌ {A = ℕ} 0 1 = cc in absurd (omega arith)

pub stored_free : StoredTextTakesItsBlocks
stored_free blocks s n t e =
    let p = and_parts (is_number n) _ e in
    let q = and_parts (not (is_some (s n))) _ p.1 in
    let r = and_parts (leb (length t) longest_text) _ q.1 in
    let none : need (s n) ≡ 0 = unneeded (s n) q.0 in
    let room = leb-true (blocks_for (length t)) (free blocks s) r.1 in
    let u = updated_needs s n (Some t) p.0 in
    omega arith

pub struck_free : StruckTextGivesItsBlocksBack
struck_free blocks s n t h numbered e =
    let had = ap need e in
    let u = updated_needs s n None numbered in
    omega arith
