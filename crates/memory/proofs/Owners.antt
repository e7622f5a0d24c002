-- What numbers own: of blocks that are all unused, and after one has given its blocks back.
use Rattle.std.proofs.Common.{◌≡◌, ℕ, zero, suc, ◌+◌, ◌<◌, Bool, true, false, cond, eqb, List, [], ◌∷◌, length, get_or, replicate, is_none, Some, None, Option, sym, refl, ap, ◌∙◌, arith}
use Rattle.std.specs.Option.{option_eq}
use Rattle.std.proofs.lemmas.Bool.{eqb-true, ne_eqb}
use Rattle.std.proofs.lemmas.List.Sums.{sum_by-cons}
use Rattle.memory.specs.Blocks.{is_owner, gathered, owned, unused, released}

-- what a block counts, by the answer to a question about it
pub counts_alike : {a b : Bool} → a ≡ b → cond {A = ℕ} a 1 0 ≡ cond {A = ℕ} b 1 0
counts_alike = ap (λ (t : Bool). cond {A = ℕ} t 1 0)

-- the test by which the code finds n's blocks
pub owner_test : (n : ℕ) (o : Option ℕ) → option_eq eqb o (Some n) ≡ is_owner n o
owner_test n None = refl
owner_test n (Some k) = refl

-- one block more
pub owned_more : (n : ℕ) (o : Option ℕ) (os : List (Option ℕ)) → owned n (o ∷ os) ≡ cond (is_owner n o) 1 0 + owned n os
owned_more n = sum_by-cons (λ o. cond (is_owner n o) 1 0)

pub unused_more : (o : Option ℕ) (os : List (Option ℕ)) → unused (o ∷ os) ≡ cond (is_none o) 1 0 + unused os
unused_more = sum_by-cons (λ o. cond (is_none o) 1 0)

-- of unused blocks no number owns one
pub unused_owned : (m n : ℕ) → owned n (replicate m None) ≡ 0
unused_owned zero n = refl
unused_owned (suc m) n = let a = owned_more n None (replicate m None) in let r = unused_owned m n in omega arith

pub none_noted : (m n : ℕ) → get_or {A = Option ℕ} (replicate m None) n None ≡ None
none_noted zero n = refl
none_noted (suc m) zero = refl
none_noted (suc m) (suc n) = none_noted m n

-- who owns no block is the owner of none
pub owner_of_none : (n : ℕ) (os : List (Option ℕ)) → owned n os ≡ 0 → (k : ℕ) → k < length os → is_owner n (get_or os k None) ≡ false
owner_of_none n [] e k h = refl
owner_of_none n (o ∷ os) e zero h = by (is_owner n o) (sym (owned_more n o os) ∙ e)
  where
    by : (b : Bool) → cond b 1 0 + owned n os ≡ 0 → b ≡ false
    by false f = refl
    by true f = absurd (omega arith)
owner_of_none n (o ∷ os) e (suc k) h = let a = owned_more n o os in owner_of_none n os (omega arith) k (omega arith)

-- n gives a block back, if it is its own
module _ (n : ℕ) where
  abbrev back : Option ℕ → Option ℕ
  back o = cond (is_owner n o) None o

  back_other : (m : ℕ) → (m ≡ n → ⊥) → (o : Option ℕ) → is_owner m (back o) ≡ is_owner m o
  back_other m x None = refl
  back_other m x (Some k) = by (eqb k n) refl
    where
      by : (b : Bool) → eqb k n ≡ b → is_owner m (cond b None (Some k)) ≡ eqb k m
      by true e = sym (ne_eqb k m (λ z. x (sym z ∙ eqb-true k n e)))
      by false e = refl

  back_own : (o : Option ℕ) → is_owner n (back o) ≡ false
  back_own None = refl
  back_own (Some k) = by (eqb k n) refl
    where
      by : (b : Bool) → eqb k n ≡ b → is_owner n (cond b None (Some k)) ≡ false
      by true e = refl
      by false e = e

  back_unused : (o : Option ℕ) → cond (is_none (back o)) 1 0 ≡ cond (is_none o) 1 0 + cond (is_owner n o) 1 0
  back_unused None = refl
  back_unused (Some k) = by (eqb k n)
    where
      by : (b : Bool) → cond (is_none (cond b None (Some k))) 1 0 ≡ 0 + cond b 1 0
      by true = refl
      by false = refl

  -- n gives its blocks back
  pub released_gathered : (m : ℕ) → (m ≡ n → ⊥) → (os : List (Option ℕ)) (bs : List (List ℕ)) → gathered m (released n os) bs ≡ gathered m os bs
  released_gathered m x [] bs = refl
  released_gathered m x (o ∷ os) [] = refl
  released_gathered m x (o ∷ os) (b ∷ bs) = rw (back_other m x o, released_gathered m x os bs)

  pub released_owned : (m : ℕ) → (m ≡ n → ⊥) → (os : List (Option ℕ)) → owned m (released n os) ≡ owned m os
  released_owned m x [] = refl
  released_owned m x (o ∷ os) =
      let before = owned_more m o os in
      let after = owned_more m (back o) (released n os) in
      let one = counts_alike (back_other m x o) in
      let r = released_owned m x os in
      omega arith

  pub released_own : (os : List (Option ℕ)) → owned n (released n os) ≡ 0
  released_own [] = refl
  released_own (o ∷ os) =
      let after = owned_more n (back o) (released n os) in
      let one = counts_alike (back_own o) in
      let r = released_own os in
      omega arith

  pub released_unused : (os : List (Option ℕ)) → unused (released n os) ≡ unused os + owned n os
  released_unused [] = refl
  released_unused (o ∷ os) =
      let own = owned_more n o os in
      let before = unused_more o os in
      let after = unused_more (back o) (released n os) in
      let one = back_unused o in
      let r = released_unused os in
      omega arith
