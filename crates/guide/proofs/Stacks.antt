-- What push, top and pop do to the entries that are held.
use Rattle.std.proofs.Common.{◌≡◌, ℕ, ◌+◌, ◌-◌, ◌<◌, min, List, [], ◌∷◌, reverse, length, get_or, take, set, slice_get, Some, None, refl, sym, ap, ◌∙◌, inl, inr, arith, length-take, take_all}
use mathlib.Core.List.{reverse-append}
use lib.Seq.{take-length}
use Rattle.std.proofs.lemmas.List.{take_more, take_more_set, length-reverse, get_or-reverse}
use Rattle.std.proofs.lemmas.Option.{slice_get-get_or}
use Rattle.std.proofs.lemmas.Bool.{cases_lt}
use Rattle.guide.specs.Stack.{held, newest}

-- no more slots are held than there are
pub held_capped : {A : Type 0} (s : List A) (n : ℕ) → held s n ≡ held s (min n (length s))
unfolding held
held_capped s n =
    elim (cases_lt n (length s)) [
      | inl l ↦ let e : min n (length s) ≡ n = omega arith in ap (held s) (sym e)
      | inr l ↦
          let e : min n (length s) ≡ length s = omega arith in
          ap reverse (take_all n s l ∙ sym (take-length s)) ∙ ap (held s) (sym e)
    ]

pub held_length : {A : Type 0} (s : List A) (n : ℕ) → length (held s n) ≡ min n (length s)
unfolding held
held_length s n = length-reverse (take n s) ∙ length-take n s

pub held_none : {A : Type 0} (s : List A) (n : ℕ) → min n (length s) ≡ 0 → held s n ≡ []
unfolding held
held_none s n e = held_capped s n ∙ ap (held s) e

pub held_push : {A : Type 0} (s : List A) (n : ℕ) (x : A) → n < length s → held (set s n x) (n + 1) ≡ x ∷ held s n
unfolding held
held_push s n x h = ap reverse (take_more_set s n x h) ∙ reverse-append (take n s) (x ∷ [])

newest_first : {A : Type 0} (r : List A) → newest r ≡ slice_get r 0
newest_first [] = refl
newest_first (x ∷ r) = refl

-- the newest entry is in the last of the slots that are held
held_top : {A : Type 0} (s : List A) (n k : ℕ) (d : A) → k ≡ min n (length s) → 0 < k → held s n ≡ get_or s (k - 1) d ∷ held s (k - 1)
unfolding held
held_top s n k d m h =
    let up : k ≡ k - 1 + 1 = omega arith in
    held_capped s n ∙ ap (held s) (sym m ∙ up) ∙ ap reverse (take_more s (k - 1) d (omega arith))
    ∙ reverse-append (take (k - 1) s) (get_or s (k - 1) d ∷ [])

newest_last : {A : Type 0} (t : List A) → slice_get t (length t - 1) ≡ newest (reverse t)
newest_last [] = refl
newest_last (x ∷ xs) =
    let t = x ∷ xs in
    let l : length (reverse t) ≡ length t = length-reverse t in
    let first : newest (reverse t) ≡ slice_get (reverse t) 0 = newest_first (reverse t) in
    let z : length t - 1 - 0 ≡ length t - 1 = omega arith in
    slice_get-get_or t (length t - 1) x (omega arith) ∙ ap (λ (i : ℕ). Some (get_or t i x)) (sym z)
    ∙ sym (ap Some (get_or-reverse t 0 x (omega arith))) ∙ sym (slice_get-get_or (reverse t) 0 x (omega arith)) ∙ sym first

pub held_newest : {A : Type 0} (s : List A) (n k : ℕ) → k ≡ min n (length s) → slice_get (take k s) (length (take k s) - 1) ≡ newest (held s n)
unfolding held
held_newest s n k m = newest_last (take k s) ∙ ap newest (ap (held s) m ∙ sym (held_capped s n))

pub some_held : {A : Type 0} (s : List A) (n : ℕ) (x : A) → Some x ≡ newest (held s n) → 0 < min n (length s)
some_held s n x e =
    elim (cases_lt 0 (min n (length s))) [
      | inl l ↦ l
      | inr l ↦ let none : held s n ≡ [] = held_none s n (omega arith) in let e' : Some x ≡ None = e ∙ ap newest none in cc
    ]

pub held_rest : {A : Type 0} (s : List A) (n k : ℕ) (x : A) → k ≡ min n (length s) → Some x ≡ newest (held s n)
    → (k - 1 + 1 ≡ min n (length s)) × (held s n ≡ x ∷ held s (k - 1))
held_rest s n k x m e =
    let h = some_held s n x e in
    let t = held_top s n k x m (omega arith) in
    let top : Some x ≡ Some (get_or s (k - 1) x) = e ∙ ap newest t in
    let q : x ≡ get_or s (k - 1) x = cc in
    (omega arith, t ∙ ap (λ y. y ∷ held s (k - 1)) (sym q))
