-- Sums over the numbers from 1.
use Rattle.std.proofs.Common.{◌≡◌, ℕ, zero, suc, ◌+◌, ◌<◌, ◌≤◌, sym, refl, ap, inl, inr, arith}
use Rattle.std.proofs.lemmas.Bool.{cases_eq}
use Rattle.memory.specs.Texts.{sum_to}

pub sum_to_none : (m : ℕ) → sum_to (λ _. 0) m ≡ 0
unfolding sum_to
sum_to_none zero = refl
sum_to_none (suc m) = let r = sum_to_none m in omega arith

pub sum_to_same : (f g : ℕ → ℕ) (m : ℕ) → ((n : ℕ) → 0 < n → n ≤ m → f n ≡ g n) → sum_to f m ≡ sum_to g m
unfolding sum_to
sum_to_same f g zero h = refl
sum_to_same f g (suc m) h =
    let e = h (suc m) (omega arith) (omega arith) in
    let r = sum_to_same f g m (λ n p q. h n p (omega arith)) in
    omega arith

-- where f and g differ at k alone, so do the sums
pub sum_to_change : (f g : ℕ → ℕ) (k m : ℕ) → 0 < k → k ≤ m → ((n : ℕ) → (n ≡ k → ⊥) → f n ≡ g n) → sum_to f m + g k ≡ sum_to g m + f k
unfolding sum_to
sum_to_change f g k zero p q h = omega arith
sum_to_change f g k (suc m) p q h =
    elim (cases_eq k (suc m)) [
      | inl e ↦
          let r = sum_to_same f g m (λ n a b. h n (λ z. omega arith)) in
          let x : f k ≡ f (suc m) = ap f e in
          let y : g k ≡ g (suc m) = ap g e in
          omega arith
      | inr ne ↦
          let r = sum_to_change f g k m p (omega arith) h in
          let x = h (suc m) (λ z. ne (sym z)) in
          omega arith
    ]
