-- The first chunks of a list: lemmas on their number and places.
use Rattle.std.specs.Prelude.{◌≡◌, ℕ, zero, suc, ◌*◌, ◌<◌, ◌≤◌, List, ◌∷◌, length, take, drop, slice_index_or, refl}
use Rattle.std.specs.Simd.{first_chunks}
use Rattle.std.proofs.Common.{sym, ap, ◌∙◌, mul-zero, mul-suc, add_comm, arith}
use Rattle.std.proofs.lemmas.List.{drop-drop}

pub length_chunks : {X : Type 0} (w n : ℕ) (xs : List X) → length (first_chunks w n xs) ≡ n
length_chunks w zero xs = refl
length_chunks w (suc n) xs = ap suc (length_chunks w n (drop w xs))

-- one width on is one chunk on
pub drop_chunk : {X : Type 0} (w n : ℕ) (xs : List X) → drop (w * n) (drop w xs) ≡ drop (w * suc n) xs
drop_chunk w n xs = drop-drop (w * n) w xs ∙ ap (λ k. drop k xs) (add_comm w (w * n) ∙ sym (mul-suc w n))

-- fewer chunks are the first of more
pub take_chunks : {X : Type 0} (w k n : ℕ) (xs : List X) → k ≤ n → take k (first_chunks w n xs) ≡ first_chunks w k xs
take_chunks w zero n xs l = refl
take_chunks w (suc k) zero xs l = absurd (omega arith)
take_chunks w (suc k) (suc n) xs l = ap (λ ps. take w xs ∷ ps) (take_chunks w k n (drop w xs) (omega arith))

-- the k-th chunk is what stands k widths on
pub slice_index_or_chunks : {X : Type 0} (w n : ℕ) (xs : List X) (k : ℕ) (d : List X) → k < n → slice_index_or (first_chunks w n xs) k d ≡ take w (drop (w * k) xs)
slice_index_or_chunks w zero xs k d l = absurd (omega arith)
slice_index_or_chunks w (suc n) xs zero d l = sym (ap (λ k. take w (drop k xs)) (mul-zero w))
slice_index_or_chunks w (suc n) xs (suc k) d l = slice_index_or_chunks w n (drop w xs) k d (omega arith) ∙ ap (take w) (drop_chunk w k xs)
