-- Numbers as pairs of bytes.
use Rattle.std.proofs.Common.{◌≡◌, ℕ, zero, suc, ◌+◌, ◌*◌, ◌<◌, ◌≤◌, List, [], ◌∷◌, map, length, refl, ap, arith}
use Rattle.std.specs.Simd.{first_chunks}
use Rattle.fekhtovi.specs.Pairs.{pair, pair_in, pairs_in}

-- the numbers of the chunks of two bytes are those of the bytes
pub numbers_of_chunks : (k : ℕ) (bytes : List ℕ) → 2 * k ≤ length bytes → length bytes < 2 * k + 2 → map pair_in (first_chunks 2 k bytes) ≡ pairs_in bytes
numbers_of_chunks zero [] few many = refl
numbers_of_chunks zero (h ∷ []) few many = refl
numbers_of_chunks zero (h ∷ l ∷ rest) few many = absurd (omega arith)
numbers_of_chunks (suc k) [] few many = absurd (omega arith)
numbers_of_chunks (suc k) (h ∷ []) few many = absurd (omega arith)
numbers_of_chunks (suc k) (h ∷ l ∷ rest) few many = ap (λ ns. pair h l ∷ ns) (numbers_of_chunks k rest (omega arith) (omega arith))
