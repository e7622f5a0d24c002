-- Numbers as pairs of bytes, the higher first.
use Rattle.std.specs.Prelude.{ℕ, ◌+◌, ◌*◌, List, [], ◌∷◌, slice_index}

abbrev pub pair : ℕ → ℕ → ℕ
pair high low = high * 256 + low

-- the byte and the pair at an offset
abbrev pub byte_at : List ℕ → ℕ → ℕ
byte_at bytes i = slice_index bytes i

abbrev pub pair_at : List ℕ → ℕ → ℕ
pair_at bytes i = pair (byte_at bytes i) (byte_at bytes (i + 1))

-- the number that two bytes are, and the numbers that bytes are
abbrev pub pair_in : List ℕ → ℕ
pair_in bytes = pair_at bytes 0

abbrev pub pairs_in : List ℕ → List ℕ
pairs_in [] = []
pairs_in (high ∷ []) = []
pairs_in (high ∷ low ∷ rest) = pair high low ∷ pairs_in rest
