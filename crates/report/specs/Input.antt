-- The two parts of an input: what stands before its first byte 10 is the text, what stands behind it the listing.
use Rattle.std.specs.Prelude.{◌≡◌, ℕ, Bool, List, ◌==◌}
use Rattle.std.specs.List.{before_first, after_first}

abbrev pub is_ending : ℕ → Bool
is_ending b = b == 10

abbrev pub text_in : List ℕ → List ℕ
text_in input = before_first is_ending input

abbrev pub listing_in : List ℕ → List ℕ
listing_in input = after_first is_ending input

abbrev pub Parted : List ℕ → List ℕ → List ℕ → Type 0
Parted input text listing = (text ≡ text_in input) × (listing ≡ listing_in input)
