-- How texts lie in blocks. Every block has an owner, the number whose text it has a piece of, or it is unused.
use Rattle.std.specs.Prelude.{◌≡◌, ℕ, ◌+◌, ◌<◌, ◌≤◌, Bool, false, cond, List, [], ◌∷◌, ◌++◌, map, length, take, Some, None, Option, is_none, ◌==◌, ◌≢◌, count_by, slice_index_or}
use Rattle.std.specs.Option.{option_map}
use Rattle.memory.specs.Texts.{Texts, blocks_for, need, needs}

-- is n the owner?
abbrev pub is_owner : ℕ → Option ℕ → Bool
is_owner n None = false
is_owner n (Some o) = o == n

-- the bytes of n's blocks, the last block first
abbrev pub gathered : ℕ → List (Option ℕ) → List (List ℕ) → List ℕ
gathered n [] blocks = []
gathered n (o ∷ owners) [] = []
gathered n (o ∷ owners) (b ∷ blocks) = cond (is_owner n o) (gathered n owners blocks ++ b) (gathered n owners blocks)

-- how many blocks n owns
abbrev pub owned : ℕ → List (Option ℕ) → ℕ
owned n owners = count_by (is_owner n) owners

-- how many blocks are unused
abbrev pub unused : List (Option ℕ) → ℕ
unused owners = count_by (λ o. is_none o) owners

-- the owners after n has given its blocks back
abbrev pub released : ℕ → List (Option ℕ) → List (Option ℕ)
released n owners = map (λ o. cond (is_owner n o) None o) owners

-- the text under each number, of the length that is noted for it
abbrev pub texts_in : List (List ℕ) → List (Option ℕ) → List (Option ℕ) → Texts
texts_in blocks owners lengths n = option_map (λ l. take l (gathered n owners blocks)) (slice_index_or lengths n None)

-- every noted length is the length of a text
abbrev pub Noted : List (List ℕ) → List (Option ℕ) → List (Option ℕ) → Type 0
Noted blocks owners lengths =
    (n : ℕ) → option_map (λ (t : List ℕ). length t) (texts_in blocks owners lengths n) ≡ slice_index_or lengths n None

-- every number owns as many blocks as its text needs
abbrev pub Owns : List (List ℕ) → List (Option ℕ) → List (Option ℕ) → Type 0
Owns blocks owners lengths = (n : ℕ) → owned n owners ≡ need (texts_in blocks owners lengths n)

-- the blocks that there are
abbrev pub all_blocks : ℕ
all_blocks = 512

-- the other blocks are unused
abbrev pub Rest : List (List ℕ) → List (Option ℕ) → List (Option ℕ) → Type 0
Rest blocks owners lengths = needs (texts_in blocks owners lengths) + unused owners ≡ all_blocks

-- so many blocks are unused
abbrev pub Counted : ℕ → List (Option ℕ) → Type 0
Counted count owners = count ≡ unused owners

-- from block i on none is unused
abbrev pub NoneUnusedFrom : ℕ → List (Option ℕ) → Type 0
NoneUnusedFrom i owners = (k : ℕ) → i ≤ k → k < length owners → is_none (slice_index_or owners k None) ≡ false

-- the last unused block, if there is one
abbrev pub IsLastUnused : List (Option ℕ) → Option ℕ → Type 0
IsLastUnused owners None = NoneUnusedFrom 0 owners
IsLastUnused owners (Some i) = (i < length owners) × (slice_index_or owners i None ≡ None) × NoneUnusedFrom (i + 1) owners

-- n's text was placed in unused blocks, as many as it needs, and no other number lost or gained a block or a byte (owners and blocks
-- afterwards have a prime)
pub record Placed (n : ℕ) (text : List ℕ) (owners : List (Option ℕ)) (blocks : List (List ℕ)) (owners' : List (Option ℕ)) (blocks' : List (List ℕ)) : Type 0 where
  pub own : take (length text) (gathered n owners' blocks') ≡ text
  pub count : owned n owners' ≡ blocks_for (length text)
  pub taken : unused owners' + owned n owners' ≡ unused owners
  pub others : (m : ℕ) → (m ≢ n) → (gathered m owners' blocks' ≡ gathered m owners blocks) × (owned m owners' ≡ owned m owners)
