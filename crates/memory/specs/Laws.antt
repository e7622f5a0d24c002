-- What is proved of every memory, whatever its blocks hold.
use Rattle.std.specs.Prelude.{◌≡◌, ℕ, ◌+◌, ◌≤◌, true, List, [], length, is_some, is_ok, Some, None, Ok}
use Rattle.memory.specs.declared.Refusal.TheVariants.{NumberOutside, NotHeld}
use Rattle.memory.specs.Texts.{Texts, blocks_for, no_texts, holding, without, needs, free, is_number, ask, may_store, may_strike, may_copy_text, may_copy, storable, copyable}

-- nothing needs no block, a whole block's bytes need that block, and one byte more needs another
abbrev pub NeedsOf0_64And65Bytes : Type 0
NeedsOf0_64And65Bytes = (blocks_for 0 ≡ 0) × (blocks_for 64 ≡ 1) × (blocks_for 65 ≡ 2)

-- under a number, an empty text is not the same as none
abbrev pub EmptyTextIsNotNone : Type 0
EmptyTextIsNotNone = (s : Texts) (n : ℕ) → (holding s n [] n ≡ Some []) × (without s n n ≡ None)

-- where no text is held, every block is free
abbrev pub EmptyMemoryIsAllFree : Type 0
EmptyMemoryIsAllFree = (blocks : ℕ) → free blocks no_texts ≡ blocks

-- a text that is stored takes as many free blocks as it needs
abbrev pub StoredTextTakesItsBlocks : Type 0
StoredTextTakesItsBlocks =
    (blocks : ℕ) (s : Texts) (n : ℕ) (t : List ℕ) → storable blocks s n t ≡ true
    → free blocks s ≡ free blocks (holding s n t) + blocks_for (length t)

-- a text that is struck out leaves as many blocks free as it needed
abbrev pub StruckTextGivesItsBlocksBack : Type 0
StruckTextGivesItsBlocksBack =
    (blocks : ℕ) (s : Texts) (n : ℕ) (t : List ℕ) → needs s ≤ blocks → is_number n ≡ true → s n ≡ Some t
    → free blocks (without s n) ≡ free blocks s + blocks_for (length t)

-- Two memories of one size that hold the same texts have the same blocks free and room for the same texts: neither the order in which the
-- texts came nor the blocks in which they lie can be told. So free space never comes in pieces.
abbrev pub SameTextsSameRoom : Type 0
SameTextsSameRoom =
    (blocks : ℕ) (s s' : Texts) → ((n : ℕ) → is_number n ≡ true → s n ≡ s' n)
    → (free blocks s ≡ free blocks s') × ((n : ℕ) (t : List ℕ) → storable blocks s n t ≡ storable blocks s' n t)

-- a text is stored exactly where it can be, struck out exactly where there is one, and copied exactly where there is one and room for it
pub record DoneWherePossible (blocks : ℕ) (s : Texts) : Type 0 where
  pub stored : (n : ℕ) (t : List ℕ) → is_ok (may_store blocks s n (length t)) ≡ storable blocks s n t
  pub struck : (n : ℕ) → is_ok (may_strike s n) ≡ is_some (s n)
  pub copied : (n room : ℕ) → is_ok (may_copy s n room) ≡ copyable (s n) room

-- A strike and a copy answer as if they asked in this order: is it a number, is a text held under it, and, of a copy, is there room for
-- the text? That is proved where only numbers have texts.
pub record NumberAskedFirst (s : Texts) : Type 0 where
  pub struck : (n : ℕ) → may_strike s n ≡ ask (is_number n) NumberOutside (ask (is_some (s n)) NotHeld (Ok tt))
  pub copied : (n room : ℕ) → may_copy s n room ≡ ask (is_number n) NumberOutside (ask (is_some (s n)) NotHeld (may_copy_text n (s n) room))
