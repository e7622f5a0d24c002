-- A stack in a slice: the first `len` slots are held, the newest last.
use Rattle.std.specs.Prelude.{◌≡◌, ℕ, ◌+◌, ◌<◌, ◌≤◌, min, List, [], ◌∷◌, reverse, length, take, Some, None, Option, Ok, Err, Result, slice_set}
use Rattle.guide.specs.declared.stack.Full.{Full}

-- the entries that are held, the newest first
unfoldable pub held : {A : Type 0} → List A → ℕ → List A
held slots len = reverse (take len slots)

abbrev pub newest : {A : Type 0} → List A → Option A
newest [] = None
newest (x ∷ xs) = Some x

-- x is put on top of what was held, in the slot behind it; or every slot is held, and nothing changes
abbrev pub Pushed : {A : Type 0} → List A → ℕ → A → Result Unit Full → List A → ℕ → Type 0
Pushed slots len x (Ok done) slots' len' =
    (len < length slots) × (slots' ≡ slice_set slots len x) × (len' ≡ len + 1) × (held slots' len' ≡ x ∷ held slots len)
Pushed slots len x (Err full) slots' len' = (length slots ≤ len) × (slots' ≡ slots) × (len' ≡ len)

-- the newest entry is taken off and the others stay held; or none is held, and nothing changes
abbrev pub Popped : {A : Type 0} → List A → ℕ → Option A → ℕ → Type 0
Popped slots len None len' = (held slots len ≡ []) × (len' ≡ len)
Popped slots len (Some x) len' = (len' + 1 ≡ min len (length slots)) × (held slots len ≡ x ∷ held slots len')
