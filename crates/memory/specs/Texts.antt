-- What a memory means: under each number a text, perhaps empty, or none. How many of its blocks the texts need, and what each call answers.
use Rattle.std.specs.Prelude.{ℕ, zero, suc, ◌+◌, ◌-◌, ◌/◌, Bool, true, false, cond, not, ◌&&◌, List, ◌++◌, length, drop, is_some, Some, None, Option, Ok, Err, Result, nat_eq, nat_le, nat_lt}
use Rattle.std.specs.Map.{update}
use Rattle.memory.specs.declared.Refusal.{Refusal}
use Rattle.memory.specs.declared.Refusal.TheVariants.{NumberOutside, AlreadyHeld, TextTooLong, NoRoom, NotHeld, BufferTooShort}

-- the blocks that a text of n bytes needs: one for each 64 bytes or part of 64
abbrev pub blocks_for : ℕ → ℕ
blocks_for n = (n + 63) / 64

-- texts are held under the numbers from 1 to this
abbrev pub last_number : ℕ
last_number = 120

-- the most bytes of a text
abbrev pub longest_text : ℕ
longest_text = 4096

-- the text that is held under each number, or none
abbrev pub Texts : Type 0
Texts = ℕ → Option (List ℕ)

-- no text under any number
abbrev pub no_texts : Texts
no_texts n = None

-- s with the text t under n
abbrev pub holding : Texts → ℕ → List ℕ → Texts
holding s n t = update nat_eq s n (Some t)

-- s with no text under n
abbrev pub without : Texts → ℕ → Texts
without s n = update nat_eq s n None

-- the blocks that what is under one number needs
abbrev pub need : Option (List ℕ) → ℕ
need None = 0
need (Some t) = blocks_for (length t)

-- the sum of f over the numbers from 1 to n
unfoldable pub sum_to : (ℕ → ℕ) → ℕ → ℕ
sum_to f zero = 0
sum_to f (suc n) = f (suc n) + sum_to f n

-- the blocks that all the texts need
abbrev pub needs : Texts → ℕ
needs s = sum_to (λ n. need (s n)) last_number

-- the blocks that are left, where there are so many in all
abbrev pub free : ℕ → Texts → ℕ
free blocks s = blocks - needs s

-- is n a number for texts?
abbrev pub is_number : ℕ → Bool
is_number n = nat_lt 0 n && nat_le n last_number

-- the number under which a refusal is reported
abbrev pub refusal_number : Refusal → ℕ
refusal_number NumberOutside = 1
refusal_number AlreadyHeld = 2
refusal_number TextTooLong = 3
refusal_number NoRoom = 4
refusal_number NotHeld = 14
refusal_number BufferTooShort = 15

-- a question: the refusal where the answer is no, else what is asked next
abbrev pub ask : {A : Type 0} → Bool → Refusal → Result A Refusal → Result A Refusal
ask true why next = next
ask false why next = Err why

-- may a text of so many bytes be stored under n? If not, the first no of what is asked
abbrev pub may_store : ℕ → Texts → ℕ → ℕ → Result Unit Refusal
may_store blocks s n bytes =
    ask (is_number n) NumberOutside
    (ask (not (is_some (s n))) AlreadyHeld
    (ask (nat_le bytes longest_text) TextTooLong
    (ask (nat_le (blocks_for bytes) (free blocks s)) NoRoom (Ok tt))))

-- the refusal where nothing is held under n
abbrev pub none_held : {A : Type 0} → ℕ → Result A Refusal
none_held n = ask (is_number n) NumberOutside (Err NotHeld)

-- may the text under n be struck out? What is held is asked first, so a memory may hold a text under another number too
abbrev pub may_strike : Texts → ℕ → Result Unit Refusal
may_strike s n = cond (is_some (s n)) (Ok tt) (none_held n)

-- how many bytes of what is under n may be copied to a buffer of so many?
abbrev pub may_copy_text : ℕ → Option (List ℕ) → ℕ → Result ℕ Refusal
may_copy_text n None room = none_held n
may_copy_text n (Some t) room = ask (nat_le (length t) room) BufferTooShort (Ok (length t))

abbrev pub may_copy : Texts → ℕ → ℕ → Result ℕ Refusal
may_copy s n room = may_copy_text n (s n) room

-- can t be stored under n: is n a number without a text, t not too long, and are there as many blocks left as it needs?
abbrev pub storable : ℕ → Texts → ℕ → List ℕ → Bool
storable blocks s n t =
    is_number n && (not (is_some (s n)) && (nat_le (length t) longest_text && nat_le (blocks_for (length t)) (free blocks s)))

-- is there a text, and is a buffer of so many bytes as long?
abbrev pub copyable : Option (List ℕ) → ℕ → Bool
copyable None room = false
copyable (Some t) room = nat_le (length t) room

-- the buffer with the text at its front and its later bytes as they were; as it was, where there is no text or it is too short
abbrev pub copied : Option (List ℕ) → List ℕ → List ℕ
copied None buffer = buffer
copied (Some t) buffer = cond (nat_le (length t) (length buffer)) (t ++ drop (length t) buffer) buffer
