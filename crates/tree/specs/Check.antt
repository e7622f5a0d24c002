-- The check of a guide against a grammar and a text: which question is the first to be answered no.
use Rattle.std.specs.Prelude.{ℕ, ◌+◌, min, Bool, true, false, List, [], ◌∷◌, length, Some, None, Ok, Err, Option, Result, ◌==◌, nat_lt}
use Rattle.guide.specs.declared.Event.{Event}
use Rattle.guide.specs.declared.Event.TheVariants.{Enter, Byte, Leave}
use Rattle.guide.specs.declared.Fault.{Fault}
use Rattle.guide.specs.Told.{Finish, End, Broken, Told, finally, ◌and◌}
use Rattle.grammar.specs.declared.Part.{Part}
use Rattle.grammar.specs.declared.Part.TheVariants.{Symbol, Range, Except}
use Rattle.grammar.specs.Meaning.{Rule, Meaning, allows}
use Rattle.tree.specs.declared.verdict.Reason.{Reason}
use Rattle.tree.specs.declared.verdict.Reason.TheVariants.{GuideFault, TooManyEvents, NotAwaited, NoSuchRule, OtherSymbol, TooDeep, ByteNotAllowed, ByteNotNext, TextLeft}
use Rattle.tree.specs.Verdict.{Verdict, accepted, refused}

-- the most events that a walk may have
abbrev pub most_events : ℕ
most_events = 16000

-- how many nodes may be open, by the entries of the frame memory: at most 1,024 count
abbrev pub depth_limit : ℕ → ℕ
depth_limit frames = min frames 1024

-- where a check stands
pub record State : Type 0 where
  -- the parts still to come of the newest open node; before the root is entered, the start symbol
  pub parts : List Part
  -- the same of each older node, the newest first; last of all what is to come after the root: nothing
  pub older : List (List Part)
  -- the text bytes that are not yet used
  pub text : List ℕ
  -- the rules entered, the bytes used and the events accepted
  pub rules : ℕ
  pub bytes : ℕ
  pub events : ℕ

-- the check goes on, or it has its verdict
-- (no Result: what ends a check may be an acceptance, which is no error)
pub data Progress : Type 0 where
  going : State → Progress
  over : Verdict → Progress

abbrev pub begin : Meaning → List ℕ → State
begin g text = record { parts = Symbol g.start ∷ []; older = []; text = text; rules = 0; bytes = 0; events = 0 }

-- an answer of no
abbrev pub no : Reason → State → Progress
no why s = over (refused why s.events s.bytes)

-- a question: go on where the answer is yes
abbrev pub ask : Bool → Reason → State → Progress → Progress
ask true why s next = next
ask false why s next = no why s

-- a rule node is open, with the parts qs to come; ps are left of the node below it
abbrev pub entered : State → List Part → List Part → State
entered s ps qs =
    record { parts = qs; older = ps ∷ s.older; text = s.text; rules = s.rules + 1; bytes = s.bytes; events = s.events + 1 }

-- a byte is used
abbrev pub read : State → List Part → List ℕ → State
read s ps text =
    record { parts = ps; older = s.older; text = text; rules = s.rules; bytes = s.bytes + 1; events = s.events + 1 }

-- the newest open node is left
abbrev pub left : State → List Part → List (List Part) → State
left s ps older =
    record { parts = ps; older = older; text = s.text; rules = s.rules; bytes = s.bytes; events = s.events + 1 }

-- an enter where the symbol a is awaited: is there such a rule, is a its left symbol, are fewer than D nodes open?
abbrev pub enter_rule : ℕ → State → ℕ → List Part → Option Rule → Progress
enter_rule D s a ps None = no NoSuchRule s
enter_rule D s a ps (Some R) =
    ask (R.left == a) OtherSymbol s (ask (nat_lt (length s.older) D) TooDeep s (going (entered s ps R.parts)))

abbrev pub on_enter : Meaning → ℕ → State → ℕ → List Part → Progress
on_enter g D s r [] = no NotAwaited s
on_enter g D s r (Symbol a ∷ ps) = enter_rule D s a ps (g.rule r)
on_enter g D s r (Range low high ∷ ps) = no NotAwaited s
on_enter g D s r (Except x y z ∷ ps) = no NotAwaited s

-- an allowed byte: is it the next of the text?
abbrev pub next_byte : State → ℕ → List Part → List ℕ → Progress
next_byte s b ps [] = no ByteNotNext s
next_byte s b ps (c ∷ text) = ask (b == c) ByteNotNext s (going (read s ps text))

-- a byte where a leaf is awaited: does the part allow it?
abbrev pub on_byte : State → ℕ → List Part → Progress
on_byte s b [] = no NotAwaited s
on_byte s b (Symbol a ∷ ps) = no NotAwaited s
on_byte s b (Range low high ∷ ps) = ask (allows (Range low high) b) ByteNotAllowed s (next_byte s b ps s.text)
on_byte s b (Except x y z ∷ ps) = ask (allows (Except x y z) b) ByteNotAllowed s (next_byte s b ps s.text)

-- a leave is awaited where no part is left of the newest open node
abbrev pub on_leave : State → List Part → List (List Part) → Progress
on_leave s [] [] = no NotAwaited s
on_leave s [] (ps ∷ older) = going (left s ps older)
on_leave s (p ∷ ps) older = no NotAwaited s

abbrev pub of_kind : Meaning → ℕ → State → Event → Progress
of_kind g D s (Enter r) = on_enter g D s r s.parts
of_kind g D s (Byte b) = on_byte s b s.parts
of_kind g D s Leave = on_leave s s.parts s.older

-- an event: came fewer than 16,000 before it?
abbrev pub on_event : Meaning → ℕ → State → Event → Progress
on_event g D s e = ask (nat_lt s.events most_events) TooManyEvents s (of_kind g D s e)

-- the end is awaited where the root has left: is all text used?
abbrev pub at_end : State → List Part → List (List Part) → List ℕ → Verdict
at_end s [] [] [] = accepted s.rules s.bytes (s.events + 1)
at_end s [] [] (c ∷ text) = refused TextLeft s.events s.bytes
at_end s [] (ps ∷ older) text = refused NotAwaited s.events s.bytes
at_end s (p ∷ ps) older text = refused NotAwaited s.events s.bytes

abbrev pub at_finish : State → Finish → Verdict
at_finish s End = at_end s s.parts s.older s.text
at_finish s (Broken f) = refused (GuideFault f) s.events s.bytes

-- one answer of the guide
abbrev pub step : Meaning → ℕ → State → Result (Option Event) Fault → Progress
step g D s (Ok (Some e)) = on_event g D s e
step g D s (Ok None) = over (at_finish s End)
step g D s (Err f) = over (at_finish s (Broken f))

-- the answers one by one, to the finish or to the first no
abbrev pub run : Meaning → ℕ → Progress → Told → Verdict
run g D (over v) told = v
run g D (going s) (finally f) = at_finish s f
run g D (going s) (e and told) = run g D (on_event g D s e) told

-- the verdict on a guide, with at most D nodes open
abbrev pub verdict : Meaning → ℕ → List ℕ → Told → Verdict
verdict g D text told = run g D (going (begin g text)) told
