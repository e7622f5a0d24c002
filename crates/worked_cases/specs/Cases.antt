-- The worked cases: cues as they are handed in, and what the check says of each.
use Rattle.std.specs.Prelude.{◌≡◌, ℕ, List, [], ◌∷◌, ◌++◌, Ok, Err, codes}
use Prim.Native.String.{String}
use Rattle.std.specs.List.{AllByRecursion}
use Rattle.guide.specs.Listing.{listing}
use Rattle.guide.specs.LinkTable.{link_table}
use Rattle.guide.specs.Told.{Told, defect_number}
use Rattle.grammar.specs.Meaning.{Meaning}
use Rattle.grammar.specs.House.{house_meaning}
use Rattle.grammar.specs.Spaced.{spaced_meaning}
use Rattle.memory.specs.Texts.{blocks_for}
use Rattle.tree.specs.declared.verdict.Reason.{Reason}
use Rattle.tree.specs.declared.verdict.Reason.TheVariants.{GuideFault, TooManyEvents, NotAwaited, NoSuchRule, OtherSymbol, TooDeep, ByteNotAllowed, ByteNotNext, TextLeft}
use Rattle.tree.specs.Check.{depth_limit, verdict}
use Rattle.tree.specs.Verdict.{Verdict, reason_number}
use Rattle.report.specs.Cueline.{cueline}

-- A verdict in numbers: accepted with rules, bytes and steps; refused with the number, the events accepted and the text bytes used; the
-- same for a fault of the guide, with the fault's own number and place.
pub data Numbers : Type 0 where
  ok : ℕ → ℕ → ℕ → Numbers
  no : ℕ → ℕ → ℕ → Numbers
  faulty : ℕ → ℕ → ℕ → ℕ → ℕ → Numbers

abbrev pub refused_by : Reason → ℕ → ℕ → Numbers
refused_by (GuideFault fault) events bytes = faulty (reason_number (GuideFault fault)) events bytes (defect_number fault.defect) fault.place
refused_by TooManyEvents events bytes = no (reason_number TooManyEvents) events bytes
refused_by NotAwaited events bytes = no (reason_number NotAwaited) events bytes
refused_by NoSuchRule events bytes = no (reason_number NoSuchRule) events bytes
refused_by OtherSymbol events bytes = no (reason_number OtherSymbol) events bytes
refused_by TooDeep events bytes = no (reason_number TooDeep) events bytes
refused_by ByteNotAllowed events bytes = no (reason_number ByteNotAllowed) events bytes
refused_by ByteNotNext events bytes = no (reason_number ByteNotNext) events bytes
refused_by TextLeft events bytes = no (reason_number TextLeft) events bytes

abbrev pub in_numbers : Verdict → Numbers
in_numbers (Ok a) = ok a.rules a.bytes a.steps
in_numbers (Err f) = refused_by f.reason f.events f.bytes

-- the lines of a listing, each ended by byte 10
abbrev pub lined : List String → List ℕ
lined [] = []
lined (l ∷ ls) = codes l ++ (10 ∷ lined ls)

-- records of a link table with small numbers: a rule with child and sibling, a leaf with its sibling
abbrev pub rule_record : ℕ → ℕ → ℕ → List ℕ
rule_record rule child sibling = 1 ∷ 0 ∷ 0 ∷ rule ∷ 0 ∷ child ∷ 0 ∷ sibling ∷ []

abbrev pub leaf_record : ℕ → ℕ → List ℕ
leaf_record byte sibling = 2 ∷ 0 ∷ 0 ∷ byte ∷ 0 ∷ 0 ∷ 0 ∷ sibling ∷ []

-- the tree of 7@5 behind its root's line: a Set of two Nums with "@" between them, and the leaves of the three
abbrev pub behind_root : List String
behind_root = "(2" ∷ "(3" ∷ "=37" ∷ ")" ∷ "=40" ∷ "(3" ∷ "=35" ∷ ")" ∷ ")" ∷ []

-- the listing that begins with the line `first`
abbrev pub beginning : String → Told
beginning first = listing (lined ((first ∷ behind_root) ++ (")" ∷ [])))

abbrev pub whole : Told
whole = beginning "(0"

-- the link table of 7@5, where the first Num, which is record 2, has this sibling; 4 is the right one
abbrev pub linked : ℕ → Told
linked sibling =
    link_table (rule_record 0 1 0 ++ rule_record 2 2 0 ++ rule_record 3 3 sibling ++ leaf_record 55 0 ++ leaf_record 64 5 ++ rule_record 3 6 0 ++ leaf_record 53 0)

-- the text "7 @5" where blanks may stand between parts: rule 8 is no blank, rule 9 a blank and what follows it
abbrev pub with_blank : Told
with_blank =
    listing (lined ("(0" ∷ "(2" ∷ "(3" ∷ "=37" ∷ ")" ∷ "(9" ∷ "=20" ∷ "(8" ∷ ")" ∷ ")" ∷ "=40" ∷ "(8" ∷ ")" ∷ "(3" ∷ "=35" ∷ ")" ∷ ")" ∷ ")" ∷ []))

-- a case: a grammar, a text, what its guide tells, the entries of the frame memory, and the verdict
pub record Case : Type 0 where
  pub grammar : Meaning
  pub text : String
  pub guide : Told
  pub frames : ℕ
  pub outcome : Numbers

abbrev pub house : String → Told → ℕ → Numbers → Case
house text guide frames outcome = record { grammar = house_meaning; text = text; guide = guide; frames = frames; outcome = outcome }

abbrev pub spaced : String → Told → ℕ → Numbers → Case
spaced text guide frames outcome = record { grammar = spaced_meaning house_meaning; text = text; guide = guide; frames = frames; outcome = outcome }

abbrev pub cases : List Case
cases =
    house "7@5" whole 3 (ok 4 3 12)
    ∷ house "7@5" (linked 4) 3 (ok 4 3 12)
    -- one frame too few
    ∷ house "7@5" whole 2 (no 10 2 0)
    -- another text, and a longer one
    ∷ house "7@6" whole 3 (no 12 7 2)
    ∷ house "7@5;" whole 3 (no 13 11 3)
    -- the last line missing, and every line
    ∷ house "7@5" (listing (lined ("(0" ∷ behind_root))) 3 (no 7 10 3)
    ∷ house "7@5" (listing []) 3 (no 7 0 0)
    -- no such rule, and a rule of another symbol
    ∷ house "7@5" (beginning "(9") 3 (no 8 0 0)
    ∷ house "7@5" (beginning "(2") 3 (no 9 0 0)
    -- the same without a frame: that there is none is asked last
    ∷ house "7@5" (beginning "(9") 0 (no 8 0 0)
    ∷ house "7@5" (beginning "(2") 0 (no 9 0 0)
    ∷ house "7@5" whole 0 (no 10 0 0)
    -- a byte that is neither allowed nor the next of the text
    ∷ house "7@5" (listing (lined ("(0" ∷ "(2" ∷ "(3" ∷ "=41" ∷ []))) 3 (no 11 3 0)
    -- a link that leaves a record out
    ∷ house "7@5" (linked 5) 3 (faulty 5 5 1 43 32)
    ∷ spaced "7 @5" with_blank 4 (ok 7 4 19)
    ∷ []

-- the check gives the case's outcome
abbrev pub Holds : Case → Type 0
Holds c = in_numbers (verdict c.grammar (depth_limit c.frames) (codes c.text) c.guide) ≡ c.outcome

-- the bytes of a text, and the blocks that it needs
pub record Need : Type 0 where
  pub bytes : ℕ
  pub blocks : ℕ

abbrev pub needing : ℕ → ℕ → Need
needing bytes blocks = record { bytes = bytes; blocks = blocks }

abbrev pub texts : List Need
texts = needing 0 0 ∷ needing 64 1 ∷ needing 65 2 ∷ []

-- what `cueline` is given, the text first and then the lines of the listing, and the line that it prints
pub record Session : Type 0 where
  pub input : List String
  pub line : String

abbrev pub session : List String → String → Session
session input line = record { input = input; line = line }

abbrev pub sessions : List Session
sessions =
    session ("7@5" ∷ ("(0" ∷ behind_root) ++ (")" ∷ [])) "ok rules=4 bytes=3 steps=12 free=511"
    ∷ session ("7@6" ∷ ("(0" ∷ behind_root) ++ (")" ∷ [])) "no 12 event=7 at=2"
    ∷ []

abbrev pub WorkedCasesHold : Type 0
WorkedCasesHold =
    AllByRecursion Holds cases × AllByRecursion (λ t. blocks_for t.bytes ≡ t.blocks) texts
    × AllByRecursion (λ s. cueline (lined s.input) ≡ lined (s.line ∷ [])) sessions
