-- What is proved of walks and of the check, in the words of parse trees.
use Rattle.std.specs.Prelude.{◌≡◌, ℕ, ◌+◌, ◌*◌, ◌≤◌, ◌↔◌, List, [], ◌∷◌, ◌++◌, length, Err}
use Rattle.std.specs.List.{flat_map}
use Rattle.guide.specs.declared.Event.{Event}
use Rattle.guide.specs.declared.Event.TheVariants.{Enter, Byte, Leave}
use Rattle.guide.specs.declared.Fault.{Fault}
use Rattle.guide.specs.Told.{End, Told, ahead, tells, answer}
use Rattle.grammar.specs.Meaning.{Meaning}
use Rattle.tree.specs.declared.verdict.Reason.{Reason}
use Rattle.tree.specs.declared.verdict.Reason.TheVariants.{GuideFault}
use Rattle.tree.specs.Tree.{Tree, walk, spells, rules, depth}
use Rattle.tree.specs.Parse.{ParseTree}
use Rattle.tree.specs.Verdict.{Verdict, accepted, refused}
use Rattle.tree.specs.Check.{most_events, verdict}

-- no two trees have the same walk
abbrev pub WalkDeterminesTree : Type 0
WalkDeterminesTree = (t u : Tree) → walk t ≡ walk u → t ≡ u

-- a walk has two events for each rule node, and one for each byte
abbrev pub TwoEventsARuleOneAByte : Type 0
TwoEventsARuleOneAByte = (t : Tree) → length (walk t) ≡ 2 * rules t + length (spells t)

-- the guide tells the whole walk of the tree t and then ends; t is a parse tree of the grammar, within the limits, and spells the text
pub record TellsTree (g : Meaning) (D : ℕ) (text : List ℕ) (told : Told) (t : Tree) : Type 0 where
  pub parse : ParseTree g t
  pub whole : tells (walk t) End ≡ told
  pub spelled : spells t ≡ text
  pub shallow : depth t ≤ D
  pub short : length (walk t) ≤ most_events

-- the verdict v accepts exactly where some tree is told; it then has the tree's rules, the text's bytes, and the steps: twice the rules,
-- plus the bytes, plus one
abbrev pub AcceptedExactly : Meaning → ℕ → List ℕ → Told → Verdict → Type 0
AcceptedExactly g D text told v =
    (r b n : ℕ)
    → (v ≡ accepted r b n)
    ↔ ((t : Tree) × TellsTree g D text told t × (r ≡ rules t) × (b ≡ length text) × (n ≡ 2 * rules t + length text + 1))

abbrev pub AcceptedExactlyWhenATreeIsTold : Type 0
AcceptedExactlyWhenATreeIsTold =
    (g : Meaning) (D : ℕ) (text : List ℕ) (told : Told) → AcceptedExactly g D text told (verdict g D text told)

-- which tree a text has is the guide's choice, and never the check's
abbrev pub OneTreeIsTold : Type 0
OneTreeIsTold =
    (g : Meaning) (D : ℕ) (text : List ℕ) (told : Told) (t u : Tree) → TellsTree g D text told t → TellsTree g D text told u → t ≡ u

-- whatever other trees its text has
abbrev pub EveryParseTreeIsAccepted : Type 0
EveryParseTreeIsAccepted =
    (g : Meaning) (D : ℕ) (t : Tree) → ParseTree g t → depth t ≤ D → length (walk t) ≤ most_events
    → verdict g D (spells t) (tells (walk t) End) ≡ accepted (rules t) (length (spells t)) (2 * rules t + length (spells t) + 1)

-- the byte that an event tells
abbrev pub byte_of : Event → List ℕ
byte_of (Enter r) = []
byte_of (Byte b) = b ∷ []
byte_of Leave = []

-- the bytes among the events
abbrev pub bytes_in : List Event → List ℕ
bytes_in = flat_map byte_of

-- A refusal for the reason `why` with the counts `events` and `bytes`: so many events came before the refused answer, and the bytes among
-- them, so many, are the first of the text. Every guide that begins with these events and has the same next answer is refused alike.
-- The reason is a fault exactly where that answer is this fault.
pub record RefusedThere (g : Meaning) (D : ℕ) (text : List ℕ) (told : Told) (why : Reason) (events bytes : ℕ) : Type 0 where
  pub before : List Event
  pub rest : Told
  pub unused : List ℕ
  pub begins : told ≡ ahead before rest
  pub counted : length before ≡ events
  pub used : bytes_in before ++ unused ≡ text
  pub used_counted : length (bytes_in before) ≡ bytes
  pub alike : (rest' : Told) → answer rest' ≡ answer rest → verdict g D text (ahead before rest') ≡ refused why events bytes
  pub faulty : (f : Fault) → (why ≡ GuideFault f) ↔ (answer rest ≡ Err f)

-- the verdict v, if it refuses, says where
abbrev pub RefusedWhere : Meaning → ℕ → List ℕ → Told → Verdict → Type 0
RefusedWhere g D text told v =
    (why : Reason) (events bytes : ℕ) → v ≡ refused why events bytes → RefusedThere g D text told why events bytes

abbrev pub RefusalsSayWhere : Type 0
RefusalsSayWhere = (g : Meaning) (D : ℕ) (text : List ℕ) (told : Told) → RefusedWhere g D text told (verdict g D text told)
