-- What a check accepts is the walk of a parse tree: from the rest of an accepted run come the trees that the rest tells.
use Rattle.std.proofs.Common.{◌≡◌, ℕ, ◌+◌, ◌*◌, ◌≤◌, true, List, [], ◌∷◌, ◌++◌, length, Some, Ok, sym, refl, ap, ◌∙◌, append_assoc, append-nil, arith}
use Rattle.std.proofs.lemmas.Bool.Decides.{nat_tests}
use Rattle.guide.specs.declared.Event.{Event}
use Rattle.guide.specs.declared.Event.TheVariants.{Enter, Byte, Leave}
use Rattle.guide.specs.Told.{Finish, End, Told, finally, ◌and◌, tells}
use Rattle.grammar.specs.declared.Part.{Part}
use Rattle.grammar.specs.declared.Part.TheVariants.{Symbol}
use Rattle.grammar.specs.Meaning.{Rule, Meaning, allows}
use Rattle.tree.specs.declared.verdict.Accepted.{Accepted}
use Rattle.tree.specs.Tree.{Tree, leaf, node, Children, no_more, ◌then◌, walk, walk_all, spells, spell_all, rules, rules_all, depth_all}
use Rattle.tree.specs.Parse.{MatchAll}
use Rattle.tree.specs.Verdict.{accepted}
use Rattle.tree.specs.Check.{State, Progress, going, over, begin, entered, read, left, on_event, at_finish, run, verdict}
use Rattle.tree.specs.Theorems.{TellsTree}
use Rattle.tree.proofs.Walks.{walk_length}

-- The trees still to come of the older open nodes, the newest first: what is told of them, with the leave before each.
abbrev walk_later : List Children → List Event
walk_later [] = []
walk_later (us ∷ uss) = Leave ∷ (walk_all us ++ walk_later uss)

abbrev spell_later : List Children → List ℕ
spell_later [] = []
spell_later (us ∷ uss) = spell_all us ++ spell_later uss

abbrev rules_later : List Children → ℕ
rules_later [] = 0
rules_later (us ∷ uss) = rules_all us + rules_later uss

-- with as many nodes open as there are rows behind, no way down passes D
abbrev DeepLater : ℕ → List Children → Type 0
DeepLater D [] = Unit {0}
DeepLater D (us ∷ uss) = (length uss + depth_all us ≤ D) × DeepLater D uss

abbrev MatchLater : Meaning → List (List Part) → List Children → Type 0
MatchLater g [] [] = Unit {0}
MatchLater g [] (us ∷ uss) = ⊥
MatchLater g (ps ∷ pss) [] = ⊥
MatchLater g (ps ∷ pss) (us ∷ uss) = MatchAll g ps us × MatchLater g pss uss

later_length : (g : Meaning) (pss : List (List Part)) (uss : List Children) → MatchLater g pss uss → length pss ≡ length uss
later_length g [] [] h = refl
later_length g [] (us ∷ uss) h = absurd h
later_length g (ps ∷ pss) [] h = absurd h
later_length g (ps ∷ pss) (us ∷ uss) h = omega (arith, later_length g pss uss h.1)

-- the events of the trees ts of the newest open node, and of the older ones
abbrev events : Children → List Children → List Event
events ts uss = walk_all ts ++ walk_later uss

-- within the limits, the trees ts and uss bring the counts where the run stands to those of the whole, `all`
record Adds (D : ℕ) (all : Accepted) (s : State) (ts : Children) (uss : List Children) : Type 0 where
  shallow : length uss + depth_all ts ≤ D
  short : s.events + length (events ts uss) ≤ 16000
  rules_are : all.rules ≡ s.rules + (rules_all ts + rules_later uss)
  bytes_are : all.bytes ≡ s.bytes + length s.text
  steps_are : all.steps ≡ s.events + length (events ts uss) + 1

-- the rest of an accepted run tells the trees ts and uss
record Rest (g : Meaning) (D : ℕ) (all : Accepted) (s : State) (told : Told) (ts : Children) (uss : List Children) : Type 0 where
  matches : MatchAll g s.parts ts
  later : MatchLater g s.older uss
  whole : tells (events ts uss) End ≡ told
  spelled : spell_all ts ++ spell_later uss ≡ s.text
  shallow_later : DeepLater D uss
  adds : Adds D all s ts uss

abbrev SomeRest : Meaning → ℕ → Accepted → State → Told → Type 0
SomeRest g D all s told = (ts : Children) × (uss : List Children) × Rest g D all s told ts uss

-- What an accepted event found where the check stood, and where the check stands then.
record EnterFound (g : Meaning) (s s' : State) (r : ℕ) : Type 0 where
  rule : Rule
  parts : List Part
  known : g.rule r ≡ Some rule
  awaited : s.parts ≡ Symbol rule.left ∷ parts
  next : s' ≡ entered s parts rule.parts

record ByteFound (s s' : State) (b : ℕ) : Type 0 where
  part : Part
  parts : List Part
  text : List ℕ
  awaited : s.parts ≡ part ∷ parts
  here : s.text ≡ b ∷ text
  allowed : allows part b ≡ true
  next : s' ≡ read s parts text

record LeaveFound (s s' : State) : Type 0 where
  parts : List Part
  older : List (List Part)
  complete : s.parts ≡ []
  opened : s.older ≡ parts ∷ older
  next : s' ≡ left s parts older

module _ (g : Meaning) (D : ℕ) (s s' : State) where
  enter_found : (r : ℕ) → on_event g D s (Enter r) ≡ going s' → EnterFound g s s' r
  enter_found r h = grind (arith, nat_tests)

  byte_found : (b : ℕ) → on_event g D s (Byte b) ≡ going s' → ByteFound s s' b
  byte_found b h = grind (arith, nat_tests)

  leave_found : on_event g D s Leave ≡ going s' → LeaveFound s s'
  leave_found h = grind (arith, nat_tests)

  -- an accepted event leaves the check within the limits
  within : (e : Event) → length s.older ≤ D → on_event g D s e ≡ going s' → (length s'.older ≤ D) × (s'.events ≤ 16000)
  within e hD h = grind (arith, nat_tests)

-- no event ends the check with an acceptance
never_over : (g : Meaning) (D : ℕ) (s : State) (e : Event) (all : Accepted) → on_event g D s e ≡ over (Ok all) → ⊥
never_over g D s e all h = grind (arith, nat_tests)

-- the end is accepted where nothing is awaited and no text is left
record Ended (s : State) (f : Finish) (all : Accepted) : Type 0 where
  finish : f ≡ End
  complete : s.parts ≡ []
  closed : s.older ≡ []
  read_all : s.text ≡ []
  rules_are : all.rules ≡ s.rules
  bytes_are : all.bytes ≡ s.bytes
  steps_are : all.steps ≡ s.events + 1

ended : (s : State) (f : Finish) (all : Accepted) → at_finish s f ≡ Ok all → Ended s f all
ended s f all h = grind arith

module _ (g : Meaning) (D : ℕ) (all : Accepted) where
  abbrev SoundAt : Told → Type 0
  SoundAt told = (s : State) → length s.older ≤ D → s.events ≤ 16000 → run g D (going s) told ≡ Ok all → SomeRest g D all s told

  finish_is_sound : (f : Finish) (s : State) → s.events ≤ 16000 → at_finish s f ≡ Ok all → SomeRest g D all s (finally f)
  finish_is_sound f s hE h =
      let l = ended s f all h in
      let o = ap length l.read_all in (
        no_more,
        [],
        record {
          matches = rw l.complete tt;
          later = rw l.closed tt;
          whole = rw l.finish refl;
          spelled = sym l.read_all;
          shallow_later = tt;
          adds = omega arith;
        },
      )

  -- One event put before the rest of an accepted run.
  module _ (told : Told) (s s' : State) (rest : SomeRest g D all s' told) where
    before_leave : LeaveFound s s' → length s.older ≤ D → SomeRest g D all s (Leave and told)
    before_leave l hD =
        let (ts, uss, w) = rw l.next at rest in
        let same : length l.older ≡ length uss = later_length g l.older uss w.later in
        let o = ap length l.opened in (
          no_more,
          ts ∷ uss,
          record {
            matches = rw l.complete tt;
            later = rw l.opened (w.matches, w.later);
            whole = ap (λ x. Leave and x) w.whole;
            spelled = w.spelled;
            shallow_later = (w.adds.shallow, w.shallow_later);
            adds = omega arith;
          },
        )

    before_byte : (b : ℕ) → ByteFound s s' b → SomeRest g D all s (Byte b and told)
    before_byte b l =
        let (ts, uss, w) = rw l.next at rest in
        let o = ap length l.here in (
          leaf b then ts,
          uss,
          record {
            matches = rw l.awaited (l.allowed, w.matches);
            later = w.later;
            whole = ap (λ x. Byte b and x) w.whole;
            spelled = cc (w.spelled, l.here);
            shallow_later = w.shallow_later;
            adds = omega arith;
          },
        )

    entered_events : (r : ℕ) (ts us : Children) (uss : List Children) → Enter r ∷ events ts (us ∷ uss) ≡ events (node r ts then us) uss
    entered_events r ts us uss = simp append_assoc

    before_enter : (r : ℕ) (l : EnterFound g s s' r) (ts : Children) (uss : List Children)
        → Rest g D all (entered s l.parts l.rule.parts) told ts uss → SomeRest g D all s (Enter r and told)
    before_enter r l ts [] w = absurd w.later
    before_enter r l ts (us ∷ uss) w =
        let same = entered_events r ts us uss in
        let o = ap length same in (
          node r ts then us,
          uss,
          record {
            matches = rw l.awaited ((l.rule, l.known, refl, w.matches), w.later.0);
            later = w.later.1;
            whole = ap (λ es. tells es End) (sym same) ∙ ap (λ x. Enter r and x) w.whole;
            spelled = simp append_assoc w.spelled;
            shallow_later = w.shallow_later.1;
            adds = omega arith;
          },
        )

    before_event : (e : Event) → on_event g D s e ≡ going s' → length s.older ≤ D → SomeRest g D all s (e and told)
    before_event (Enter r) st hD =
        let l = enter_found g D s s' r st in let (ts, uss, w) = rw l.next at rest in before_enter r l ts uss w
    before_event (Byte b) st hD = before_byte b (byte_found g D s s' b st)
    before_event Leave st hD = before_leave (leave_found g D s s' st) hD

  event_is_sound : (told : Told) → SoundAt told → (e : Event) (s : State) (x : Progress) → on_event g D s e ≡ x → length s.older ≤ D
      → run g D x told ≡ Ok all → SomeRest g D all s (e and told)
  event_is_sound told later e s (going s') st hD h =
      let (d, n) = within g D s s' e hD st in before_event told s s' (later s' d n h) e st hD
  event_is_sound told later e s (over v) st hD h = absurd (never_over g D s e all (st ∙ ap over h))

  sound : (told : Told) → SoundAt told
  sound (finally f) s hD hE h = finish_is_sound f s hE h
  sound (e and told) s hD hE h = event_is_sound told (sound told) e s (on_event g D s e) refl hD h

-- the guide tells a tree, and the counts are the tree's
abbrev pub TreeTold : Meaning → ℕ → List ℕ → Told → ℕ → ℕ → ℕ → Type 0
TreeTold g D text told r b n =
    (t : Tree) × TellsTree g D text told t × (r ≡ rules t) × (b ≡ length text) × (n ≡ 2 * rules t + length text + 1)

tree_told : (g : Meaning) (D : ℕ) (text : List ℕ) (told : Told) (all : Accepted) (ts : Children) (uss : List Children)
    → Rest g D all (begin g text) told ts uss → TreeTold g D text told all.rules all.bytes all.steps
tree_told g D text told all no_more uss w = absurd w.matches
tree_told g D text told all (t then (u then us)) uss w = absurd w.matches.1
tree_told g D text told all (t then no_more) (us ∷ uss) w = absurd w.later
tree_told g D text told all (t then no_more) [] w =
    let same : events (t then no_more) [] ≡ walk t = simp append-nil in
    let e : tells (walk t) End ≡ told = ap (λ es. tells es End) (sym same) ∙ w.whole in
    let f : spells t ≡ text = simp append-nil at w.spelled in
    let l = ap length same in
    let lf = ap length f in (
      t,
      record { parse = w.matches.0; whole = e; spelled = f; shallow = omega arith; short = omega arith },
      omega arith,
      omega arith,
      omega (arith, walk_length),
    )

pub accepted_told : (g : Meaning) (D : ℕ) (text : List ℕ) (told : Told) (r b n : ℕ)
    → verdict g D text told ≡ accepted r b n → TreeTold g D text told r b n
accepted_told g D text told r b n h =
    let all : Accepted = record { rules = r; bytes = b; steps = n } in
    let (ts, uss, w) = sound g D all told (begin g text) (omega arith) (omega arith) h in
    tree_told g D text told all ts uss w
