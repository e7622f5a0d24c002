-- The walk of a parse tree within the limits is accepted.
use Rattle.std.proofs.Common.{◌≡◌, ℕ, ◌+◌, ◌<◌, ◌≤◌, true, List, [], ◌∷◌, ◌++◌, length, Some, sym, refl, ap, ◌∙◌, append_assoc, append-nil, arith, length-append}
use Rattle.std.proofs.lemmas.Bool.Decides.{nat_tests}
use Rattle.guide.specs.declared.Event.{Event}
use Rattle.guide.specs.declared.Event.TheVariants.{Enter, Byte, Leave}
use Rattle.guide.specs.Told.{End, Told, finally, ◌and◌, ahead, tells}
use Rattle.grammar.specs.declared.Part.{Part}
use Rattle.grammar.specs.declared.Part.TheVariants.{Symbol}
use Rattle.grammar.specs.Meaning.{Rule, Meaning, allows}
use Rattle.tree.specs.Tree.{Tree, leaf, node, Children, no_more, ◌then◌, walk, walk_all, spells, spell_all, rules, rules_all, depth, depth_all}
use Rattle.tree.specs.Parse.{Matches, MatchAll}
use Rattle.tree.specs.Verdict.{accepted}
use Rattle.tree.specs.Check.{State, going, run, verdict}
use Rattle.tree.specs.Theorems.{AcceptedExactlyWhenATreeIsTold, OneTreeIsTold, EveryParseTreeIsAccepted}
use Rattle.tree.proofs.Walks.{ahead_append, walk_length, walk_determines_tree}
use Rattle.tree.proofs.Sound.{TreeTold, accepted_told}

abbrev state : List Part → List (List Part) → List ℕ → ℕ → ℕ → ℕ → State
state ps pss text k m n = record { parts = ps; older = pss; text = text; rules = k; bytes = m; events = n }

accepted_path : {r r' b b' n n' : ℕ} → r ≡ r' → b ≡ b' → n ≡ n' → accepted r b n ≡ accepted r' b' n'
accepted_path p q s = cc

module _ (g : Meaning) (D : ℕ) where
  -- the same but for how its counts are written
  counted : (ps : List Part) (pss : List (List Part)) (text : List ℕ) (told : Told) {k k' m m' n n' : ℕ} → k ≡ k' → m ≡ m' → n ≡ n'
      → run g D (going (state ps pss text k m n)) told ≡ run g D (going (state ps pss text k' m' n')) told
  counted ps pss text told p q r = cc

  -- an event to which each question is answered yes
  enter_yes : (r : ℕ) (R : Rule) (ps : List Part) (pss : List (List Part)) (text : List ℕ) (k m n : ℕ) (told : Told) → g.rule r ≡ Some R
      → length pss < D → n < 16000
      → run g D (going (state (Symbol R.left ∷ ps) pss text k m n)) (Enter r and told)
      ≡ run g D (going (state R.parts (ps ∷ pss) text (k + 1) m (n + 1))) told
  enter_yes r R ps pss text k m n told e d few = grind (arith, nat_tests)

  byte_yes : (b : ℕ) (p : Part) (ps : List Part) (pss : List (List Part)) (text : List ℕ) (k m n : ℕ) (told : Told) → allows p b ≡ true → n < 16000
      → run g D (going (state (p ∷ ps) pss (b ∷ text) k m n)) (Byte b and told) ≡ run g D (going (state ps pss text k (m + 1) (n + 1))) told
  byte_yes b p ps pss text k m n told ok few = grind (arith, nat_tests)

  leave_yes : (ps : List Part) (pss : List (List Part)) (text : List ℕ) (k m n : ℕ) (told : Told) → n < 16000
      → run g D (going (state [] (ps ∷ pss) text k m n)) (Leave and told) ≡ run g D (going (state ps pss text k m (n + 1))) told
  leave_yes ps pss text k m n told few = grind (arith, nat_tests)

  -- a run over the whole walk of a tree that matches the awaited part
  mutual
    through : (t : Tree) (p : Part) (ps : List Part) (pss : List (List Part)) (text : List ℕ) (k m n : ℕ) (told : Told) → Matches g p t
        → length pss + depth t ≤ D → n + length (walk t) ≤ 16000
        → run g D (going (state (p ∷ ps) pss (spells t ++ text) k m n)) (ahead (walk t) told)
        ≡ run g D (going (state ps pss text (k + rules t) (m + length (spells t)) (n + length (walk t)))) told
    through (leaf b) p ps pss text k m n told ok hD hE =
        byte_yes b p ps pss text k m n told ok (omega arith) ∙ counted ps pss text told (omega arith) (omega arith) (omega arith)
    through (node r ts) p ps pss text k m n told (R, e, same, fit) hD hE =
        let lw : length (walk (node r ts)) ≡ length (walk_all ts) + 2 = simp length-append (omega arith) in
        rw (same, ahead_append (walk_all ts) (Leave ∷ []) told)
        (enter_yes r R ps pss (spell_all ts ++ text) k m n _ e (omega arith) (omega arith)
        ∙ through_all ts R.parts (ps ∷ pss) text (k + 1) m (n + 1) (Leave and told) fit (omega arith) (omega arith)
        ∙ leave_yes ps pss text _ _ _ told (omega arith)
        ∙ counted ps pss text told (omega arith) refl (omega arith))

    through_all : (ts : Children) (ps : List Part) (pss : List (List Part)) (text : List ℕ) (k m n : ℕ) (told : Told) → MatchAll g ps ts
        → length pss + depth_all ts ≤ D → n + length (walk_all ts) ≤ 16000
        → run g D (going (state ps pss (spell_all ts ++ text) k m n)) (ahead (walk_all ts) told)
        ≡ run g D (going (state [] pss text (k + rules_all ts) (m + length (spell_all ts)) (n + length (walk_all ts)))) told
    through_all no_more [] pss text k m n told fit hD hE = counted [] pss text told (omega arith) (omega arith) (omega arith)
    through_all no_more (p ∷ ps) pss text k m n told fit hD hE = absurd fit
    through_all (t then ts) [] pss text k m n told fit hD hE = absurd fit
    through_all (t then ts) (p ∷ ps) pss text k m n told (fit, fits) hD hE =
        let lw = length-append (walk t) (walk_all ts) in
        let ls = length-append (spells t) (spell_all ts) in
        rw (append_assoc (spells t) (spell_all ts) text, ahead_append (walk t) (walk_all ts) told)
        (through t p ps pss (spell_all ts ++ text) k m n (ahead (walk_all ts) told) fit (omega arith) (omega arith)
        ∙ through_all ts ps pss text (k + rules t) (m + length (spells t)) (n + length (walk t)) told fits (omega arith) (omega arith)
        ∙ counted [] pss text told (omega arith) (omega arith) (omega arith))

pub every_parse_tree_is_accepted : EveryParseTreeIsAccepted
every_parse_tree_is_accepted g D t p d l =
    ap (λ text. verdict g D text (tells (walk t) End)) (sym (append-nil (spells t)))
    ∙ through g D t (Symbol g.start) [] [] [] 0 0 0 (finally End) p (omega arith) (omega arith)
    ∙ accepted_path (omega arith) (omega arith) (omega (arith, walk_length))

told_accepted : (g : Meaning) (D : ℕ) (text : List ℕ) (told : Told) (r b n : ℕ) → TreeTold g D text told r b n → verdict g D text told ≡ accepted r b n
told_accepted g D text told r b n (t, w, r_is, b_is, n_is) =
    cc (every_parse_tree_is_accepted g D t w.parse w.shallow w.short)

pub accepted_exactly_when_a_tree_is_told : AcceptedExactlyWhenATreeIsTold
accepted_exactly_when_a_tree_is_told g D text told r b n = (accepted_told g D text told r b n, told_accepted g D text told r b n)

-- what is told gives the events back
abbrev events_of : Told → List Event
events_of (finally f) = []
events_of (e and told) = e ∷ events_of told

events_of_tells : (es : List Event) → events_of (tells es End) ≡ es
events_of_tells [] = refl
events_of_tells (e ∷ es) = cc (events_of_tells es)

pub one_tree_is_told : OneTreeIsTold
one_tree_is_told g D text told t u w w' = walk_determines_tree t u (cc (events_of_tells (walk t), events_of_tells (walk u)))
