-- One answer of a guide, and the rest of the run.
use Rattle.std.proofs.Common.{◌≡◌, ℕ, zero, suc, ◌+◌, Result, Option, sym, refl, ap, ◌∙◌, add-one}
use Rattle.guide.specs.declared.Event.{Event}
use Rattle.guide.specs.declared.Fault.{Fault}
use Rattle.guide.specs.Told.{Told, finally, ◌and◌, answer, behind, after}
use Rattle.grammar.specs.Meaning.{Meaning}
use Rattle.tree.specs.Verdict.{Verdict}
use Rattle.tree.specs.Check.{State, going, step, run}
use Rattle.tree.proofs.Refusals.{run_on}

-- how many events are still to come
abbrev pub events_left : Told → ℕ
events_left (finally f) = 0
events_left (e and told) = 1 + events_left told

after_more : (n : ℕ) (told : Told) → behind (after n told) ≡ after (n + 1) told
after_more n told = rw add-one (go n told)
  where
    go : (n : ℕ) (told : Told) → behind (after n told) ≡ after (suc n) told
    go zero told = refl
    go (suc n) told = go n (behind told)

-- the guide told one answer more than those that were taken, n with it
pub behind_one : (told told' whole : Told) (taken n : ℕ) → told' ≡ behind told → told ≡ after taken whole → n ≡ taken + 1 → told' ≡ after n whole
behind_one told told' whole taken n goes stands e = goes ∙ ap behind stands ∙ after_more taken whole ∙ ap (λ (k : ℕ). after k whole) (sym e)

-- One turn: from a state whose run gives the verdict v, the event or finish a is taken, and the state s' comes.
pub turn_runs : (g : Meaning) (D D' : ℕ) (s s' : State) (a : Result (Option Event) Fault) (told told' : Told) (v : Verdict) → D' ≡ D
    → a ≡ answer told → told' ≡ behind told → run g D (going s) told ≡ v → going s' ≡ step g D' s a → run g D (going s') told' ≡ v
turn_runs g D D' s s' a told told' v kept said goes same h =
    ap (run g D (going s')) goes ∙ ap (λ x. run g D x (behind told)) (h ∙ ap (λ (n : ℕ). step g n s a) kept ∙ ap (step g D s) said)
    ∙ run_on g D s told ∙ same
