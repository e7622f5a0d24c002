-- The law holds of every call of a run.
use Rattle.std.proofs.Common.{◌≡◌, ◌≢◌, ℕ, ◌+◌, ◌*◌, Bool, true, false, ◌↔◌, List, length, is_some, Some, None, Ok, Err, Option, refl, ap, arith}
use Rattle.std.proofs.lemmas.Bool.Decides.{nat_tests}
use Rattle.guide.specs.Told.{Told, after}
use Rattle.memory.specs.Texts.{Texts, is_number}
use Rattle.memory.proofs.Room.{number_within, number}
use Rattle.tree.specs.declared.verdict.Accepted.{Accepted}
use Rattle.tree.specs.Tree.{rules}
use Rattle.tree.proofs.Complete.{accepted_exactly_when_a_tree_is_told, one_tree_is_told}
use Rattle.tree.proofs.Refusals.{refusals_say_where}
use Rattle.cues.specs.Calls.{Load, depth_of, verdict_on, Call, load, clear, fetch, free, History, Reply}
use Rattle.cues.specs.Sheet.{answer, changed, next, buffer_after, told_after, State, Performs, more}
use Rattle.cues.specs.Law.{IsRefused, Leaves, Unused, Lawful, answers_taken, OfLoad, OfClear, OfFetch, Promised, Stands, Whole, Law, Performed}
use Rattle.cues.proofs.Runs.{stands_next, stands}

-- What is known of a number after a history: whether it is lawful, and whether anything is left under it.
pub record Known (past : History) (n : ℕ) (numbered used : Bool) : Type 0 where
  pub lawful : (numbered ≡ true) ↔ Lawful n
  pub unused : (used ≡ false) ↔ Unused past n
  pub left : (used ≡ true) ↔ ((t : List ℕ) × Leaves past n t)

module _ (blocks : ℕ) (past : History) (s : Texts) (st : Stands blocks past s) where
  pub known : (n : ℕ) → Known past n (is_number n) (is_some (s n))
  known n = by (s n) refl
    where
      by : (o : Option (List ℕ)) → s n ≡ o → Known past n (is_number n) (is_some o)
      by None e = let h = st.holds n in grind (arith, number_within, number)
      by (Some t) e = let h = st.holds n t in grind (arith, number_within, number)

  pub clear_law : (n : ℕ) → OfClear past n (answer blocks s (clear n))
  clear_law n = let k = known n in grind arith

  pub load_law : (l : Load) → OfLoad blocks past s l (answer blocks s (load l))
  load_law l =
      let k = known l.number in
      let tells = accepted_exactly_when_a_tree_is_told l.grammar (depth_of l) l.text l.told in
      record {
        accepted = (
          (λ p. let v : verdict_on l ≡ Ok p.0 = grind arith in
              let y = (tells p.0.rules p.0.bytes p.0.steps).0 v in
              (grind arith, grind arith, (grind (arith, nat_tests), grind (arith, nat_tests)), (y.0, y.1))),
          (λ p. let u = p.3.0 in
              let x : Accepted = record { rules = rules u; bytes = length l.text; steps = 2 * rules u + length l.text + 1 } in
              let v : verdict_on l ≡ Ok x = (tells x.rules x.bytes x.steps).1 (u, p.3.1, refl, refl, refl) in
              (x, grind (arith, nat_tests))),
        );
        counted = λ x u e sh.
            let v : verdict_on l ≡ Ok x = grind arith in
            let y = (tells x.rules x.bytes x.steps).0 v in
            let same : y.0 ≡ u = one_tree_is_told l.grammar (depth_of l) l.text l.told y.0 u y.1 sh in
            (cc, y.3, cc);
        refused_number = grind arith;
        refused_held = grind arith;
        refused_length = grind (arith, nat_tests);
        refused_blocks = grind (arith, nat_tests);
        decided = grind (arith, nat_tests);
        refused_check = λ f e.
            let v : verdict_on l ≡ Err f = grind arith in
            refusals_say_where l.grammar (depth_of l) l.text l.told f.reason f.events f.bytes v;
      }

  pub fetch_law : (n : ℕ) (b : List ℕ) → OfFetch past n b (answer blocks s (fetch n b)) (buffer_after s (fetch n b) b)
  fetch_law n b =
      let k = known n in
      let h = st.holds n in
      record {
        fetched = grind arith;
        given_back = grind arith;
        refused_short = grind arith;
        refused_none = grind arith;
        refused_number = grind arith;
      }

-- the buffer that a fetch is handed is the one that is meant, and the guide of a load too
abbrev pub Handed : Call → List ℕ → Told → Type 0
Handed (load l) b told = l.told ≡ told
Handed (clear n) b told = Unit {0}
Handed (fetch n b') b told = b' ≡ b
Handed free b told = Unit {0}

module _ (blocks : ℕ) (past : History) (found : State) (st : Stands blocks past found.held) where
  promises : (c : Call) → Handed c found.buffer found.told → Promised blocks past found.held c (answer blocks found.held c) (buffer_after found.held c found.buffer)
  promises (load l) i = load_law blocks past found.held st l
  promises (clear n) i = clear_law blocks past found.held st n
  promises (fetch n b) i = rw i (fetch_law blocks past found.held st n found.buffer)
  promises free i = refl

  buffer_kept : (c : Call) → Handed c found.buffer found.told → IsRefused (answer blocks found.held c) → buffer_after found.held c found.buffer ≡ found.buffer
  buffer_kept c i h = grind arith

  buffer_spared : (c : Call) → ((n : ℕ) (b : List ℕ) → c ≢ fetch n b) → buffer_after found.held c found.buffer ≡ found.buffer
  buffer_spared c h = grind arith

  guide_behind : (c : Call) → Handed c found.buffer found.told → told_after blocks found.held c found.told ≡ after (answers_taken (answer blocks found.held c)) found.told
  guide_behind (load l) i = grind arith
  guide_behind c i = grind arith

  whole : (c : Call) → Handed c found.buffer found.told
      → Whole blocks past found c (answer blocks found.held c)
      (record { held = next blocks found.held c; buffer = buffer_after found.held c found.buffer; told = told_after blocks found.held c found.told })
  whole c i =
      record {
        stands = stands_next blocks past found.held c st;
        promised = promises c i;
        unchanged = λ p. (ap (changed found.held c) p.1, buffer_kept c i p);
        spared = buffer_spared c;
        guide = guide_behind c i;
      }

pub performed : (blocks : ℕ) (found : State) (c : Call) (r : Reply) (left : State) → Performs blocks found c r left → Handed c found.buffer found.told → Performed blocks found c r left
performed blocks found c r left p i = record {
  law = law;
  run = λ past r. (rw (p.answers, p.texts) (more c r), stands r, law past (stands r));
  sheet = p;
}
  where
    law : Law blocks found c r left
    law past st = rw (p.answers, p.texts, p.copy, p.guide) (whole blocks past found st c i)
