-- What a refusal says of the guide, and how many answers a verdict took.
use Rattle.std.proofs.Common.{◌≡◌, ℕ, ◌+◌, ◌↔◌, List, [], ◌∷◌, ◌++◌, length, Err, Option, Result, sym, refl, ap, ◌∙◌, append_assoc, arith, length-append}
use Rattle.std.proofs.lemmas.Bool.Decides.{nat_tests}
use Rattle.guide.specs.declared.Event.{Event}
use Rattle.guide.specs.declared.Fault.{Fault}
use Rattle.guide.specs.Told.{Finish, Told, finally, ◌and◌, ahead, answer, behind}
use Rattle.grammar.specs.Meaning.{Meaning}
use Rattle.tree.specs.declared.verdict.Reason.TheVariants.{GuideFault}
use Rattle.tree.specs.declared.verdict.Refusal.{Refusal}
use Rattle.tree.specs.Verdict.{Verdict, refusal, taken}
use Rattle.tree.specs.Check.{State, Progress, going, over, begin, on_event, at_finish, step, run}
use Rattle.tree.specs.Theorems.{byte_of, bytes_in, RefusalsSayWhere}

-- One answer.
-- how many answers were taken: one for each event accepted, and the last
pub going_counts : (g : Meaning) (D : ℕ) (s s' : State) (a : Result (Option Event) Fault) → going s' ≡ step g D s a → s'.events ≡ s.events + 1
going_counts g D s s' a h = grind (arith, nat_tests)

pub over_counts : (g : Meaning) (D : ℕ) (s : State) (v : Verdict) (a : Result (Option Event) Fault) → over v ≡ step g D s a → taken v ≡ s.events + 1
over_counts g D s v a h = grind (arith, nat_tests)

-- an accepted event counts one more, and its byte is used
record Went (s s' : State) (e : Event) : Type 0 where
  events : s'.events ≡ s.events + 1
  bytes : s'.bytes ≡ s.bytes + length (byte_of e)
  text_is : byte_of e ++ s'.text ≡ s.text

went : (g : Meaning) (D : ℕ) (s s' : State) (e : Event) → on_event g D s e ≡ going s' → Went s s' e
went g D s s' e h = grind (arith, nat_tests)

-- a refusal has the counts as they stood, and blames the fault in the answer and only that
record Stopped (s : State) (a : Result (Option Event) Fault) (r : Refusal) : Type 0 where
  events : s.events ≡ r.events
  bytes : s.bytes ≡ r.bytes
  faulty : (f : Fault) → (r.reason ≡ GuideFault f) ↔ (a ≡ Err f)

stopped : (g : Meaning) (D : ℕ) (s : State) (a : Result (Option Event) Fault) (r : Refusal) → step g D s a ≡ over (Err r) → Stopped s a r
stopped g D s a r h = grind (arith, nat_tests)

-- The run goes on behind the next answer.
pub run_on : (g : Meaning) (D : ℕ) (s : State) (told : Told) → run g D (step g D s (answer told)) (behind told) ≡ run g D (going s) told
run_on g D s told = grind arith

-- Where the next answer ends the run, it alone decides.
decides : (g : Meaning) (D : ℕ) (s : State) (a : Result (Option Event) Fault) (v : Verdict) → step g D s a ≡ over v
    → (rest : Told) → answer rest ≡ a → run g D (going s) rest ≡ v
decides g D s a v h rest same = sym (run_on g D s rest) ∙ ap (λ x. run g D x (behind rest)) (ap (step g D s) same ∙ h)

finish_step : (g : Meaning) (D : ℕ) (s : State) (f : Finish) → step g D s (answer (finally f)) ≡ over (at_finish s f)
finish_step g D s f = grind arith

-- The place of a refusal.
-- a run from the state s on, with the refusal r, split at the refused answer
record Split (g : Meaning) (D : ℕ) (s : State) (told : Told) (r : Refusal) : Type 0 where
  before : List Event
  rest : Told
  unused : List ℕ
  begins : told ≡ ahead before rest
  counted : s.events + length before ≡ r.events
  used : bytes_in before ++ unused ≡ s.text
  used_counted : s.bytes + length (bytes_in before) ≡ r.bytes
  alike : (rest' : Told) → answer rest' ≡ answer rest → run g D (going s) (ahead before rest') ≡ Err r
  faulty : (f : Fault) → (r.reason ≡ GuideFault f) ↔ (answer rest ≡ Err f)

module _ (g : Meaning) (D : ℕ) (r : Refusal) where
  -- the next answer is refused
  stop_split : (s : State) (rest : Told) → step g D s (answer rest) ≡ over (Err r) → Split g D s rest r
  stop_split s rest h =
      let w = stopped g D s (answer rest) r h in
      record {
        before = [];
        rest = rest;
        unused = s.text;
        begins = refl;
        counted = omega arith;
        used = refl;
        used_counted = omega arith;
        alike = decides g D s (answer rest) (Err r) h;
        faulty = w.faulty;
      }

  event_split : (told : Told) → ((s : State) → run g D (going s) told ≡ Err r → Split g D s told r) → (x : Event) (s : State)
      (y : Progress) → on_event g D s x ≡ y → run g D y told ≡ Err r → Split g D s (x and told) r
  event_split told later x s (over v) st h = stop_split s (x and told) (st ∙ ap over h)
  event_split told later x s (going s') st h =
      let w = later s' h in
      let l = went g D s s' x st in
      let m = length-append (byte_of x) (bytes_in w.before) in
      record {
        before = x ∷ w.before;
        rest = w.rest;
        unused = w.unused;
        begins = ap (λ k. x and k) w.begins;
        counted = omega arith;
        used = cc (append_assoc (byte_of x) (bytes_in w.before) w.unused, w.used, l.text_is);
        used_counted = omega arith;
        alike = λ rest' same. cc (st, w.alike rest' same);
        faulty = w.faulty;
      }

  run_split : (told : Told) (s : State) → run g D (going s) told ≡ Err r → Split g D s told r
  run_split (finally f) s h = stop_split s (finally f) (finish_step g D s f ∙ ap over h)
  run_split (x and told) s h = event_split told (run_split told) x s (on_event g D s x) refl h

pub refusals_say_where : RefusalsSayWhere
refusals_say_where g D text told why e a h =
    let w = run_split g D (refusal why e a) told (begin g text) h in
    record {
      before = w.before;
      rest = w.rest;
      unused = w.unused;
      begins = w.begins;
      counted = omega arith;
      used = w.used;
      used_counted = omega arith;
      alike = w.alike;
      faulty = w.faulty;
    }
