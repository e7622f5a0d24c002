-- What is asked before a check or a load, and what is answered then.
use Rattle.std.proofs.Common.{◌≡◌, ℕ, ◌-◌, min, List, [], ◌∷◌, eqb, true, length, take, Option, Ok, Err, Result, IsErrAnd, MatchResult, refl, ap, ◌∙◌, arith, length-take}
use Rattle.std.proofs.lemmas.Bool.{eqb-true}
use Rattle.std.proofs.lemmas.Result.{err_from_is_err_and}
use Rattle.std.proofs.lemmas.Iterator.{YieldsList}
use Rattle.std.specs.Iterator.{AlwaysYields}
use Rattle.std.specs.Result.{result_and}
use Rattle.guide.specs.Told.{Told}
use Rattle.guide.specs.Written.{form_of}
use Rattle.grammar.specs.Meaning.{Meaning}
use Rattle.grammar.specs.declared.barred.BarRefusal.{BarRefusal}
use Rattle.memory.specs.Texts.{Texts}
use Rattle.cues.specs.declared.answers.Answer.{Answer}
use Rattle.cues.specs.Calls.{Load, load, loading, Reply}
use Rattle.cues.specs.Sheet.{answer, next}
use Rattle.fekhtovi.specs.Replay.{held_if_made}
use Rattle.tree.specs.declared.verdict.Accepted.{Accepted}
use Rattle.packed.specs.Base.{base_meaning}
use Rattle.tree.specs.Check.{depth_limit, verdict}
use Rattle.tree.specs.Verdict.{Verdict}
use Rattle.fekhtovi.specs.declared.refused.Refused.{Refused}
use Rattle.fekhtovi.specs.declared.refused.Refused.TheVariants as no
use Rattle.fekhtovi.specs.Answer.{refusing}
use Rattle.fekhtovi.specs.Bars.{bars_answer}
use Rattle.fekhtovi.specs.Check.{by_check, chosen_meaning, guide_told, may_open, may_check, check_result}

-- what a `?` answers
refused_from : {A E : Type 0} (why : E → Refused) (e : E) (r : Result A Refused) → IsErrAnd r (λ x. x ≡ why e) → r ≡ Err (why e)
refused_from why e r h = let refused = err_from_is_err_and r h in refused.1 ∙ ap Err refused.2

-- an answer with its error made a refusal
pub mapped : {A E : Type 0} (why : E → Refused) (v : Result A E) (r : Result A Refused)
    → MatchResult v (λ x. r ≡ Ok x) (λ e. IsErrAnd r (λ y. y ≡ why e)) → r ≡ refusing why v
mapped why (Ok x) r is = is
mapped why (Err e) r is = refused_from why e r is

-- form and table are not refused: so it hangs on the numbers to bar
pub asked : (form : ℕ) (table bars : List ℕ) → Ok (tt {0}) ≡ may_open form table → refusing no.Bar (bars_answer bars) ≡ may_check form table bars
asked form table bars opened = ap (λ o. result_and o (refusing no.Bar (bars_answer bars))) opened

pub bars_refused : {A : Type 0} (form : ℕ) (table bars : List ℕ) (e : BarRefusal) (r next : Result A Refused)
    → Ok (tt {0}) ≡ may_open form table → Err e ≡ bars_answer bars → IsErrAnd r (λ x. x ≡ no.Bar e) → r ≡ result_and (may_check form table bars) next
bars_refused form table bars e r next opened bar h =
    refused_from no.Bar e r h ∙ ap (λ o. result_and o next) (ap (refusing no.Bar) bar ∙ asked form table bars opened)

-- nothing is refused before the check: so the answer is the check's
pub checked_so : (table : List ℕ) (blanks : ℕ) (bars text : List ℕ) (form : ℕ) (guide : List ℕ) (frames : ℕ) (m : Meaning) (told : Told) (v : Verdict) (r : Result Accepted Refused)
    → Ok (tt {0}) ≡ may_open form table → Ok (tt {0}) ≡ bars_answer bars → m ≡ chosen_meaning table blanks bars → told ≡ guide_told (form_of form) guide
    → v ≡ verdict m (depth_limit frames) text told → r ≡ refusing by_check v → r ≡ check_result table blanks bars text form guide frames
checked_so table blanks bars text form guide frames m told v r opened bar means tells judged is =
    let checks : Meaning → Told → Result Accepted Refused = λ m t. refusing by_check (verdict m (depth_limit frames) text t) in
    is
    ∙ (ap (refusing by_check) judged
    ∙ (ap (λ m. checks m told) means
    ∙ (ap (checks (chosen_meaning table blanks bars)) tells
    ∙ ap (λ o. result_and o (checks (chosen_meaning table blanks bars) (guide_told (form_of form) guide))) (ap (refusing no.Bar) bar ∙ asked form table bars opened))))

-- what holds of every list that an iterator gives holds of the list that it is known to give
pub of_list : {S : Type 0} {steps : S → Option ℕ → S → Type 0} {it : S} (P : List ℕ → Type 0) (listed : List ℕ)
    → ((listed : List ℕ) → AlwaysYields steps (λ n. n) it listed → P listed) → YieldsList steps (λ n. n) it listed → P listed
of_list P listed holds y = holds listed y.runs

pub no_numbers : (bars : List ℕ) → eqb (length bars) 0 ≡ true → bars ≡ []
no_numbers [] e = refl
no_numbers (b ∷ bars) e = let n = eqb-true (length (b ∷ bars)) 0 e in absurd (omega arith)

-- without blanks and bars the grammar is the one below
pub chosen_plain : (table : List ℕ) (blanks : ℕ) (bars : List ℕ) → blanks ≡ 0 → bars ≡ [] → chosen_meaning table blanks bars ≡ base_meaning table
chosen_plain table blanks bars e f = ap (λ (n : ℕ). chosen_meaning table n bars) e ∙ ap (chosen_meaning table 0) f

-- nothing is refused before a load: so its answer and its texts are the cue sheet's
pub loaded_so : (form : ℕ) (table bars : List ℕ) (blocks : ℕ) (held : Texts) (l l' : Load) (reply : Reply) (r : Result Answer Refused)
    → Ok (tt {0}) ≡ may_open form table → Ok (tt {0}) ≡ bars_answer bars → l ≡ l' → reply ≡ answer blocks held (load l)
    → r ≡ refusing no.Call reply → r ≡ result_and (may_check form table bars) (refusing no.Call (answer blocks held (load l')))
loaded_so form table bars blocks held l l' reply r opened bar same said is =
    let replies : Result Answer Refused = refusing no.Call (answer blocks held (load l')) in
    is
    ∙ (ap (refusing no.Call) (said ∙ ap (λ l. answer blocks held (load l)) same)
    ∙ ap (λ o. result_and o replies) (ap (refusing no.Bar) bar ∙ asked form table bars opened))

pub held_so : (form : ℕ) (table bars : List ℕ) (blocks : ℕ) (held held' : Texts) (l l' : Load)
    → Ok (tt {0}) ≡ may_open form table → Ok (tt {0}) ≡ bars_answer bars → l ≡ l' → held' ≡ next blocks held (load l)
    → held' ≡ held_if_made (may_check form table bars) held (next blocks held (load l'))
held_so form table bars blocks held held' l l' opened bar same is =
    is
    ∙ (ap (λ l. next blocks held (load l)) same
    ∙ ap (λ o. held_if_made o held (next blocks held (load l'))) (ap (refusing no.Bar) bar ∙ asked form table bars opened))

-- a refused load changes nothing
pub kept_so : (form : ℕ) (table bars : List ℕ) (held held' : Texts) (e : BarRefusal)
    → Ok (tt {0}) ≡ may_open form table → Err e ≡ bars_answer bars → held ≡ held_if_made (may_check form table bars) held held'
kept_so form table bars held held' e opened bar =
    ap (λ o. held_if_made o held held') (ap (refusing no.Bar) bar ∙ asked form table bars opened)

-- as many frames as are asked for, of the 1,024 that there are
pub lent : {A : Type 0} (k n : ℕ) (frames : List A) → length frames ≡ 1024 → k ≡ min n 1024 → length (take (k - 0) frames) ≡ min n 1024
lent k n frames all is = simp length-take (omega arith)

pub same_load : (n : ℕ) (text : List ℕ) (m m' : Meaning) (told told' : Told) (k k' : ℕ) → m ≡ m' → told ≡ told' → k ≡ k'
    → loading n text m told k ≡ loading n text m' told' k'
same_load n text m m' told told' k k' a b c =
    ap (λ m. loading n text m told k) a ∙ (ap (λ t. loading n text m' t k) b ∙ ap (λ k. loading n text m' told' k) c)
