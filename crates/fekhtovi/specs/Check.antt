-- The check as a caller of the library has it: everything comes as bytes and numbers.
use Rattle.std.specs.Prelude.{ℕ, cond, not, List, Ok, Err, Result, ◌==◌}
use Rattle.std.specs.Result.{result_and}
use Rattle.guide.specs.declared.written.Form.{Form}
use Rattle.guide.specs.declared.written.UnknownForm.{UnknownForm}
use Rattle.guide.specs.Told.{Told, finally, End}
use Rattle.guide.specs.Written.{form_of, written_told}
use Rattle.grammar.specs.Meaning.{Meaning}
use Rattle.grammar.specs.Spaced.{spaced_meaning}
use Rattle.packed.specs.Base.{base_meaning, base_answer}
use Rattle.tree.specs.declared.verdict.Accepted.{Accepted}
use Rattle.tree.specs.declared.verdict.Refusal.{Refusal}
use Rattle.tree.specs.Check.{depth_limit, verdict}
use Rattle.cues.specs.declared.answers.Refusal.TheVariants.{Check}
use Rattle.fekhtovi.specs.declared.answer.FekhtoviAnswer.{FekhtoviAnswer}
use Rattle.fekhtovi.specs.declared.refused.Refused.{Refused}
use Rattle.fekhtovi.specs.declared.refused.Refused.TheVariants as no
use Rattle.fekhtovi.specs.Answer.{of_checked, refusing}
use Rattle.fekhtovi.specs.Bars.{without_rules, bars_answer}

-- a grammar with blanks unless the number is 0
abbrev pub with_blanks : ℕ → Meaning → Meaning
with_blanks blanks m = cond (not (blanks == 0)) (spaced_meaning m) m

-- the grammar of a table, with blanks or not, and without the barred rules
abbrev pub chosen_meaning : List ℕ → ℕ → List ℕ → Meaning
chosen_meaning table blanks bars = without_rules bars (with_blanks blanks (base_meaning table))

-- what a guide of no known form would tell is never asked
abbrev pub guide_told : Result Form UnknownForm → List ℕ → Told
guide_told (Ok form) guide = written_told form guide
guide_told (Err unknown) guide = finally End

-- What is asked before anything is checked, and answered by the first no: is the form known, is the table lawful, and can each of the
-- numbers be barred?
abbrev pub may_open : ℕ → List ℕ → Result Unit Refused
may_open form table = result_and (refusing no.Form (form_of form)) (refusing no.Table (base_answer table))

abbrev pub may_check : ℕ → List ℕ → List ℕ → Result Unit Refused
may_check form table bars = result_and (may_open form table) (refusing no.Bar (bars_answer bars))

-- a refusal of the check of a guide
abbrev pub by_check : Refusal → Refused
by_check refusal = no.Call (Check refusal)

abbrev pub check_result : List ℕ → ℕ → List ℕ → List ℕ → ℕ → List ℕ → ℕ → Result Accepted Refused
check_result table blanks bars text form guide frames =
    result_and (may_check form table bars)
    (refusing by_check (verdict (chosen_meaning table blanks bars) (depth_limit frames) text (guide_told (form_of form) guide)))

abbrev pub check_answer : List ℕ → ℕ → List ℕ → List ℕ → ℕ → List ℕ → ℕ → FekhtoviAnswer
check_answer table blanks bars text form guide frames = of_checked (check_result table blanks bars text form guide frames)
