use Rattle.std.proofs.Common.{sym, refl, ap, ◌∙◌}
use Rattle.std.proofs.lemmas.Result.{err_from_is_err_and, IfOk-from_err}
use Rattle.fekhtovi.specs.Bars.{without_rules}
use Rattle.fekhtovi.proofs.Barring.{barred_none, barred_more, barred_refused, barred_all}
use Rattle.fekhtovi.proofs.bars.bar_all.Goals as goal

pub loop-rule-init : goal.loop-rule-init
loop-rule-init g c = (
  refl,
  λ listed y. barred_none _ _ _ _ c.into_iter-rule-iterator.ensures.into_iter_gives c.requires.none y,
)

pub loop-rule-preserved : goal.loop-rule-preserved
loop-rule-preserved g c = (
  c.bar.ensures.below ∙ c.loop-rule.invariant.0,
  λ listed y.
      barred_more _ _ _ _ _ _ _ c.in-Some.ensures.steps (sym c.bar.ensures.answer ∙ c.in_ok-bar.was) c.bar.ensures.set
      (c.loop-rule.invariant.1 listed y),
)

pub returns-in_err-bar : goal.returns-in_err-bar
returns-in_err-bar g c =
    let refused = err_from_is_err_and c.from_residual.result c.from_residual.ensures.1 in
    record {
      below = c.bar.ensures.below ∙ c.loop-rule.invariant.0;
      answer = λ listed y.
          refused.1
          ∙ barred_refused _ _ _ _ _ _ _ c.in-Some.ensures.steps (sym c.bar.ensures.answer ∙ c.in_err-bar.was) (c.loop-rule.invariant.1 listed y);
      barred = λ listed y. IfOk-from_err c.from_residual.result _ c.from_residual.ensures.0;
    }

pub returns : goal.returns
returns g c = record {
  below = c.loop-rule.invariant.0;
  answer = λ listed y. (barred_all _ _ _ _ c.in-None.ensures.steps (c.loop-rule.invariant.1 listed y)).answer;
  barred = λ listed y.
      (barred_all _ _ _ _ c.in-None.ensures.steps (c.loop-rule.invariant.1 listed y)).meaning _
      ∙ ap (λ b. without_rules listed (g.B.Grammar.meaning b)) c.loop-rule.invariant.0;
}
