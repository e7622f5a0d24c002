use Rattle.std.proofs.Common.{sym, ap, ◌∙◌, length}
use Rattle.std.proofs.lemmas.Iterator.{YieldsList-from_slice}
use Rattle.std.proofs.lemmas.Iterator.Consumers.{YieldsList-at, YieldsList-from_copied}
use Rattle.fekhtovi.specs.Bars.{without_rules, bars_answer}
use Rattle.fekhtovi.specs.Check.{with_blanks, guide_told, by_check}
use Rattle.fekhtovi.proofs.Asked.{mapped, bars_refused, checked_so, no_numbers, chosen_plain}
use Rattle.fekhtovi.proofs.checked.Goals as goal

pub returns-then-is_empty : goal.returns-then-is_empty
returns-then-is_empty c =
    let a = c.args in
    let none = no_numbers _ (sym c.is_empty.ensures ∙ c.if-is_empty.true) in
    checked_so a.table.now a.blanks a.bars.now a.text.now a.form a.guide.now (length a.frames.now) _ _ _ _
    c.in_ok-base.ensures.answer (ap bars_answer (sym none))
    (c.in_ok-base.ensures.base ∙ sym (chosen_plain a.table.now _ _ c.if-blanks-eq0.true none))
    (c.new-guide.ensures ∙ ap (λ r. guide_told r a.guide.now) c.in_ok-base.ensures.form)
    c.check_plain.ensures (mapped by_check _ _ c.map_err.ensures.cases)

pub returns-in_err-bar_all : goal.returns-in_err-bar_all
returns-in_err-bar_all c =
    let a = c.args in
    let numbers = YieldsList-from_copied (YieldsList-at c.copied.ensures.source (YieldsList-from_slice a.bars.now c.iter.ensures.rest)) in
    bars_refused a.form a.table.now a.bars.now _ _ _ c.in_ok-base.ensures.answer
    (c.in_err-bar_all.ensures.answer a.bars.now numbers.runs) c.from_residual-in_err-bar_all.ensures.1

pub returns : goal.returns
returns c =
    let a = c.args in
    let numbers = YieldsList-from_copied (YieldsList-at c.copied.ensures.source (YieldsList-from_slice a.bars.now c.iter.ensures.rest)) in
    let barred = rw c.new-chosen.ensures.below at (c.in_ok-bar_all.ensures.barred a.bars.now numbers.runs) in
    checked_so a.table.now a.blanks a.bars.now a.text.now a.form a.guide.now (length a.frames.now) _ _ _ _
    c.in_ok-base.ensures.answer (c.in_ok-bar_all.ensures.answer a.bars.now numbers.runs)
    (barred ∙ ap (without_rules a.bars.now) (c.new.ensures ∙ ap (with_blanks a.blanks) c.in_ok-base.ensures.base))
    (c.new-guide.ensures ∙ ap (λ r. guide_told r a.guide.now) c.in_ok-base.ensures.form) c.check.ensures.verdict (mapped by_check _ _ c.map_err-2.ensures.cases)
