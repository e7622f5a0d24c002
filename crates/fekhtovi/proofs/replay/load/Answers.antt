use Rattle.std.proofs.Common.{rules, min, map, ap, ◌∙◌}
use Rattle.std.proofs.lemmas.Iterator.{YieldsList-from_slice, YieldsList-from_map}
use Rattle.std.proofs.lemmas.Iterator.Consumers.{YieldsList-at}
use Rattle.fekhtovi.specs.declared.refused.Refused.TheVariants.{Call as RefusedCall}
use Rattle.fekhtovi.specs.Bars.{without_rules}
use Rattle.fekhtovi.specs.Check.{with_blanks, guide_told}
use Rattle.fekhtovi.specs.Pairs.{pair_in}
use Rattle.fekhtovi.proofs.Asked.{of_list, mapped, bars_refused, loaded_so, held_so, kept_so, lent, same_load}
use Rattle.fekhtovi.proofs.replay.load.Goals as goal

pub returns-in_err-bar_all-clause-answers : goal.returns-in_err-bar_all-clause-answers
returns-in_err-bar_all-clause-answers g c =
    let f = c.args.call.fields in
    let from = YieldsList-at c.map-bars.ensures.source (YieldsList-from_slice f.bars.now c.iter.ensures.rest) in
    bars_refused c.args.call.head.form f.table.now (map pair_in f.bars.now) _ _ _ c.in_ok-base.ensures.answer
    (of_list _ _ c.in_err-bar_all.ensures.answer (YieldsList-from_map _ pair_in from c.map-bars.ensures.closure (λ x r q k. search rules)))
    c.from_residual-in_err-bar_all.ensures.1

pub returns-in_err-bar_all-clause-texts : goal.returns-in_err-bar_all-clause-texts
returns-in_err-bar_all-clause-texts g c =
    let f = c.args.call.fields in
    let from = YieldsList-at c.map-bars.ensures.source (YieldsList-from_slice f.bars.now c.iter.ensures.rest) in
    kept_so c.args.call.head.form f.table.now (map pair_in f.bars.now) _ _ _ c.in_ok-base.ensures.answer
    (of_list _ _ c.in_err-bar_all.ensures.answer (YieldsList-from_map _ pair_in from c.map-bars.ensures.closure (λ x r q k. search rules)))

pub returns : goal.returns
returns g c =
    let a = c.args in
    let f = a.call.fields in
    let h = a.call.head in
    let blocks = g.M.Memory.block_count in
    let held = g.M.Memory.texts a.memory.now in
    let from = YieldsList-at c.map-bars.ensures.source (YieldsList-from_slice f.bars.now c.iter.ensures.rest) in
    let bars = map pair_in f.bars.now in
    let can = of_list _ bars c.in_ok-bar_all.ensures.answer (YieldsList-from_map _ pair_in from c.map-bars.ensures.closure (λ x r q k. search rules)) in
    let barred = rw c.new-chosen.ensures.below at
    (of_list _ bars c.in_ok-bar_all.ensures.barred (YieldsList-from_map _ pair_in from c.map-bars.ensures.closure (λ x r q k. search rules))) in
    let told = c.new-guide.ensures ∙ ap (λ r. guide_told r f.guide.now) c.in_ok-base.ensures.form in
    let means = barred ∙ ap (without_rules bars) (c.new.ensures ∙ ap (with_blanks h.blanks) c.in_ok-base.ensures.base) in
    let same = same_load a.number f.text.now _ _ _ _ _ _ means told (lent c.min-count.result h.frames a.frames.now (search rules) (c.min-count.ensures ∙ ap (λ n. min n 1024) c.from.ensures)) in
    record {
      answers = loaded_so h.form f.table.now bars blocks held _ _ _ _ c.in_ok-base.ensures.answer can same c.perform.ensures.performed.sheet.answers
          (mapped RefusedCall _ _ c.map_err.ensures.cases);
      texts = held_so h.form f.table.now bars blocks held _ _ _ c.in_ok-base.ensures.answer can same c.perform.ensures.performed.sheet.texts;
    }
