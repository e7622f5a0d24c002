use Rattle.std.proofs.Common.{◌≡◌, ◌+◌, Ok, Err, Some, length, sym, ap, ◌∙◌, arith, rules}
use Rattle.std.proofs.lemmas.Grind.{common_steps}
use Rattle.guide.specs.Told.{after}
use Rattle.tree.specs.Verdict.{taken}
use Rattle.tree.specs.Check.{State, going, run}
use Rattle.walk.specs.Rows.{state_of}
use Rattle.tree.proofs.Refusals.{going_counts, over_counts}
use Rattle.walk.proofs.Answered.{behind_one, turn_runs}
use Rattle.walk.proofs.follow.Goals as goal

pub loop-event-init : goal.loop-event-init
loop-event-init g c =
    let m = g.B.Grammar.meaning c.args.grammar.now in
    let told = g.G.Guide.told c.args.guide.now in
    let begun = c.new-walk.ensures.begins m in
    record {
      grammar = c.new-walk.ensures.grammar;
      frames = ap length c.new-walk.ensures.frames;
      rest = ap (λ s. run m (length c.args.frames.now) (going s) told) begun;
      behind = ap (λ (s : State). after s.events told) (sym begun);
    }

pub returns-in_err-event-clause-behind_last : goal.returns-in_err-event-clause-behind_last
returns-in_err-event-clause-behind_last g c =
    let e : taken c.from_residual.result ≡ c.loop-event.walk.counts.events + 1 = grind (arith, common_steps) in
    behind_one _ _ (g.G.Guide.told c.args.guide.now) _ _ c.next.ensures.goes c.loop-event.invariant.behind e

pub loop-event-preserved : goal.loop-event-preserved
loop-event-preserved g c =
    let m = g.B.Grammar.meaning c.args.grammar.now in
    let told = g.G.Guide.told in
    let w = c.loop-event.walk in
    let s = state_of m w in
    let i = c.loop-event.invariant in
    let said : c.next.result ≡ Ok (Some c.in-Some.event) = grind (arith, common_steps) in
    let next = sym said ∙ c.next.ensures.said in
    let step = rw i.grammar at c.in_ok-take.ensures.steps in
    let one = going_counts m (length w.frames.now) s _ (Ok (Some c.in-Some.event)) step in
    record {
      grammar = c.take.ensures.loans.grammar ∙ i.grammar;
      frames = c.take.ensures.loans.frames ∙ i.frames;
      rest = turn_runs m _ _ s _ _ (told c.loop-event.guide) _ _ i.frames next c.next.ensures.goes i.rest step;
      behind = behind_one _ _ (told c.args.guide.now) _ _ c.next.ensures.goes i.behind one;
    }

pub returns-in_err-take-clause-behind_last : goal.returns-in_err-take-clause-behind_last
returns-in_err-take-clause-behind_last g c =
    let w = c.loop-event.walk in
    let m = g.B.Grammar.meaning w.grammar.now in
    let said : c.from_residual-in_err-take.result ≡ Err c.in_err-take.field-0.0 = search rules in
    let e = ap taken said ∙ over_counts m (length w.frames.now) (state_of m w) _ (Ok (Some c.in-Some.event)) c.in_err-take.ensures.steps in
    behind_one _ _ (g.G.Guide.told c.args.guide.now) _ _ c.next.ensures.goes c.loop-event.invariant.behind e

pub returns-clause-behind_last : goal.returns-clause-behind_last
returns-clause-behind_last g c =
    let e : taken c.finish.result ≡ c.loop-event.walk.counts.events + 1 = grind (arith, common_steps) in
    behind_one _ _ (g.G.Guide.told c.args.guide.now) _ _ c.next.ensures.goes c.loop-event.invariant.behind e
