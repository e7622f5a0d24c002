use Rattle.std.proofs.Common.{◌≡◌, Err, length, ◌∙◌, rules, arith}
use Rattle.walk.specs.Rows.{parts_now, state_of}
use Rattle.walk.proofs.Opened.{was_pushed, was_full, enter_deep, enter_on}
use Rattle.walk.proofs.Turns.{open_nodes, awaited_fits, entered_state}
use Rattle.walk.proofs.state.LentWalk.enter.Goals as goal

pub advance-requires : goal.advance-requires
advance-requires g c =
    let w = c.args.self.now in
    awaited_fits (g.B.Grammar.meaning w.grammar.now) w _ c.in-Some-Symbol.ensures (g.B.Grammar.bounds w.grammar.now)

pub returns-in_err-or-clause-takes : goal.returns-in_err-or-clause-takes
returns-in_err-or-clause-takes g c =
    let w = c.args.self.now in
    let m = g.B.Grammar.meaning w.grammar.now in
    let n = open_nodes m w in
    let full = was_full _ _ _ _ _ _ _ c.in_err-or.ensures c.push.ensures in
    let said : c.from_residual-in_err-or.result ≡ Err c.in_err-or.field-0.0 = search rules in
    rw (said, full.0)
    (enter_deep m (length w.frames.now) (state_of m w) _ _ _ (parts_now m w) _ _ c.in-Some-Symbol.ensures c.in-Some-Symbol.field-0-is
    c.in_ok-left.ensures.ok_part c.left.ensures c.if-left-symbol.false (omega arith))

pub returns-clause-takes : goal.returns-clause-takes
returns-clause-takes g c =
    let w = c.args.self.now in
    let m = g.B.Grammar.meaning w.grammar.now in
    let n = open_nodes m w in
    let p = was_pushed _ _ _ _ _ _ _ c.in_ok-or.ensures c.push.ensures in
    entered_state m w _ c.in-Some-Symbol.ensures c.args.rule _ _ c.advance.ensures p.1
    ∙ enter_on m (length w.frames.now) (state_of m w) _ _ _ (parts_now m w) _ _ c.in-Some-Symbol.ensures c.in-Some-Symbol.field-0-is
    c.in_ok-left.ensures.ok_part c.left.ensures c.if-left-symbol.false (omega arith)
