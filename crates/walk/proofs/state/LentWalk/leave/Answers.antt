use Rattle.std.proofs.Common.{is_some, sym, ap, ◌∙◌}
use Rattle.walk.specs.Rows.{state_of}
use Rattle.walk.proofs.Opened.{leave_on, popped}
use Rattle.walk.proofs.state.LentWalk.leave.Goals as goal

pub returns-clause-takes : goal.returns-clause-takes
returns-clause-takes g c =
    let w = c.args.self.now in
    let m = g.B.Grammar.meaning w.grammar.now in
    let p = popped w.frames.now _ _ c.pop.result (sym c.in_ok-ok_or.ensures.variant) c.pop.ensures in
    leave_on m w.counts.rules (state_of m w) _ _ _ p.1 (c.if-is_some.ensures ∙ ap is_some c.awaited.ensures)
