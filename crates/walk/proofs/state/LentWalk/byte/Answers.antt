use Rattle.std.proofs.Common.{◌∙◌}
use Rattle.walk.specs.Rows.{parts_now, state_of}
use Rattle.walk.proofs.Opened.{leaf_inside, next_is, byte_on}
use Rattle.walk.proofs.Turns.{read_state}
use Rattle.walk.proofs.state.LentWalk.byte.Goals as goal

pub returns-clause-takes : goal.returns-clause-takes
returns-clause-takes g c =
    let w = c.args.self.now in
    let m = g.B.Grammar.meaning w.grammar.now in
    let next = next_is w.text.now w.counts.used c.get.result _ c.get.ensures.lookup.0 c.get.ensures.lookup.1 c.if-ne.ensures in
    read_state m w _ c.in-Some.ensures _ c.advance.ensures (leaf_inside m _ _ _ _ c.in-Some.ensures c.if-not-allows.ensures)
    ∙ byte_on (state_of m w) c.args.byte _ (parts_now m w) c.in-Some.ensures c.if-not-allows.ensures _ next
