use Rattle.std.proofs.Common.{sym, ◌∙◌}
use Rattle.walk.proofs.Opened.{awaited_inside}
use Rattle.walk.proofs.state.LentWalk.awaited.Goals as goal

pub returns : goal.returns
returns g c =
    c.part.ensures ∙ sym (awaited_inside (g.B.Grammar.meaning c.args.self.now.grammar.now) _ _ _ c.if-self-eq0.false c.in_ok-frame.ensures)
