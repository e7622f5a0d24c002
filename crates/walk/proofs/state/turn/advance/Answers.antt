use Rattle.std.proofs.Common.{sym, ap, ◌∙◌}
use Rattle.walk.specs.Rows.{advanced}
use Rattle.walk.proofs.Opened.{put_back}
use Rattle.walk.proofs.state.turn.advance.Goals as goal

pub returns-in-Some : goal.returns-in-Some
returns-in-Some c =
    let p = c.in-Some.ensures in
    put_back _ _ _ _ _ _ _ _ p.0 p.1 c.push.ensures ∙ ap advanced (sym p.1)
