use Rattle.std.proofs.Common.{arith}
use Rattle.std.proofs.lemmas.Result.{err_from_is_err_and}
use Rattle.guide.proofs.Linking.{no_room, opened, leaf_told}
use Rattle.guide.proofs.link_table.LinkTableGuide.next.Goals.{in-Open+in_ok-or-in-Open, in-Tell}
use Rattle.guide.proofs.link_table.LinkTableGuide.next.Goals as goal

pub returns-in_err-or-in-Open : goal.returns-in_err-or-in-Open
returns-in_err-or-in-Open c =
    let q = err_from_is_err_and c.from_residual-in_err-or-in-Open.result c.from_residual-in_err-or-in-Open.ensures.1 in
    let s = c.args.self.now in
    let p = no_room s.phase s.read s.unread.now c.in_ok-step.rest.now s.link s.siblings s.depth (omega arith) _ _ _ _ c.in-Open.is
    c.in_ok-step.ensures _ _ _ _ c.push.ensures (rw c.at-full.ensures at c.in_err-or-in-Open.ensures) in
    rw (q.1, q.2) (record { said = p.0; goes = p.1 })

pub returns : goal.returns
returns c =
    let s = c.args.self.now in
    elim c.match-step.branch [
      | in-Open+in_ok-or-in-Open w ↦
          let p = opened s.phase s.read s.unread.now c.in_ok-step.rest.now s.link s.siblings s.depth (omega arith) _ _ _ _ w.in-Open.is
          c.in_ok-step.ensures _ _ _ _ w.push.ensures (rw w.at-full.ensures at w.in_ok-or-in-Open.ensures) in
          rw (w.self-is, w.event-is) (record { said = p.0; goes = p.1 })
      | in-Tell w ↦
          let p = leaf_told s.phase s.read s.unread.now c.in_ok-step.rest.now s.link s.siblings s.depth _ _ _ w.in-Tell.is c.in_ok-step.ensures in
          rw (w.self-is, w.event-is) (record { said = p.0; goes = p.1 })
    ]
