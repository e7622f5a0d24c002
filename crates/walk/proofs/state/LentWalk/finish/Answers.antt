use Rattle.std.proofs.Common.{◌≡◌, true, false, ◌⊎◌, is_some, Err, sym, ap, ◌∙◌, inl, inr}
use Rattle.guide.specs.Stack.{held, newest}
use Rattle.walk.specs.Rows.{state_of}
use Rattle.walk.proofs.Opened.{is_mapped, end_early, end_awaited}
use Rattle.walk.proofs.Turns.{text_left}
use Rattle.walk.proofs.state.LentWalk.finish.Goals as goal
use Rattle.walk.proofs.state.LentWalk.finish.Goals.{then-self-eq0-via-then-self-eq0, then-self-eq0-via-else-self-eq0+then-is_some}

pub returns-then-self-eq0 : goal.returns-then-self-eq0
returns-then-self-eq0 g c =
    let w = c.args.self.now in
    let m = g.B.Grammar.meaning w.grammar.now in
    let fs = held w.frames.now w.counts.depth in
    let s = state_of m w in
    let early : (w.counts.rules ≡ 0) ⊎ (is_some (newest fs) ≡ true) = elim c.then-self-eq0.branch [
      | then-self-eq0-via-then-self-eq0 v ↦ inl v.if-self-eq0.true
      | then-self-eq0-via-else-self-eq0+then-is_some v ↦
          inr (sym (ap is_some v.top.ensures) ∙ is_mapped (λ x. x.now) v.top.result ∙ sym v.is_some.ensures ∙ v.if-is_some.true)
    ] in
    ap Err c.refusal.ensures ∙ end_early m w.counts.rules s fs s.text early

pub returns-then-self : goal.returns-then-self
returns-then-self g c =
    let w = c.args.self.now in
    let m = g.B.Grammar.meaning w.grammar.now in
    let fs = held w.frames.now w.counts.depth in
    let s = state_of m w in
    let none : is_some (newest fs) ≡ false =
    sym (ap is_some c.top.ensures) ∙ is_mapped (λ x. x.now) c.top.result ∙ sym c.if-is_some.ensures in
    ap Err c.refusal-then-self.ensures ∙ text_left m w c.if-self.true
    ∙ end_awaited m w.counts.rules s fs s.text c.if-self-eq0.false none
