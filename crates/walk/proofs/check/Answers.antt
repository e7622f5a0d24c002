use Rattle.std.proofs.Common.{◌≡◌, ℕ, min, List, length, take, sym, ap, ◌∙◌, subst, arith, length-take}
use Rattle.tree.specs.Check.{depth_limit, verdict}
use Rattle.tree.specs.Theorems.{AcceptedExactly, RefusedWhere}
use Rattle.tree.proofs.Complete.{accepted_exactly_when_a_tree_is_told}
use Rattle.tree.proofs.Refusals.{refusals_say_where}
use Rattle.walk.proofs.check.Goals as goal

-- the frames that are lent on are as many as count
capped : {A : Type 0} (k : ℕ) (frames : List A) → k ≡ min (length frames) 1024 → length (take k frames) ≡ depth_limit (length frames)
capped k frames e = simp length-take (omega arith)

pub returns : goal.returns
returns g c =
    let m = g.B.Grammar.meaning c.args.grammar.now in
    let D = depth_limit (length c.args.frames.now) in
    let text = c.args.text.now in
    let told = g.G.Guide.told c.args.guide.now in
    let e : c.follow.result ≡ verdict m D text told =
    c.follow.ensures.verdict ∙ ap (λ (n : ℕ). verdict m n text told) (capped _ c.args.frames.now c.min-limit.ensures) in
    record {
      verdict = e;
      exactly = subst (AcceptedExactly m D text told) (sym e) (accepted_exactly_when_a_tree_is_told m D text told);
      refusals = subst (RefusedWhere m D text told) (sym e) (refusals_say_where m D text told);
      behind_last = c.follow.ensures.behind_last;
    }
