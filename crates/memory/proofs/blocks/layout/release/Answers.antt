use Rattle.std.proofs.Common.{ℕ, ◌<◌, cond, None, Option, length, get_or, sym, ◌∙◌, arith}
use Rattle.std.proofs.lemmas.Bool.Decides.{nat_tests}
use Rattle.std.proofs.lemmas.List.{get_or_default}
use Rattle.std.proofs.lemmas.List.Edits.{map_over_more}
use Rattle.memory.specs.Blocks.{is_owner}
use Rattle.memory.proofs.Owners.{owner_test}
use Rattle.memory.proofs.blocks.layout.release.Goals as goal
use Rattle.memory.proofs.blocks.layout.release.Goals.{then-eq, else-eq}

pub loop-owner-preserved : goal.loop-owner-preserved
loop-owner-preserved c =
    let n = c.args.number in
    let f : Option ℕ → Option ℕ = λ o. cond (is_owner n o) None o in
    let ys = c.loop-owner.owners in
    let i = c.loop-owner.owner-index in
    let x = get_or ys i c.owner-item.result in
    let h : i < length ys = omega arith in
    let m = map_over_more f c.args.owners.now ys i x (omega arith) c.loop-owner.invariant (get_or_default ys i c.owner-item.result x h) in
    let same = sym (owner_test n x) ∙ sym c.eq.ensures in
    elim c.if-eq.branch [ then-eq w ↦ let t = same ∙ w.if-eq.true in grind (arith, nat_tests) | else-eq w ↦ let t = same ∙ w.if-eq.false in grind (arith, nat_tests) ]
