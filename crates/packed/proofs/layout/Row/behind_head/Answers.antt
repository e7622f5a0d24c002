use Rattle.std.proofs.Common.{◌≡◌, length, rules, arith, length-drop}
use Rattle.std.proofs.lemmas.List.{take_all}
use Rattle.packed.proofs.layout.Row.behind_head.Goals as goal

pub returns-clause-bytes : goal.returns-clause-bytes
returns-clause-bytes c =
    let whole : length c.args.self.bytes.now ≡ 64 = search rules in
    take_all 60 _ (simp length-drop (omega arith))
