use Rattle.std.proofs.Common.{sym, refl, ◌∙◌}
use mathlib.Core.Path.{fun_ext}
use Rattle.memory.specs.Texts.{sum_to}
use Rattle.memory.proofs.Owners.{unused_owned, none_noted}
use Rattle.memory.proofs.blocks.Blocks.new.Goals as goal

pub invariant_of-result : goal.invariant_of-result
unfolding sum_to
invariant_of-result c = record {
  sized = refl;
  unnumbered = refl;
  noted = λ n. simp (none_noted 121 n);
  owns = λ n. unused_owned 512 n ∙ sym (simp (none_noted 121 n));
  rest = refl;
  counted = refl;
}

pub returns : goal.returns
returns c = fun_ext (λ n. simp (none_noted 121 n))
