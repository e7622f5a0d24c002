use Rattle.std.proofs.Common.{◌≡◌, ℕ, zero, suc, false, get_or, replicate, refl}
use Rattle.grammar.proofs.barred.BarSet.new.Goals as goal

none_set : (size n : ℕ) → get_or (replicate size false) n false ≡ false
none_set zero n = refl
none_set (suc size) zero = refl
none_set (suc size) (suc n) = none_set size n

pub returns : goal.returns
returns c n = none_set 1024 n
