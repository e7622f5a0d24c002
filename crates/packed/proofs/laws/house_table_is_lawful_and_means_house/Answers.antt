use Rattle.std.proofs.Common.{refl}
use Rattle.packed.proofs.laws.house_table_is_lawful_and_means_house.Goals as goal

pub returns : goal.returns
returns c = (refl, refl)
