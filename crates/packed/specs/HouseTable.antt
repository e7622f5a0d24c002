-- The house grammar as a packed table.
use Rattle.std.specs.Prelude.{◌≡◌, ℕ, true, List}
use Rattle.grammar.specs.House.{house_rules, house_meaning}
use Rattle.packed.specs.Format.{packed_meaning}
use Rattle.packed.specs.Check.{is_lawful}
use Rattle.packed.specs.Encoding.{table_of}

abbrev pub house_table : List ℕ
house_table = table_of (record { start = 0; symbols = 4; rules = house_rules })

abbrev pub HouseTableIsLawfulAndMeansHouse : Type 0
HouseTableIsLawfulAndMeansHouse = (is_lawful house_table ≡ true) × (packed_meaning house_table ≡ house_meaning)
