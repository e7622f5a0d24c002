-- An answer as bytes: ten numbers of eight bytes, the highest byte first.
use Rattle.std.specs.Prelude.{ℕ, ◌/◌, ◌%◌, List, [], ◌∷◌, ◌++◌}
use Rattle.fekhtovi.specs.declared.answer.FekhtoviAnswer.{FekhtoviAnswer}

abbrev pub eight_bytes : ℕ → List ℕ
eight_bytes n =
    (n / 72057594037927936 % 256) ∷ (n / 281474976710656 % 256) ∷ (n / 1099511627776 % 256) ∷ (n / 4294967296 % 256)
    ∷ (n / 16777216 % 256) ∷ (n / 65536 % 256) ∷ (n / 256 % 256) ∷ (n % 256) ∷ []

abbrev pub all_bytes : List ℕ → List ℕ
all_bytes [] = []
all_bytes (n ∷ ns) = eight_bytes n ++ all_bytes ns

abbrev pub numbers_in : FekhtoviAnswer → List ℕ
numbers_in a =
    a.refusal ∷ a.rules ∷ a.steps ∷ a.events ∷ a.fault ∷ a.rule ∷ a.cleared ∷ a.free ∷ a.bytes ∷ a.place ∷ []

abbrev pub encoded : FekhtoviAnswer → List ℕ
encoded a = all_bytes (numbers_in a)
