-- One of two grammars means what the one that is there means.
use Rattle.grammar.specs.Meaning.{Meaning}
use Rattle.grammar.specs.declared.either.Either.{Either}
use Rattle.grammar.specs.declared.either.Either.TheVariants.{First, Second}

abbrev pub either_meaning : {A B : Type 0} → (A → Meaning) → (B → Meaning) → Either A B → Meaning
either_meaning m k (First a) = m a
either_meaning m k (Second b) = k b
