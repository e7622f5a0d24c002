-- One of two grammars keeps the bounds. (A ghost member cites it, so it stands here and not in proofs/.)
use Rattle.grammar.specs.Meaning.{Meaning, Bounded}
use Rattle.grammar.specs.Either.{either_meaning}
use Rattle.grammar.specs.declared.either.Either.{Either}
use Rattle.grammar.specs.declared.either.Either.TheVariants.{First, Second}

pub either_bounded : {A B : Type 0} (m : A → Meaning) (k : B → Meaning) → ((a : A) → Bounded (m a)) → ((b : B) → Bounded (k b))
    → (e : Either A B) → Bounded (either_meaning m k e)
either_bounded m k a_bounded b_bounded (First a) = a_bounded a
either_bounded m k a_bounded b_bounded (Second b) = b_bounded b
