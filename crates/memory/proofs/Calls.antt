-- What is asked of a call is no more than what has to be asked.
use Rattle.std.proofs.Common.{◌≡◌, ℕ, Bool, true, false, ◌&&◌, cond, leb, List, length, is_some, is_ok, Some, None, Option, Ok, Err, Result, refl, ◌∙◌}
use Rattle.std.proofs.Math.Bool.{and-true}
use Rattle.memory.specs.declared.Refusal.{Refusal}
use Rattle.memory.specs.declared.Refusal.TheVariants.{NumberOutside, NotHeld, BufferTooShort}
use Rattle.memory.specs.Texts.{Texts, is_number, ask, none_held, may_copy_text, copyable}
use Rattle.memory.specs.Laws.{DoneWherePossible}

ask_done : {A : Type 0} (b : Bool) (why : Refusal) (r : Result A Refusal) → is_ok (ask b why r) ≡ (b && is_ok r)
ask_done true why r = refl
ask_done false why r = refl

-- where nothing is held, nothing is done
none_done : (A : Type 0) (b : Bool) → is_ok (ask {A = A} b NumberOutside (Err NotHeld)) ≡ false
none_done A true = refl
none_done A false = refl

strike_done : (n : ℕ) (o : Option (List ℕ)) → is_ok (cond (is_some o) (Ok tt) (none_held {A = Unit} n)) ≡ is_some o
strike_done n None = none_done Unit (is_number n)
strike_done n (Some t) = refl

copy_done : (n : ℕ) (o : Option (List ℕ)) (room : ℕ) → is_ok (may_copy_text n o room) ≡ copyable o room
copy_done n None room = none_done ℕ (is_number n)
copy_done n (Some t) room = ask_done (leb (length t) room) BufferTooShort (Ok (length t)) ∙ and-true (leb (length t) room)

pub done : (blocks : ℕ) (s : Texts) → DoneWherePossible blocks s
done blocks s = record {
  stored = λ n t. simp (ask_done, and-true);
  struck = λ n. strike_done n (s n);
  copied = λ n room. copy_done n (s n) room;
}
