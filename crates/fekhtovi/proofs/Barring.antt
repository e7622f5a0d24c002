-- Barring one number after the other.
use Rattle.std.proofs.Common.{◌≡◌, ℕ, Bool, true, false, cond, ◌&&◌, ◌||◌, eqb, List, [], ◌∷◌, None, Some, Ok, Err, Option, sym, refl, ap, ◌∙◌, subst}
use mathlib.Core.Path.{fun_ext}
use Rattle.std.specs.Iterator.{AlwaysYields}
use Rattle.grammar.specs.Meaning.{Meaning, Rule}
use Rattle.grammar.specs.declared.barred.BarRefusal.{BarRefusal}
use Rattle.grammar.specs.declared.barred.BarRefusal.TheVariants.{NumberTooLarge}
use Rattle.grammar.specs.Barred.{can_bar, bar_answer, is_barred, Bars, NoneBarred, barred_meaning}
use Rattle.packed.specs.Check.{every}
use Rattle.fekhtovi.specs.Bars.{is_in, without_rules, bars_answer}

-- the numbers that an iterator has still to give: barred with those that are barred already, they are all that are listed
pub record ToCome {S : Type 0} (steps : S → Option ℕ → S → Type 0) (it : S) (listed : List ℕ) (flags : List Bool) : Type 0 where
  pub rest : List ℕ
  pub yields : AlwaysYields steps (λ n. n) it rest
  pub answer : every can_bar listed ≡ every can_bar rest
  pub barred : (k : ℕ) → (is_barred flags k || is_in k rest) ≡ is_in k listed

pub barred_none : {S : Type 0} {steps : S → Option ℕ → S → Type 0} (it it' : S) (listed : List ℕ) (flags : List Bool)
    → it' ≡ it → NoneBarred flags → AlwaysYields steps (λ n. n) it listed → ToCome steps it' listed flags
barred_none {S} {steps} it it' listed flags same none y =
    let P : S → Type 0 = λ s. AlwaysYields steps (λ n. n) s listed in
    record { rest = listed; yields = subst P (sym same) y; answer = refl; barred = λ k. ap (λ b. b || is_in k listed) (none k) }

-- one number more is barred, and is one less to come
step : (now before same may rest all : Bool) → now ≡ (before || (same && may)) → may ≡ true → (before || (same || rest)) ≡ all → (now || rest) ≡ all
step now true same may rest all p q h = ap (λ v. v || rest) p ∙ h
step now false true may rest all p q h = ap (λ v. v || rest) (p ∙ q) ∙ h
step now false false may rest all p q h = ap (λ v. v || rest) p ∙ h

or_none : (b : Bool) → (b || false) ≡ b
or_none true = refl
or_none false = refl

-- the answer for one number or for all, by whether they can be barred
from_ok : (b : Bool) → cond b (Ok (tt {0})) (Err NumberTooLarge) ≡ Ok (tt {0}) → b ≡ true
from_ok true e = refl
from_ok false e = cc

from_err : (b : Bool) (e : BarRefusal) → cond b (Ok (tt {0})) (Err NumberTooLarge) ≡ Err e → b ≡ false
from_err true e i = cc
from_err false e i = refl

the_refusal : (e : BarRefusal) → NumberTooLarge ≡ e
the_refusal NumberTooLarge = refl

-- the next number was barred
pub barred_more : {S : Type 0} {steps : S → Option ℕ → S → Type 0} (it it' : S) (n : ℕ) (listed : List ℕ) (flags after : List Bool) (u : Unit {0})
    → steps it (Some n) it' → bar_answer n ≡ Ok u → Bars n flags after → ToCome steps it listed flags → ToCome steps it' listed after
barred_more {S} {steps} it it' n listed flags after u gave may bars c = at_rest c.rest c.yields c.answer c.barred where
  can : can_bar n ≡ true
  can = from_ok (can_bar n) may

  at_rest : (rest : List ℕ) → AlwaysYields steps (λ n. n) it rest → every can_bar listed ≡ every can_bar rest
      → ((k : ℕ) → (is_barred flags k || is_in k rest) ≡ is_in k listed) → ToCome steps it' listed after
  at_rest [] y a b = absurd (y n it' gave)
  at_rest (m ∷ rest) y a b =
      let next = y.1 n it' gave in
      let is : n ≡ m = next.0 in
      record {
        rest = rest;
        yields = next.1;
        answer = a ∙ ap (λ t. t && every can_bar rest) (ap can_bar (sym is) ∙ can);
        barred = λ k.
            step (is_barred after k) (is_barred flags k) (eqb k n) (can_bar n) (is_in k rest) _ (bars k) can
            (ap (λ m. is_barred flags k || (eqb k m || is_in k rest)) is ∙ b k);
      }

-- the next number is refused, so the list is
pub barred_refused : {S : Type 0} {steps : S → Option ℕ → S → Type 0} (it it' : S) (n : ℕ) (listed : List ℕ) (flags : List Bool) (e e' : BarRefusal)
    → steps it (Some n) it' → bar_answer n ≡ Err e → ToCome steps it listed flags → Err e' ≡ bars_answer listed
barred_refused {S} {steps} it it' n listed flags e e' gave refused c =
    ap Err (sym (the_refusal e')) ∙ sym (ap (λ t. cond t (Ok tt) (Err NumberTooLarge)) (at_rest c.rest c.yields c.answer)) where
      at_rest : (rest : List ℕ) → AlwaysYields steps (λ n. n) it rest → every can_bar listed ≡ every can_bar rest → every can_bar listed ≡ false
      at_rest [] y a = absurd (y n it' gave)
      at_rest (m ∷ rest) y a =
          a ∙ ap (λ t. t && every can_bar rest) (ap can_bar (sym ((y.1 n it' gave).0)) ∙ from_err (can_bar n) e refused)

-- no number is left: where none was barred at first, the grammar has a gap at each number of the list, and no other
pub record Barred (listed : List ℕ) (flags : List Bool) : Type 0 where
  pub answer : Ok tt ≡ bars_answer listed
  pub meaning : (m : Meaning) → barred_meaning flags m ≡ without_rules listed m

same_rules : (flags : List Bool) (listed : List ℕ) → ((k : ℕ) → is_barred flags k ≡ is_in k listed) → (m : Meaning) → barred_meaning flags m ≡ without_rules listed m
same_rules flags listed all m =
    let same : (n : ℕ) → cond (is_barred flags n) None (m.rule n) ≡ cond (is_in n listed) None (m.rule n) =
    λ n. ap (λ b. cond b None (m.rule n)) (all n) in
    let with : (ℕ → Option Rule) → Meaning = λ rule. record { start = m.start; symbols = m.symbols; rules = m.rules; rule = rule } in
    ap with (fun_ext same)

pub barred_all : {S : Type 0} {steps : S → Option ℕ → S → Type 0} (it it' : S) (listed : List ℕ) (flags : List Bool)
    → steps it None it' → ToCome steps it listed flags → Barred listed flags
barred_all {S} {steps} it it' listed flags gave c = at_rest c.rest c.yields c.answer c.barred where
  at_rest : (rest : List ℕ) → AlwaysYields steps (λ n. n) it rest → every can_bar listed ≡ every can_bar rest
      → ((k : ℕ) → (is_barred flags k || is_in k rest) ≡ is_in k listed) → Barred listed flags
  at_rest [] y a b = record {
    answer = sym (ap (λ t. cond t (Ok tt) (Err NumberTooLarge)) a);
    meaning = same_rules flags listed (λ k. sym (or_none (is_barred flags k)) ∙ b k);
  }
  at_rest (m ∷ rest) y a b = absurd (y.0 it' gave)
