-- The laws of the barred grammar.
use Rattle.std.proofs.Common.{◌≡◌, ℕ, ◌<◌, Bool, true, false, cond, ◌&&◌, ◌||◌, eqb, ltb, List, None, Option, sym, refl, ap, ◌∙◌}
use Rattle.std.specs.Option.{option_map}
use Rattle.std.proofs.lemmas.Bool.{cond-true, cond-false, and_left, and_right, ne_eqb, eq-eqb, lt-ltb}
use Rattle.grammar.specs.Meaning.{Rule, Meaning}
use Rattle.grammar.specs.Barred.{can_bar, is_barred, barred_meaning}
use Rattle.grammar.specs.BarredLaws.{BarringMakesOneGap, NothingBarredAsBelow, BarsAndBlanksCommute}
use Rattle.grammar.specs.Spaced.{has_room, spread, with_blanks}

or_false : (x y : Bool) → y ≡ false → (x || y) ≡ x
or_false true y e = refl
or_false false y e = e

or_true : (x y : Bool) → y ≡ true → (x || y) ≡ true
or_true true y e = refl
or_true false y e = e

pub barring_makes_one_gap : BarringMakesOneGap
barring_makes_one_gap m n before after bars =
    let same : (k : ℕ) → (eqb k n && can_bar n) ≡ false → (barred_meaning after m).rule k ≡ (barred_meaning before m).rule k =
    λ k e. ap (λ b. cond b None (m.rule k)) (bars k ∙ or_false (is_barred before k) (eqb k n && can_bar n) e) in
    record {
      gap = λ can.
          let here : (eqb n n && can_bar n) ≡ true = rw (eq-eqb n n refl, can) in
          cond-true (is_barred after n) None (m.rule n) (bars n ∙ or_true (is_barred before n) (eqb n n && can_bar n) here);
      others = λ k apart. same k (and_left (eqb k n) (can_bar n) (ne_eqb k n apart));
      refused = λ cannot k. same k (and_right (eqb k n) (can_bar n) cannot);
    }

pub nothing_barred_as_below : NothingBarredAsBelow
nothing_barred_as_below m flags none k = cond-false (is_barred flags k) None (m.rule k) (none k)

mapped_cond : (b : Bool) (f : Rule → Rule) (o : Option Rule) → option_map f (cond b None o) ≡ cond b None (option_map f o)
mapped_cond true f o = refl
mapped_cond false f o = refl

-- the rule below the count in the grammar with blanks, over the barred grammar and under it
with_blanks_barred : (m : Meaning) (flags : List Bool) (n : ℕ) → n < m.rules
    → (with_blanks (barred_meaning flags m)).rule n ≡ (barred_meaning flags (with_blanks m)).rule n
with_blanks_barred m flags n l =
    let below = lt-ltb n m.rules l in
    cond-true (ltb n m.rules) _ _ below ∙ (mapped_cond (is_barred flags n) (spread m.symbols) (m.rule n)
    ∙ ap (cond (is_barred flags n) None) (sym (cond-true (ltb n m.rules) _ _ below)))

pub bars_and_blanks_commute : BarsAndBlanksCommute
bars_and_blanks_commute m flags n l =
    by (has_room m) (with_blanks_barred m flags n l)
  where
    by : (room : Bool) → (with_blanks (barred_meaning flags m)).rule n ≡ (barred_meaning flags (with_blanks m)).rule n
        → (cond room (with_blanks (barred_meaning flags m)) (barred_meaning flags m)).rule n ≡ (barred_meaning flags (cond room (with_blanks m) m)).rule n
    by true e = e
    by false e = refl
