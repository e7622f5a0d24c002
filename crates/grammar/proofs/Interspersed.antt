-- What stands at each place of an interspersed list, and what is left without the separator.
use Rattle.std.proofs.Common.{◌≡◌, ℕ, zero, suc, ◌+◌, ◌-◌, ◌*◌, ◌/◌, ◌%◌, ◌<◌, ◌≤◌, Bool, true, false, not, List, [], ◌∷◌, length, Some, None, filter, sym, refl, ap, ◌∙◌, arith}
use Rattle.std.specs.List.{AllByRecursion, slice_get}
use Rattle.std.proofs.lemmas.Bool.{ne_eqb}
use Rattle.grammar.specs.Meaning.{LawfulPart}
use Rattle.grammar.specs.Spaced.{intersperse}
use Rattle.grammar.specs.SpacedBounds.{length_intersperse}
use Rattle.grammar.specs.SpacedLaws.{OnlyBetween, is_symbol}
use Rattle.grammar.specs.declared.Part.{Part}
use Rattle.grammar.specs.declared.Part.TheVariants.{Symbol, Range, Except}

abbrev double : ℕ → ℕ
double zero = zero
double (suc n) = suc (suc (double n))

double_is : (n : ℕ) → double n ≡ 2 * n
double_is zero = refl
double_is (suc n) = let h = double_is n in omega arith

at_double : (w : Part) (ps : List Part) (k : ℕ) → slice_get (intersperse w ps) (double k) ≡ slice_get ps k
at_double w [] k = refl
at_double w (p ∷ []) zero = refl
at_double w (p ∷ []) (suc k) = refl
at_double w (p ∷ q ∷ ps) zero = refl
at_double w (p ∷ q ∷ ps) (suc k) = at_double w (q ∷ ps) k

behind_double : (w : Part) (ps : List Part) (k : ℕ) → k + 1 < length ps → slice_get (intersperse w ps) (suc (double k)) ≡ Some w
behind_double w [] k h = absurd (omega arith)
behind_double w (p ∷ []) k h = absurd (omega arith)
behind_double w (p ∷ q ∷ ps) zero h = refl
behind_double w (p ∷ q ∷ ps) (suc k) h = behind_double w (q ∷ ps) k (omega arith)

behind_last : (w : Part) (ps : List Part) (k : ℕ) → length ps ≤ k + 1 → slice_get (intersperse w ps) (suc (double k)) ≡ None
behind_last w [] k h = refl
behind_last w (p ∷ []) k h = refl
behind_last w (p ∷ q ∷ ps) zero h = absurd (omega arith)
behind_last w (p ∷ q ∷ ps) (suc k) h = behind_last w (q ∷ ps) k (omega arith)

-- the same at a place i, by whether it is even
module _ (w : Part) (ps : List Part) (i : ℕ) where
  pub even_place : i % 2 ≡ 0 → slice_get (intersperse w ps) i ≡ slice_get ps (i / 2)
  even_place h =
      let e : i ≡ double (i / 2) = (let d = double_is (i / 2) in omega arith) in
      ap (slice_get (intersperse w ps)) e ∙ at_double w ps (i / 2)

  odd_is : (i % 2 ≡ 0 → ⊥) → i ≡ suc (double (i / 2))
  odd_is h = let d = double_is (i / 2) in omega arith

  pub odd_place : (i % 2 ≡ 0 → ⊥) → i / 2 + 1 < length ps → slice_get (intersperse w ps) i ≡ Some w
  odd_place h l = ap (slice_get (intersperse w ps)) (odd_is h) ∙ behind_double w ps (i / 2) l

  pub odd_past : (i % 2 ≡ 0 → ⊥) → length ps ≤ i / 2 + 1 → slice_get (intersperse w ps) i ≡ None
  odd_past h l = ap (slice_get (intersperse w ps)) (odd_is h) ∙ behind_last w ps (i / 2) l

pub only_between : (w : Part) (ps : List Part) → 1 ≤ length ps → OnlyBetween w ps (intersperse w ps)
only_between w ps some =
    let long = length_intersperse w ps in
    let at : (k : ℕ) → slice_get (intersperse w ps) (2 * k) ≡ slice_get ps k =
    λ k. ap (slice_get (intersperse w ps)) (sym (double_is k)) ∙ at_double w ps k in
    let last : length (intersperse w ps) - 1 ≡ 2 * (length ps - 1) = omega arith in
    record {
      count = omega arith;
      part_at = at;
      blank_at = λ k l.
          let e : 2 * k + 1 ≡ suc (double k) = (let d = double_is k in omega arith) in
          ap (slice_get (intersperse w ps)) e ∙ behind_double w ps k l;
      first_kept = at 0;
      last_kept = ap (slice_get (intersperse w ps)) last ∙ at (length ps - 1);
    }

-- without w, an interspersed list is what the list is without w
module _ (keep : Part → Bool) (w : Part) (dropped : keep w ≡ false) where
  pub kept_interspersed : (ps : List Part) → filter keep (intersperse w ps) ≡ filter keep ps
  kept_interspersed [] = refl
  kept_interspersed (p ∷ []) = refl
  kept_interspersed (p ∷ q ∷ ps) = rw (dropped, kept_interspersed (q ∷ ps))

lower_stays : (w : ℕ) (p : Part) → LawfulPart w p → not (is_symbol w p) ≡ true
lower_stays w (Symbol s) h = ap not (ne_eqb s w (λ e. omega arith))
lower_stays w (Range low high) h = refl
lower_stays w (Except x y z) h = refl

-- lawful parts have no symbol as large as the count
pub kept_lower : (w : ℕ) (ps : List Part) → AllByRecursion (LawfulPart w) ps → filter (λ p. not (is_symbol w p)) ps ≡ ps
kept_lower w [] h = refl
kept_lower w (p ∷ ps) h = rw (lower_stays w p h.0, kept_lower w ps h.1)
