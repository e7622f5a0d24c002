-- Numbers in a line are read as they are written, and in no other way.
use Rattle.std.proofs.Common.{◌≡◌, ℕ, zero, suc, ◌+◌, ◌-◌, ◌*◌, ◌/◌, ◌%◌, ◌<◌, ◌≤◌, Bool, true, false, cond, eqb, leb, List, [], ◌∷◌, length, get_or, Some, None, decimal as written, Option, sym, refl, ap, ◌∙◌, arith, rules}
use Rattle.std.proofs.lemmas.Fmt.{decimal_digit, decimal_nonempty, length-decimal-le, first_decimal, digits_decimal, digits_value-decimal, decimal-digits_value}
use Rattle.std.proofs.lemmas.Str.Parse.{IsNumeralModel, numerals_by_fold, digits_value_short}
use Rattle.std.proofs.lemmas.Bool.{cond-true, cond-false, eqb-false, ne_eqb, le-leb, leb-true}
use Rattle.std.proofs.lemmas.Bool.Decides.{nat_tests as splits}
use Rattle.std.specs.Int.{IsInRange}
use Rattle.std.specs.List.{AllByRecursion}
use Rattle.guide.specs.Listing.{is_digit, decimal, rule_number, hex_digit, hex_pair, hex_byte}
use Rattle.forms.specs.Writing.{hex_digit_of}

-- an answer that stands behind a test passed it
pub passed : {A : Type 0} (b : Bool) (x : Option A) (v : A) → cond b x None ≡ Some v → (b ≡ true) × (x ≡ Some v)
passed b x v e = grind arith

failed : {A : Type 0} (b : Bool) (x : Option A) (v : A) → cond b None x ≡ Some v → (b ≡ false) × (x ≡ Some v)
failed b x v e = grind arith

-- Rule numbers.
-- the number that digits write behind n
abbrev value_from : ℕ → List ℕ → ℕ
value_from n [] = n
value_from n (d ∷ ds) = value_from (10 * n + (d - 48)) ds

abbrev pub AllDigits : List ℕ → Type 0
AllDigits ds = AllByRecursion (IsInRange 48 57) ds

numerals : IsNumeralModel AllDigits (value_from 0)
numerals = numerals_by_fold AllDigits (search rules) value_from (search rules)

decimal_back : (n : ℕ) (ds : List ℕ) (r : ℕ) → decimal n ds ≡ Some r → AllDigits ds × (value_from n ds ≡ r)
decimal_back n [] r e = (tt, cc)
decimal_back n (d ∷ ds) r e =
    let p = passed (is_digit d) (decimal (10 * n + (d - 48)) ds) r e in
    let q = p.0 in
    let digit : IsInRange 48 57 d = grind (arith, splits) in
    let i = decimal_back (10 * n + (d - 48)) ds r p.1 in ((digit, i.0), i.1)

decimal_forth : (n : ℕ) (ds : List ℕ) → AllDigits ds → decimal n ds ≡ Some (value_from n ds)
decimal_forth n [] h = refl
decimal_forth n (d ∷ ds) h =
    let digit = h.0 in
    let t : is_digit d ≡ true = grind (arith, splits) in
    cond-true (is_digit d) _ None t ∙ decimal_forth (10 * n + (d - 48)) ds h.1

-- a rule number's digits: 1 to 4, and no leading zero
pub record RuleDigits (ds : List ℕ) : Type 0 where
  pub digits : AllDigits ds
  pub some : 0 < length ds
  pub few : length ds ≤ 4
  pub no_leading_zero : get_or ds 0 0 ≡ 48 → length ds ≡ 1

rule_digits : (ds : List ℕ) (r : ℕ) → rule_number ds ≡ Some r → RuleDigits ds × (value_from 0 ds ≡ r)
rule_digits [] r e = cc
rule_digits (d ∷ []) r e =
    let p = decimal_back 0 (d ∷ []) r e in
    (record { digits = p.0; some = omega arith; few = omega arith; no_leading_zero = λ _. refl }, p.1)
rule_digits (d ∷ (e ∷ ds)) r h =
    let f = failed (eqb d 48) _ r h in
    let g = passed (leb (length ds) 2) _ r f.1 in
    let p = decimal_back 0 (d ∷ (e ∷ ds)) r g.1 in
    let few = leb-true (length ds) 2 g.0 in
    (record { digits = p.0; some = omega arith; few = omega arith; no_leading_zero = λ z. absurd (eqb-false d 48 f.0 z) }, p.1)

rule_read : (ds : List ℕ) → RuleDigits ds → rule_number ds ≡ Some (value_from 0 ds)
rule_read [] h = absurd (let k = h.some in omega arith)
rule_read (d ∷ []) h = decimal_forth 0 (d ∷ []) h.digits
rule_read (d ∷ (e ∷ ds)) h =
    let few = h.few in
    cond-false (eqb d 48) None _ (ne_eqb d 48 (λ z. let k = h.no_leading_zero z in omega arith))
    ∙ cond-true (leb (length ds) 2) _ None (le-leb (length ds) 2 (omega arith)) ∙ decimal_forth 0 (d ∷ (e ∷ ds)) h.digits

-- only one text is read as the rule number r
pub rule_back : (ds : List ℕ) (r : ℕ) → rule_number ds ≡ Some r → ds ≡ written r
rule_back ds r e =
    let p = rule_digits ds r e in
    let d = p.0 in
    let small = digits_value_short numerals ds 4 d.digits d.few in
    sym (decimal-digits_value numerals ds d.digits d.some d.no_leading_zero (omega arith)) ∙ ap written p.1

zero_alone : (r : ℕ) → r ≤ 9999 → get_or (written r) 0 0 ≡ 48 → length (written r) ≡ 1
zero_alone zero h z = ap length (decimal_digit 0 (omega arith))
zero_alone (suc r) h z = let k = first_decimal (suc r) (omega arith) (omega arith) in absurd (omega arith)

pub written_digits : (r : ℕ) → r ≤ 9999 → RuleDigits (written r)
written_digits r h = record {
  digits = digits_decimal numerals r (omega arith);
  some = decimal_nonempty r (omega arith);
  few = length-decimal-le 4 r (omega arith) (omega arith) (omega arith);
  no_leading_zero = zero_alone r h;
}

pub rule_forth : (r : ℕ) → r ≤ 9999 → rule_number (written r) ≡ Some r
rule_forth r h = rule_read (written r) (written_digits r h) ∙ ap Some (digits_value-decimal numerals r (omega arith))

-- Bytes.
hex_back : (c d : ℕ) → hex_digit c ≡ Some d → (d < 16) × (c ≡ hex_digit_of d)
hex_back c d e = grind (arith, splits)

hex_forth : (d : ℕ) → d < 16 → hex_digit (hex_digit_of d) ≡ Some d
hex_forth d h = grind (arith, splits)

pub hex_plain : (d : ℕ) → d < 16 → (10 < hex_digit_of d) × (hex_digit_of d < 256)
hex_plain d h = grind (arith, splits)

pair_back : (h l : Option ℕ) (b : ℕ) → hex_pair h l ≡ Some b → (x : ℕ) × (y : ℕ) × (h ≡ Some x) × (l ≡ Some y) × (16 * x + y ≡ b)
pair_back h l b e = grind arith

-- only one text is read as the byte b
pub byte_back : (ds : List ℕ) (b : ℕ) → hex_byte ds ≡ Some b → ds ≡ hex_digit_of (b / 16) ∷ hex_digit_of (b % 16) ∷ []
byte_back [] b e = cc
byte_back (h ∷ []) b e = cc
byte_back (h ∷ (l ∷ [])) b e =
    let p = pair_back (hex_digit h) (hex_digit l) b e in
    let x = hex_back h p.0 p.2 in
    let y = hex_back l p.1 p.3 in
    let v = p.4 in
    let qx : b / 16 ≡ p.0 = omega arith in let qy : b % 16 ≡ p.1 = omega arith in rw (qx, qy) (cc (x.1, y.1))
byte_back (h ∷ (l ∷ (x ∷ xs))) b e = cc

pub byte_forth : (b : ℕ) → b < 256 → hex_byte (hex_digit_of (b / 16) ∷ hex_digit_of (b % 16) ∷ []) ≡ Some b
byte_forth b h =
    let x : b / 16 < 16 = omega arith in
    let y : b % 16 < 16 = omega arith in
    let v : 16 * (b / 16) + b % 16 ≡ b = omega arith in rw (hex_forth (b / 16) x, hex_forth (b % 16) y) (ap Some v)
