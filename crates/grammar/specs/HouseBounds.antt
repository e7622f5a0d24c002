-- The house grammar keeps the bounds: one computation over its rules. (A ghost member cites it, so it stands here and not in proofs/.)
use Rattle.std.specs.Prelude.{◌≡◌, ℕ, zero, suc, Bool, true, ◌&&◌, List, [], ◌∷◌, length, IfSome, nat_le, nat_lt, refl}
use Rattle.std.proofs.Common.{arith}
use Rattle.std.specs.List.{AllByRecursion, slice_get}
use Rattle.std.proofs.lemmas.Option.{slice_get_past}
use Rattle.std.proofs.lemmas.Bool.{and_parts, ltb-true, leb-true}
use Rattle.grammar.specs.Meaning.{Rule, Bounded, LawfulPart, LawfulRule}
use Rattle.grammar.specs.House.{house_meaning, house_rules}
use Rattle.grammar.specs.declared.Part.{Part}
use Rattle.grammar.specs.declared.Part.TheVariants.{Symbol, Range, Except}

-- the bounds of a list of rules, as a test that computes
abbrev test_part : ℕ → Part → Bool
test_part n (Symbol s) = nat_lt s n
test_part n (Range low high) = nat_le low high
test_part n (Except x y z) = true

abbrev test_parts : ℕ → List Part → Bool
test_parts n [] = true
test_parts n (p ∷ ps) = test_part n p && test_parts n ps

abbrev pub test_rules : ℕ → List Rule → Bool
test_rules n [] = true
test_rules n (r ∷ rs) = (nat_lt r.left n && (nat_le (length r.parts) 255 && test_parts n r.parts)) && test_rules n rs

part_lawful : (n : ℕ) (p : Part) → test_part n p ≡ true → LawfulPart n p
part_lawful n (Symbol s) e = ltb-true s n e
part_lawful n (Range low high) e = leb-true low high e
part_lawful n (Except x y z) e = tt

parts_lawful : (n : ℕ) (ps : List Part) → test_parts n ps ≡ true → AllByRecursion (LawfulPart n) ps
parts_lawful n [] e = tt
parts_lawful n (p ∷ ps) e =
    let a = and_parts (test_part n p) (test_parts n ps) e in (part_lawful n p a.0, parts_lawful n ps a.1)

rule_lawful : (n : ℕ) (r : Rule) → (nat_lt r.left n && (nat_le (length r.parts) 255 && test_parts n r.parts)) ≡ true → LawfulRule n r
rule_lawful n r e =
    let a = and_parts (nat_lt r.left n) (nat_le (length r.parts) 255 && test_parts n r.parts) e in
    let b = and_parts (nat_le (length r.parts) 255) (test_parts n r.parts) a.1 in
    record {
      left_below = ltb-true r.left n a.0;
      few_parts = leb-true (length r.parts) 255 b.0;
      each_part = parts_lawful n r.parts b.1;
    }

-- the test is the bound at each number
pub rules_lawful : (n : ℕ) (rs : List Rule) → test_rules n rs ≡ true → (k : ℕ) → IfSome (slice_get rs k) (LawfulRule n)
rules_lawful n [] e k = tt
rules_lawful n (r ∷ rs) e zero = rule_lawful n r (and_parts _ (test_rules n rs) e).0
rules_lawful n (r ∷ rs) e (suc k) = rules_lawful n rs (and_parts _ (test_rules n rs) e).1 k

pub house_bounded : Bounded house_meaning
house_bounded = record {
  some_symbol = omega arith;
  few_symbols = omega arith;
  few_rules = omega arith;
  start_below = omega arith;
  each_rule = rules_lawful 4 house_rules refl;
  none_past = slice_get_past house_rules;
}
