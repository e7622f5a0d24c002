-- A grammar for tests: every rule is loose, has symbol 0 on its left, and has the same number of parts, each the byte 0.
use Rattle.std.specs.Prelude.{ℕ, zero, suc, ◌≤◌, cond, replicate, IfSome, Some, None, nat_lt}
use Rattle.std.proofs.Common.{arith}
use Rattle.std.proofs.lemmas.List.{length-replicate}
use Rattle.std.specs.List.{AllByRecursion}
use Rattle.std.proofs.lemmas.Bool.{cond_both, cond-false, le-ltb}
use Rattle.grammar.specs.Meaning.{Rule, Meaning, Bounded, LawfulPart, LawfulRule, ruled}
use Rattle.grammar.specs.declared.Mark.TheVariants.{Loose}
use Rattle.grammar.specs.declared.Part.TheVariants.{Range}

abbrev pub uniform_rule : ℕ → Rule
uniform_rule parts = ruled 0 Loose (replicate parts (Range 0 0))

abbrev pub uniform_meaning : ℕ → ℕ → ℕ → Meaning
uniform_meaning symbols rules parts = record {
  start = 0;
  symbols = symbols;
  rules = rules;
  rule = λ n. cond (nat_lt n rules) (Some (uniform_rule parts)) None;
}

all_lawful : (n parts : ℕ) → AllByRecursion (LawfulPart n) (replicate parts (Range 0 0))
all_lawful n zero = tt
all_lawful n (suc parts) = (omega arith, all_lawful n parts)

pub uniform_bounded : (symbols rules parts : ℕ) → 1 ≤ symbols → symbols ≤ 256 → rules ≤ 1024 → parts ≤ 255 → Bounded (uniform_meaning symbols rules parts)
uniform_bounded symbols rules parts some few_symbols few_rules few_parts = record {
  some_symbol = some;
  few_symbols = few_symbols;
  few_rules = few_rules;
  start_below = omega arith;
  each_rule = λ n.
      cond_both (nat_lt n rules) _ _ (λ o. IfSome o (LawfulRule symbols))
      (λ _. record {
        left_below = omega arith;
        few_parts = (let l = length-replicate parts (Range 0 0) in omega arith);
        each_part = all_lawful symbols parts;
      })
      (λ _. tt);
  none_past = λ n past. cond-false (nat_lt n rules) _ None (le-ltb n rules past);
}
