-- A barred grammar keeps the bounds. (A ghost member cites it, so it stands here and not in proofs/.)
use Rattle.std.specs.Prelude.{◌≡◌, Bool, List, IfSome, None, refl}
use Rattle.std.proofs.lemmas.Bool.{cond_both}
use Rattle.grammar.specs.Meaning.{Meaning, Bounded, LawfulRule}
use Rattle.grammar.specs.Barred.{barred_meaning, is_barred}

pub barred_bounded : (flags : List Bool) (m : Meaning) → Bounded m → Bounded (barred_meaning flags m)
barred_bounded flags m b = record {
  some_symbol = b.some_symbol;
  few_symbols = b.few_symbols;
  few_rules = b.few_rules;
  start_below = b.start_below;
  each_rule = λ n.
      cond_both (is_barred flags n) None (m.rule n) (λ o. IfSome o (LawfulRule m.symbols)) (λ _. tt) (λ _. b.each_rule n);
  none_past = λ n past. cond_both (is_barred flags n) None (m.rule n) (λ o. o ≡ None) (λ _. refl) (λ _. b.none_past n past);
}
