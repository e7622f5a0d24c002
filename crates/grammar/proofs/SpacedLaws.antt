-- The laws of the spaced grammar.
use Rattle.std.proofs.Common.{◌≡◌, ℕ, Bool, true, false, not, IfSome, Some, None, Option, sym, refl, ap, ◌∙◌, subst, ⊎_elim, arith}
use Rattle.std.specs.Option.{option_map}
use Rattle.std.proofs.lemmas.Bool.{cond_both, cond-false, eq-eqb, cases_lt}
use Rattle.std.proofs.lemmas.Bool.Decides.{nat_tests}
use Rattle.grammar.specs.Meaning.{Rule, Meaning, LawfulRule, left_of, ruled}
use Rattle.grammar.specs.Spaced.{has_room, intersperse, is_loose, is_spread, spread, spaced_meaning, with_blanks}
use Rattle.grammar.specs.SpacedBounds.{spaced_bounded}
use Rattle.grammar.specs.SpacedLaws.{GetsBlanks, BlanksOnlyBetweenParts, WithoutBlanksAsBelow, OthersAsBelow, BlankRulesComeLast, is_symbol, parts_without, parts_of}
use Rattle.grammar.specs.declared.Mark.{Mark}
use Rattle.grammar.specs.declared.Mark.TheVariants.{Loose, Tight}
use Rattle.grammar.specs.declared.Part.TheVariants.{Symbol}
use Rattle.grammar.proofs.Interspersed.{only_between, kept_interspersed, kept_lower}
use Rattle.grammar.proofs.Told.{rule_below, spread_is}

loose_is : (k : Mark) → k ≡ Loose → is_loose k ≡ true
loose_is k e = ap is_loose e

loose_marks : (k : Mark) → is_loose k ≡ true → k ≡ Loose
loose_marks Loose e = refl
loose_marks Tight e = let z : ◌≡◌ {A = ℕ} 0 1 = cc in absurd (omega arith)

gets_spread : (r : Rule) → GetsBlanks r → is_spread r ≡ true
gets_spread r h = let loose = loose_is r.mark h.0 in grind (arith, nat_tests)

spread_gets : (r : Rule) → is_spread r ≡ true → GetsBlanks r
spread_gets r e =
    let loose : is_loose r.mark ≡ true = grind (arith, nat_tests) in
    (loose_marks r.mark loose, grind (arith, nat_tests), grind (arith, nat_tests))

pub blanks_only_between_parts : BlanksOnlyBetweenParts
blanks_only_between_parts m n r room l is h = (
  ruled r.left Tight (intersperse (Symbol m.symbols) r.parts),
  rule_below m n room l ∙ (ap (option_map (spread m.symbols)) is ∙ ap Some (spread_is m.symbols r (gets_spread r h))),
  record { left_kept = refl; is_tight = refl; blanks = only_between (Symbol m.symbols) r.parts (omega (arith, h.1)) },
)

without_spread : (w : ℕ) (o : Option Rule) → IfSome o (LawfulRule w) → parts_without w (option_map (spread w) o) ≡ parts_of o
without_spread w None h = refl
without_spread w (Some r) h =
    let all = kept_lower w r.parts h.each_part in
    let blank : not (is_symbol w (Symbol w)) ≡ false = ap not (eq-eqb w w refl) in
    cond_both (is_spread r) (ruled r.left Tight (intersperse (Symbol w) r.parts)) r (λ s. parts_without w (Some s) ≡ r.parts)
    (λ _. kept_interspersed (λ p. not (is_symbol w p)) (Symbol w) blank r.parts ∙ all)
    (λ _. all)

pub without_blanks_as_below : WithoutBlanksAsBelow
without_blanks_as_below m n b room l =
    ap (parts_without m.symbols) (rule_below m n room l) ∙ without_spread m.symbols (m.rule n) (b.each_rule n)

kept_whole : (w : ℕ) (r : Rule) → (GetsBlanks r → ⊥) → spread w r ≡ r
kept_whole w r kept =
    cond_both (is_spread r) (ruled r.left Tight (intersperse (Symbol w) r.parts)) r (λ s. s ≡ r) (λ e. absurd (kept (spread_gets r e))) (λ _. refl)

-- with room or without it
either_way : (m : Meaning) (P : Meaning → Type 0) → (has_room m ≡ true → P (spaced_meaning m)) → P m → P (spaced_meaning m)
either_way m P room none =
    by (has_room m) refl
  where
    by : (b : Bool) → has_room m ≡ b → P (spaced_meaning m)
    by true e = room e
    by false e = subst P (sym (cond-false (has_room m) (with_blanks m) m e)) none

pub others_as_below : OthersAsBelow
others_as_below m = record {
  start_kept = cond_both (has_room m) (with_blanks m) m (λ g. g.start ≡ m.start) (λ _. refl) (λ _. refl);
  gap_kept = λ n l gap.
      either_way m (λ g. g.rule n ≡ None) (λ room. rule_below m n room l ∙ ap (option_map (spread m.symbols)) gap) gap;
  rule_kept = λ n r l is kept.
      either_way m (λ g. g.rule n ≡ Some r)
      (λ room. rule_below m n room l ∙ (ap (option_map (spread m.symbols)) is ∙ ap Some (kept_whole m.symbols r kept))) is;
  large_kept = λ none. cond-false (has_room m) (with_blanks m) m none;
}

left_below : (w : ℕ) (o : Option Rule) → IfSome o (LawfulRule w) → left_of (option_map (spread w) o) ≡ Some w → ⊥
left_below w None h e = let z : ◌≡◌ {A = ℕ} 0 1 = cc in omega arith
left_below w (Some r) h e =
    cond_both (is_spread r) (ruled r.left Tight (intersperse (Symbol w) r.parts)) r (λ s. left_of (Some s) ≡ Some w → ⊥)
    (λ _ q. let same : r.left ≡ w = cc in omega (arith, h.left_below))
    (λ _ q. let same : r.left ≡ w = cc in omega (arith, h.left_below))
    e

pub blank_rules_come_last : BlankRulesComeLast
blank_rules_come_last m n b room e = (
  ⊎_elim
      (λ l. absurd (left_below m.symbols (m.rule n) (b.each_rule n) (sym (ap left_of (rule_below m n room l)) ∙ e)))
      (λ l. l)
      (cases_lt n m.rules),
  ⊎_elim
      (λ l. l)
      (λ l. absurd (let past = (spaced_bounded m b).none_past n l in let z : ◌≡◌ {A = ℕ} 0 1 = cc (ap left_of past) in omega arith))
      (cases_lt n (spaced_meaning m).rules),
)
