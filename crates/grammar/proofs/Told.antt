-- The rule of a spaced grammar, by how its number is told.
use Rattle.std.proofs.Common.{◌≡◌, ℕ, ◌+◌, ◌/◌, ◌%◌, ◌<◌, ◌≤◌, true, ltb, length, Some, None, Option, sym, refl, ap, ◌∙◌, arith}
use Rattle.std.specs.Option.{option_map}
use Rattle.std.specs.List.{slice_get}
use Rattle.std.proofs.lemmas.Bool.{cond-true, lt-ltb}
use Rattle.std.proofs.lemmas.Bool.Decides.{nat_tests}
use Rattle.grammar.specs.Meaning.{Rule, Meaning, part_of, ruled}
use Rattle.grammar.specs.Spaced.{blank_symbol, has_room, intersperse, is_spread, spread, spread_count, told_by, told_at, with_blanks, spaced_meaning}
use Rattle.grammar.specs.declared.Mark.TheVariants.{Tight}
use Rattle.grammar.specs.declared.Part.TheVariants.{Symbol}
use Rattle.grammar.proofs.Interspersed.{even_place, odd_place, odd_past}
use Rattle.grammar.specs.declared.spaced.Told.TheVariants.{Spread}

module _ (m : Meaning) (n : ℕ) (room : has_room m ≡ true) where
  pub rule_below : n < m.rules → (spaced_meaning m).rule n ≡ option_map (spread (blank_symbol m)) (m.rule n)
  rule_below l = ap (λ g. g.rule n) (cond-true (has_room m) (with_blanks m) m room) ∙ cond-true (ltb n m.rules) _ _ (lt-ltb n m.rules l)

pub spread_is : (w : ℕ) (r : Rule) → is_spread r ≡ true → spread w r ≡ ruled r.left Tight (intersperse (Symbol w) r.parts)
spread_is w r e = cond-true (is_spread r) _ r e

-- a rule that is told as spread: what it is below, and what it is told as
pub record SpreadAt (m : Meaning) (n count : ℕ) : Type 0 where
  pub below : Rule
  pub is_below : m.rule n ≡ Some below
  pub count_is : count ≡ length below.parts
  pub told_as : (spaced_meaning m).rule n ≡ Some (ruled below.left Tight (intersperse (Symbol (blank_symbol m)) below.parts))

room_of : (m : Meaning) (n count : ℕ) → Spread count ≡ told_at m n
    → (has_room m ≡ true) × (n < m.rules) × (Spread count ≡ told_by (spread_count (m.rule n)))
room_of m n count e = grind (arith, nat_tests)

spread_of : (count : ℕ) (o : Option Rule) → Spread count ≡ told_by (spread_count o)
    → (r : Rule) × (o ≡ Some r) × (is_spread r ≡ true) × (count ≡ length r.parts)
spread_of count None e = grind arith
spread_of count (Some r) e = (r, refl, grind (arith, nat_tests), grind (arith, nat_tests))

pub told_spread : (m : Meaning) (n count : ℕ) → Spread count ≡ told_at m n → SpreadAt m n count
told_spread m n count e =
    let a = room_of m n count e in
    let b = spread_of count (m.rule n) a.2 in
    record {
      below = b.0;
      is_below = b.1;
      count_is = b.3;
      told_as = rule_below m n a.0 a.1 ∙ (ap (option_map (spread m.symbols)) b.1 ∙ ap Some (spread_is m.symbols b.0 b.2));
    }

-- the i-th part of a rule that is told as spread
module _ (m : Meaning) (n count i : ℕ) (s : SpreadAt m n count) where
  told_part : part_of ((spaced_meaning m).rule n) i ≡ slice_get (intersperse (Symbol (blank_symbol m)) s.below.parts) i
  told_part = ap (λ o. part_of o i) s.told_as

  pub part_even : i % 2 ≡ 0 → part_of ((spaced_meaning m).rule n) i ≡ part_of (m.rule n) (i / 2)
  part_even h = told_part ∙ (even_place _ s.below.parts i h ∙ sym (ap (λ o. part_of o (i / 2)) s.is_below))

  pub part_odd : (i % 2 ≡ 0 → ⊥) → i / 2 + 1 < count → part_of ((spaced_meaning m).rule n) i ≡ Some (Symbol (blank_symbol m))
  part_odd h l = told_part ∙ odd_place _ s.below.parts i h (omega (arith, s.count_is))

  pub part_past : (i % 2 ≡ 0 → ⊥) → count ≤ i / 2 + 1 → part_of ((spaced_meaning m).rule n) i ≡ None
  part_past h l = told_part ∙ odd_past _ s.below.parts i h (omega (arith, s.count_is))
