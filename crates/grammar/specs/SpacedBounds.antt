-- A spaced grammar keeps the bounds. (A ghost member cites it, so it stands here and not in proofs/.)
use Rattle.std.specs.Prelude.{◌≡◌, ℕ, zero, suc, ◌+◌, ◌-◌, ◌≤◌, true, ◌&&◌, List, [], ◌∷◌, map, length, IfSome, Some, None, Option, nat_le, nat_lt, refl}
use Rattle.std.proofs.Common.{arith}
use Rattle.std.specs.Option.{option_map}
use Rattle.std.specs.List.{AllByRecursion, slice_get}
use Rattle.std.proofs.ByRecursion.{All-weaker}
use Rattle.std.proofs.lemmas.Option.{slice_get_past}
use Rattle.std.proofs.lemmas.Bool.{cond_both, and_parts, leb-true, ltb-true}
use Rattle.grammar.specs.Meaning.{Rule, Meaning, LawfulPart, LawfulRule, Bounded}
use Rattle.grammar.specs.Spaced.{blank_bytes, blank_rule, blank_rules, has_room, intersperse, is_loose, is_spread, spread, with_blanks, spaced_meaning}
use Rattle.grammar.specs.declared.Part.{Part}
use Rattle.grammar.specs.declared.Part.TheVariants.{Symbol, Range, Except}

pub length_intersperse : (w : Part) (ps : List Part) → length (intersperse w ps) ≡ length ps - 1 + length ps
length_intersperse w [] = refl
length_intersperse w (p ∷ []) = refl
length_intersperse w (p ∷ q ∷ ps) = let h = length_intersperse w (q ∷ ps) in omega arith

all_intersperse : (P : Part → Type 0) (w : Part) (ps : List Part) → P w → AllByRecursion P ps → AllByRecursion P (intersperse w ps)
all_intersperse P w [] h a = tt
all_intersperse P w (p ∷ []) h a = a
all_intersperse P w (p ∷ q ∷ ps) h a = (a.0, (h, all_intersperse P w (q ∷ ps) h a.1))

-- what is lawful stays lawful with one symbol more
part_wider : (n : ℕ) (p : Part) → LawfulPart n p → LawfulPart (n + 1) p
part_wider n (Symbol s) h = omega arith
part_wider n (Range low high) h = h
part_wider n (Except x y z) h = h

rule_wider : (n : ℕ) (r : Rule) → LawfulRule n r → LawfulRule (n + 1) r
rule_wider n r h = record {
  left_below = omega (arith, h.left_below);
  few_parts = h.few_parts;
  each_part = All-weaker (LawfulPart n) (LawfulPart (n + 1)) (part_wider n) r.parts h.each_part;
}

-- at most 128 parts become at most 255
pub spread_few : (r : Rule) → is_spread r ≡ true → length r.parts ≤ 128
spread_few r e =
    let a = and_parts (is_loose r.mark) (nat_le 2 (length r.parts) && nat_le (length r.parts) 128) e in
    let b = and_parts (nat_le 2 (length r.parts)) (nat_le (length r.parts) 128) a.1 in
    leb-true (length r.parts) 128 b.1

spread_lawful : (w : ℕ) (r : Rule) → LawfulRule w r → LawfulRule (w + 1) (spread w r)
spread_lawful w r h =
    cond_both (is_spread r) _ r (LawfulRule (w + 1))
    (λ e. record {
      left_below = omega (arith, h.left_below);
      few_parts = (let few = spread_few r e in rw (length_intersperse (Symbol w) r.parts) (omega arith));
      each_part = all_intersperse (LawfulPart (w + 1)) (Symbol w) r.parts (omega arith) (rule_wider w r h).each_part;
    })
    (λ _. rule_wider w r h)

below_lawful : (w : ℕ) (o : Option Rule) → IfSome o (LawfulRule w) → IfSome (option_map (spread w) o) (LawfulRule (w + 1))
below_lawful w None h = tt
below_lawful w (Some r) h = spread_lawful w r h

bytes_lawful : (w : ℕ) (bs : List ℕ) (n : ℕ) → IfSome (slice_get (map (blank_rule w) bs) n) (LawfulRule (w + 1))
bytes_lawful w [] n = tt
bytes_lawful w (b ∷ bs) zero = record { left_below = omega arith; few_parts = omega arith; each_part = (omega arith, (omega arith, tt)) }
bytes_lawful w (b ∷ bs) (suc n) = bytes_lawful w bs n

blank_lawful : (w n : ℕ) → IfSome (slice_get (blank_rules w) n) (LawfulRule (w + 1))
blank_lawful w zero = record { left_below = omega arith; few_parts = omega arith; each_part = tt }
blank_lawful w (suc n) = bytes_lawful w blank_bytes n

module _ (m : Meaning) (b : Bounded m) (room : has_room m ≡ true) where
  room_parts : (m.rules ≤ 1024 - length (blank_rules 0)) × (m.symbols ≤ 255)
  room_parts =
      let a = and_parts (nat_le m.rules (1024 - length (blank_rules 0))) (nat_le m.symbols 255) room in
      (leb-true m.rules _ a.0, leb-true m.symbols 255 a.1)

  wider_bounded : Bounded (with_blanks m)
  wider_bounded = record {
    some_symbol = omega arith;
    few_symbols = omega (arith, room_parts.1);
    few_rules = omega (arith, room_parts.0);
    start_below = omega (arith, b.start_below);
    each_rule = λ n.
        cond_both (nat_lt n m.rules) _ _ (λ o. IfSome o (LawfulRule (m.symbols + 1)))
        (λ _. below_lawful m.symbols (m.rule n) (b.each_rule n))
        (λ _. blank_lawful m.symbols (n - m.rules));
    none_past = λ n past.
        cond_both (nat_lt n m.rules) _ _ (λ o. o ≡ None)
        (λ t. let below = ltb-true n m.rules t in absurd (omega arith))
        (λ _. slice_get_past (blank_rules m.symbols) (n - m.rules) (omega arith));
  }

pub spaced_bounded : (m : Meaning) → Bounded m → Bounded (spaced_meaning m)
spaced_bounded m b = cond_both (has_room m) (with_blanks m) m Bounded (wider_bounded m b) (λ _. b)
