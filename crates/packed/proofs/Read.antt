-- What was written is lawful, and is read as what it was written from.
use Rattle.std.proofs.Common.{◌≡◌, ℕ, zero, suc, ◌+◌, ◌-◌, ◌*◌, ◌/◌, ◌%◌, ◌≤◌, Bool, true, not, leb, List, [], ◌∷◌, ◌++◌, map, length, replicate, is_some, None, sym, refl, ap, ◌∙◌, append-nil, arith, length-append}
use lib.ListN.{length-replicate}
use Rattle.std.specs.Option.{option_or}
use Rattle.std.specs.List.{AllByRecursion}
use Rattle.std.proofs.ByRecursion.{All-weaker}
use Rattle.std.proofs.lemmas.Bool.{and_from, cond-true, lt-ltb, le-leb, eq-eqb}
use Rattle.grammar.specs.Meaning.{Rule}
use Rattle.grammar.specs.declared.Mark.{Mark}
use Rattle.grammar.specs.declared.Mark.TheVariants.{Loose, Tight}
use Rattle.grammar.specs.declared.Part.{Part}
use Rattle.grammar.specs.declared.Part.TheVariants.{Symbol, Range, Except}
use Rattle.std.specs.Simd.{first_chunks}
use Rattle.std.specs.List.{concat}
use Rattle.packed.specs.Format.{Listed, listed_in, symbol_count, rule_count, rows, slots, padding, part_in, mark_in, rule_in}
use Rattle.std.specs.List.{list_all}
use Rattle.packed.specs.Check.{is_zero, lawful_part, lawful_head, lawful_length, lawful_header, row_fault, rows_fault, is_lawful}
use Rattle.packed.specs.Encoding.{mark_number, part_bytes, row_bytes, table_of, FitsPart, FitsRule, FitsTable}
use Rattle.packed.proofs.Chunked.{chunks-concat, drop-concat, length-concat, mapped_back}

pair_read : (n : ℕ) → n / 256 * 256 + n % 256 ≡ n
pair_read n = omega arith

part_long : (p : Part) → length (part_bytes p) ≡ 4
part_long (Symbol s) = refl
part_long (Range low high) = refl
part_long (Except x y z) = refl

part_read : (p : Part) → part_in (part_bytes p) ≡ p
part_read (Symbol s) = ap Symbol (pair_read s)
part_read (Range low high) = refl
part_read (Except x y z) = refl

part_passes : (n : ℕ) (p : Part) → FitsPart n p → lawful_part n (part_bytes p) ≡ true
part_passes n (Symbol s) h = lt-ltb (s / 256 * 256 + s % 256) n (omega arith)
part_passes n (Range low high) h = and_from (leb low high) true (le-leb low high h.0) refl
part_passes n (Except x y z) h = refl

pub all_of : {X : Type 0} (P : X → Type 0) → ((x : X) → P x) → (xs : List X) → AllByRecursion P xs
all_of P h [] = tt
all_of P h (x ∷ xs) = (h x, all_of P h xs)

every_map : {X Y : Type 0} (p : Y → Bool) (f : X → Y) (xs : List X) → AllByRecursion (λ x. p (f x) ≡ true) xs → list_all p (map f xs) ≡ true
every_map p f [] a = refl
every_map p f (x ∷ xs) a = and_from (p (f x)) (list_all p (map f xs)) a.0 (every_map p f xs a.1)

zeros_pass : (n : ℕ) → list_all is_zero (replicate n 0) ≡ true
zeros_pass zero = refl
zeros_pass (suc n) = zeros_pass n

mark_read : (k : Mark) → mark_in (mark_number k) ≡ k
mark_read Loose = refl
mark_read Tight = refl

mark_known : (k : Mark) → mark_number k ≤ 1
mark_known Loose = omega arith
mark_known Tight = omega arith

all_long : (ps : List Part) → AllByRecursion (λ p. length (part_bytes p) ≡ 4) ps
all_long = all_of (λ p. length (part_bytes p) ≡ 4) part_long

row_slots : (r : Rule) → slots (row_bytes r) ≡ map part_bytes r.parts
row_slots r = chunks-concat 4 part_bytes r.parts _ (all_long r.parts)

row_padding : (r : Rule) → padding (row_bytes r) ≡ replicate (60 - 4 * length r.parts) 0
row_padding r = drop-concat 4 part_bytes r.parts _ (all_long r.parts)

row_long : (r : Rule) → length r.parts ≤ 15 → length (row_bytes r) ≡ 64
row_long r few =
    let parts : List ℕ = concat (map part_bytes r.parts) in
    let rest : List ℕ = replicate (60 - 4 * length r.parts) 0 in
    let a : length (parts ++ rest) ≡ length parts + length rest = length-append parts rest in
    let b : length parts ≡ 4 * length r.parts = length-concat 4 part_bytes r.parts (all_long r.parts) in
    let c : length rest ≡ 60 - 4 * length r.parts = length-replicate (60 - 4 * length r.parts) 0 in
    omega arith

pub rule_read : (r : Rule) → rule_in (row_bytes r) ≡ r
rule_read r =
    let parts = ap (map part_in) (row_slots r) ∙ mapped_back part_bytes part_in r.parts (all_of _ part_read r.parts) in
    rw (pair_read r.left, mark_read r.mark, parts)

row_passes : (n rule : ℕ) (r : Rule) → FitsRule n r → row_fault n rule (row_bytes r) ≡ None
row_passes n rule r h =
    let left = lt-ltb (r.left / 256 * 256 + r.left % 256) n (omega (arith, h.left_below)) in
    let known = le-leb (mark_number r.mark) 1 (mark_known r.mark) in
    let few = le-leb (length r.parts) 15 h.few_parts in
    let head = and_from _ _ left (and_from _ _ known few) in
    let parts = ap (list_all (lawful_part n)) (row_slots r)
    ∙ every_map (lawful_part n) part_bytes r.parts (All-weaker (FitsPart n) _ (part_passes n) r.parts h.each_part) in
    let rest = ap (list_all is_zero) (row_padding r) ∙ zeros_pass (60 - 4 * length r.parts) in
    cond-true (lawful_head n (row_bytes r)) _ _ head ∙ (cond-true (list_all (lawful_part n) (slots (row_bytes r))) _ _ parts ∙ cond-true (list_all is_zero (padding (row_bytes r))) _ _ rest)

rows_pass : (n rule : ℕ) (rs : List Rule) → AllByRecursion (FitsRule n) rs → rows_fault n rule (map row_bytes rs) ≡ None
rows_pass n rule [] a = refl
rows_pass n rule (r ∷ rs) a = ap (λ o. option_or o (rows_fault n (rule + 1) (map row_bytes rs))) (row_passes n rule r a.0) ∙ rows_pass n (rule + 1) rs a.1

module _ (g : Listed) (h : FitsTable g) where
  rows_have_64 : AllByRecursion (λ r. length (row_bytes r) ≡ 64) g.rules
  rows_have_64 = All-weaker (FitsRule g.symbols) _ (λ r f. row_long r f.few_parts) g.rules h.each_rule

  table_rows : rows (table_of g) ≡ map row_bytes g.rules
  table_rows =
      let all = concat (map row_bytes g.rules) in
      ap (λ n. first_chunks 64 n all) (pair_read (length g.rules))
      ∙ (ap (first_chunks 64 (length g.rules)) (sym (append-nil all)) ∙ chunks-concat 64 row_bytes g.rules [] rows_have_64)

  pub table_read : listed_in (table_of g) ≡ g
  table_read =
      let read = ap (map rule_in) table_rows ∙ mapped_back row_bytes rule_in g.rules (all_of _ rule_read g.rules) in
      rw (pair_read g.symbols, pair_read g.start, read)

  long_pass : lawful_length (table_of g) ≡ true
  long_pass =
      let size = length-concat 64 row_bytes g.rules rows_have_64 in
      and_from _ _ (le-leb 8 (length (table_of g)) (omega arith))
      (and_from _ _ (eq-eqb (length (table_of g)) (8 + 64 * rule_count (table_of g)) (omega arith)) (le-leb (rule_count (table_of g)) 1000 (omega (arith, h.few_rules))))

  header_pass : lawful_header (table_of g) ≡ true
  header_pass =
      let n = pair_read g.symbols in
      and_from _ _ (le-leb 1 (symbol_count (table_of g)) (omega (arith, h.some_symbol)))
      (and_from _ _ (le-leb (symbol_count (table_of g)) 256 (omega (arith, h.few_symbols)))
      (and_from _ _ (lt-ltb (g.start / 256 * 256 + g.start % 256) (symbol_count (table_of g)) (omega (arith, h.start_below))) refl))

  pub table_passes : is_lawful (table_of g) ≡ true
  table_passes =
      let each = ap (λ n. rows_fault n 0 (rows (table_of g))) (pair_read g.symbols)
      ∙ (ap (rows_fault g.symbols 0) table_rows ∙ rows_pass g.symbols 0 g.rules h.each_rule) in
      ap (λ o. not (is_some o)) (cond-true (lawful_length (table_of g)) _ _ long_pass ∙ (cond-true (lawful_header (table_of g)) _ _ header_pass ∙ each))
