-- A lawful table is how the grammar that it means is written, and that grammar fits.
use Rattle.std.proofs.Common.{◌≡◌, ℕ, zero, suc, ◌+◌, ◌-◌, ◌*◌, ◌/◌, ◌%◌, ◌<◌, ◌≤◌, Bool, true, false, cond, ◌&&◌, eqb, ltb, leb, List, [], ◌∷◌, ◌++◌, map, length, get_or, drop, replicate, sym, refl, ap, ◌∙◌, append-nil, arith, length-drop}
use Rattle.std.specs.List.{AllByRecursion}
use Rattle.std.proofs.ByRecursion.{All-drop, All-map}
use Rattle.std.proofs.lemmas.List.{drop_all, length-map}
use Rattle.std.proofs.lemmas.Bool.{cond_both, and_parts, eqb-true}
use Rattle.grammar.specs.Meaning.{LawfulPart}
use Rattle.grammar.specs.declared.Part.TheVariants.{Symbol, Range, Except}
use Rattle.std.specs.List.{concat}
use Rattle.packed.specs.Chunks.{length_chunks}
use Rattle.packed.specs.Format.{byte_at, listed_in, symbol_count, rule_count, rows, mark_byte, part_count, slots, padding, part_in, mark_in, rule_in}
use Rattle.std.specs.List.{list_all}
use Rattle.packed.specs.Check.{is_zero, lawful_part}
use Rattle.packed.specs.Bounds.{LawfulRow, LawfulTable, all_passed, part_lawful}
use Rattle.packed.specs.Encoding.{IsByte, mark_number, part_bytes, row_bytes, table_of, FitsPart, FitsRule, FitsTable}
use Rattle.packed.proofs.Chunked.{concat-chunks, all_chunks, chunks_whole, mapped_back, elements, elements_first}

byte_below : (xs : List ℕ) → AllByRecursion IsByte xs → (i : ℕ) → get_or xs i 0 < 256
byte_below [] a i = omega arith
byte_below (x ∷ xs) a zero = a.0
byte_below (x ∷ xs) a (suc i) = byte_below xs a.1 i

-- a pair by its two bytes
high : (a b : ℕ) → b < 256 → (a * 256 + b) / 256 ≡ a
high a b h = omega arith

low : (a b : ℕ) → b < 256 → (a * 256 + b) % 256 ≡ b
low a b h = omega arith

-- two facts of each element, made one
all_with : {X : Type 0} (P Q R : X → Type 0) → ((x : X) → P x → Q x → R x) → (xs : List X) → AllByRecursion P xs → AllByRecursion Q xs → AllByRecursion R xs
all_with P Q R f [] p q = tt
all_with P Q R f (x ∷ xs) p q = (f x p.0 q.0, all_with P Q R f xs p.1 q.1)

-- and three
all_three : {X : Type 0} (P Q R S : X → Type 0) → ((x : X) → P x → Q x → R x → S x) → (xs : List X) → AllByRecursion P xs → AllByRecursion Q xs → AllByRecursion R xs → AllByRecursion S xs
all_three P Q R S f xs p q r = all_with P (λ x. Q x × R x) S (λ x a b. f x a b.0 b.1) xs p (all_with Q R (λ x. Q x × R x) (λ x a b. (a, b)) xs q r)

-- a part by its four bytes
by_kind : (n t a b c : ℕ) (one two : Bool) → eqb t 1 ≡ one → eqb t 2 ≡ two → c < 256
    → cond one (is_zero a && ltb (b * 256 + c) n) (cond two (leb a b && is_zero c) (eqb t 3)) ≡ true
    → part_bytes (cond one (Symbol (b * 256 + c)) (cond two (Range a b) (Except a b c))) ≡ t ∷ a ∷ b ∷ c ∷ []
by_kind n t a b c true two is_one is_two small e =
    let kind = eqb-true t 1 is_one in
    let zero_is = eqb-true a 0 (and_parts (is_zero a) (ltb (b * 256 + c) n) e).0 in
    rw (kind, zero_is, high b c small, low b c small)
by_kind n t a b c false true is_one is_two small e =
    let kind = eqb-true t 2 is_two in
    let zero_is = eqb-true c 0 (and_parts (leb a b) (is_zero c) e).1 in
    rw (kind, zero_is)
by_kind n t a b c false false is_one is_two small e = let kind = eqb-true t 3 e in rw kind

part_written : (n : ℕ) (slot : List ℕ) → length slot ≡ 4 → AllByRecursion IsByte slot → lawful_part n slot ≡ true → part_bytes (part_in slot) ≡ slot
part_written n slot four bytes lawful =
    by_kind n (byte_at slot 0) (byte_at slot 1) (byte_at slot 2) (byte_at slot 3) (eqb (byte_at slot 0) 1) (eqb (byte_at slot 0) 2) refl refl (byte_below slot bytes 3) lawful
    ∙ (ap (λ end. elements 0 4 slot ++ end) (sym (drop_all 4 slot (omega arith))) ∙ elements_first 0 4 slot (omega arith))

mark_written : (m : ℕ) → m ≤ 1 → mark_number (mark_in m) ≡ m
mark_written zero h = refl
mark_written (suc zero) h = refl
mark_written (suc (suc m)) h = absurd (omega arith)

zeros_are : (xs : List ℕ) (n : ℕ) → length xs ≡ n → list_all is_zero xs ≡ true → replicate n 0 ≡ xs
zeros_are [] zero l e = refl
zeros_are [] (suc n) l e = absurd (omega arith)
zeros_are (x ∷ xs) zero l e = absurd (omega arith)
zeros_are (x ∷ xs) (suc n) l e =
    let a = and_parts (is_zero x) (list_all is_zero xs) e in
    let z = eqb-true x 0 a.0 in
    rw (z, zeros_are xs n (omega arith) a.1)

part_fits : (n : ℕ) (slot : List ℕ) → AllByRecursion IsByte slot → lawful_part n slot ≡ true → FitsPart n (part_in slot)
part_fits n slot bytes lawful =
    cond_both (eqb (byte_at slot 0) 1) _ _ (λ p. LawfulPart n p → FitsPart n p) (λ _ l. l)
    (λ _. cond_both (eqb (byte_at slot 0) 2) _ _ (λ p. LawfulPart n p → FitsPart n p)
    (λ _ l. (l, byte_below slot bytes 2))
    (λ _ _. (byte_below slot bytes 1, byte_below slot bytes 2, byte_below slot bytes 3)))
    (part_lawful n slot lawful)

module _ (n : ℕ) (row : List ℕ) (whole : length row ≡ 64) (bytes : AllByRecursion IsByte row) (h : LawfulRow n row) where
  count : length (rule_in row).parts ≡ part_count row
  count = length-map (slots row) part_in ∙ length_chunks 4 (part_count row) (drop 4 row)

  -- each slot in use has four bytes, and is lawful
  slots_bytes : AllByRecursion (AllByRecursion IsByte) (slots row)
  slots_bytes = all_chunks IsByte 4 (part_count row) (drop 4 row) (All-drop IsByte 4 row bytes)

  slots_lawful : AllByRecursion (λ s. lawful_part n s ≡ true) (slots row)
  slots_lawful = all_passed (lawful_part n) (slots row) h.each_part

  slots_whole : AllByRecursion (λ s. length s ≡ 4) (slots row)
  slots_whole =
      let behind : 4 * part_count row ≤ length (drop 4 row) = simp length-drop (omega (arith, h.few_parts)) in
      chunks_whole 4 (part_count row) (drop 4 row) behind

  parts_written : concat (map part_bytes (map part_in (slots row))) ≡ concat (slots row)
  parts_written =
      let each = all_three (λ s. length s ≡ 4) (AllByRecursion IsByte) (λ s. lawful_part n s ≡ true) (λ s. part_bytes (part_in s) ≡ s)
      (part_written n) (slots row) slots_whole slots_bytes slots_lawful in
      ap concat (mapped_back part_in part_bytes (slots row) each)

  padding_written : replicate (60 - 4 * part_count row) 0 ≡ padding row
  padding_written = zeros_are (padding row) (60 - 4 * part_count row) (simp (length-drop, length-drop) (omega (arith, h.few_parts))) h.rest_zero

  pub row_written : row_bytes (rule_in row) ≡ row
  row_written =
      let small = byte_below row bytes 1 in
      rw (high (byte_at row 0) (byte_at row 1) small, low (byte_at row 0) (byte_at row 1) small, mark_written (mark_byte row) h.mark_known, count, parts_written, padding_written)
      (ap (λ end. elements 0 4 row ++ end) (concat-chunks 4 (part_count row) (drop 4 row)) ∙ elements_first 0 4 row (omega arith))

  pub row_fits : FitsRule n (rule_in row)
  row_fits = record {
    left_below = h.left_below;
    few_parts = omega (arith, count, h.few_parts);
    each_part = All-map (FitsPart n) part_in (slots row)
        (all_with (AllByRecursion IsByte) (λ s. lawful_part n s ≡ true) (λ s. FitsPart n (part_in s)) (part_fits n) (slots row) slots_bytes slots_lawful);
  }

module _ (bs : List ℕ) (bytes : AllByRecursion IsByte bs) (h : LawfulTable bs) where
  counts_rules : length (map rule_in (rows bs)) ≡ rule_count bs
  counts_rules = length-map (rows bs) rule_in ∙ length_chunks 64 (rule_count bs) (drop 8 bs)

  rows_whole : AllByRecursion (λ row. length row ≡ 64) (rows bs)
  rows_whole =
      let behind : 64 * rule_count bs ≤ length (drop 8 bs) = simp length-drop (omega (arith, h.whole_rows)) in
      chunks_whole 64 (rule_count bs) (drop 8 bs) behind

  rows_bytes : AllByRecursion (AllByRecursion IsByte) (rows bs)
  rows_bytes = all_chunks IsByte 64 (rule_count bs) (drop 8 bs) (All-drop IsByte 8 bs bytes)

  rows_written : map row_bytes (map rule_in (rows bs)) ≡ rows bs
  rows_written =
      mapped_back rule_in row_bytes (rows bs)
      (all_three (λ row. length row ≡ 64) (AllByRecursion IsByte) (LawfulRow (symbol_count bs)) (λ row. row_bytes (rule_in row) ≡ row)
      (row_written (symbol_count bs)) (rows bs) rows_whole rows_bytes h.each_row)

  rows_fit : AllByRecursion (FitsRule (symbol_count bs)) (map rule_in (rows bs))
  rows_fit =
      All-map (FitsRule (symbol_count bs)) rule_in (rows bs)
      (all_three (λ row. length row ≡ 64) (AllByRecursion IsByte) (LawfulRow (symbol_count bs)) (λ row. FitsRule (symbol_count bs) (rule_in row))
      (row_fits (symbol_count bs)) (rows bs) rows_whole rows_bytes h.each_row)

  behind_header : concat (map row_bytes (map rule_in (rows bs))) ≡ drop 8 bs
  behind_header =
      let size : length (drop 8 bs) ≤ 64 * rule_count bs = simp length-drop (omega (arith, h.whole_rows)) in
      ap concat rows_written
      ∙ (sym (append-nil (concat (rows bs)))
      ∙ (ap (λ end. concat (rows bs) ++ end) (sym (drop_all (64 * rule_count bs) (drop 8 bs) size)) ∙ concat-chunks 64 (rule_count bs) (drop 8 bs)))

  pub table_written : table_of (listed_in bs) ≡ bs
  table_written =
      let below = byte_below bs bytes in
      let six : byte_at bs 6 ≡ 0 = omega (arith, h.last_zero) in
      let seven : byte_at bs 7 ≡ 0 = omega (arith, h.last_zero) in
      let all = elements_first 0 8 bs h.long_enough in
      rw (
        high (byte_at bs 0) (byte_at bs 1) (below 1),
        low (byte_at bs 0) (byte_at bs 1) (below 1),
        counts_rules,
        high (byte_at bs 2) (byte_at bs 3) (below 3),
        low (byte_at bs 2) (byte_at bs 3) (below 3),
        high (byte_at bs 4) (byte_at bs 5) (below 5),
        low (byte_at bs 4) (byte_at bs 5) (below 5),
        behind_header,
      )
      (rw (six, seven) at all)

  pub table_fits : FitsTable (listed_in bs)
  table_fits = record {
    some_symbol = h.some_symbol;
    few_symbols = h.few_symbols;
    start_below = h.start_below;
    few_rules = omega (arith, counts_rules, h.few_rules);
    each_rule = rows_fit;
  }
