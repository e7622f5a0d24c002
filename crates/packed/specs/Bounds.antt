-- What a lawful table keeps, and that its grammar keeps the bounds. (A ghost member cites it, so it stands here and not in proofs/.)
use Rattle.std.specs.Prelude.{◌≡◌, ℕ, zero, suc, ◌+◌, ◌*◌, ◌<◌, ◌≤◌, Bool, true, false, cond, ◌&&◌, List, [], ◌∷◌, map, length, drop, is_some, IfSome, Some, None, Option, ◌==◌, nat_le, nat_lt, refl}
use Rattle.std.proofs.Common.{sym, ap, ◌∙◌, arith}
use Rattle.std.specs.Option.{option_or}
use Rattle.std.specs.List.{AllByRecursion, list_all, slice_get}
use Rattle.std.proofs.ByRecursion.{All-map, All-weaker}
use Rattle.std.proofs.lemmas.List.{length-map}
use Rattle.std.proofs.lemmas.Option.{slice_get_past}
use Rattle.std.proofs.lemmas.Bool.{cond_both, cond-true, cond-false, ltb-true, leb-true, eqb-true, and_parts, not-true, true≢false}
use Rattle.grammar.specs.Meaning.{Rule, LawfulPart, LawfulRule, Bounded}
use Rattle.packed.specs.Chunks.{length_chunks}
use Rattle.packed.specs.Format.{byte_at, pair_at, symbol_count, rule_count, start_symbol, last_field, rows, left_symbol, mark_byte, part_count, slots, padding, part_in, rule_in, packed_meaning}
use Rattle.packed.specs.Check.{is_zero, lawful_part, lawful_head, row_fault, rows_fault, lawful_length, lawful_header, table_fault, is_lawful}
use Rattle.packed.specs.declared.fault.TableFault.{TableFault}

-- the facts behind the questions, once each is answered yes
pub record LawfulRow (n : ℕ) (row : List ℕ) : Type 0 where
  pub left_below : left_symbol row < n
  pub mark_known : mark_byte row ≤ 1
  pub few_parts : part_count row ≤ 15
  pub each_part : list_all (lawful_part n) (slots row) ≡ true
  pub rest_zero : list_all is_zero (padding row) ≡ true

pub record LawfulTable (bs : List ℕ) : Type 0 where
  pub long_enough : 8 ≤ length bs
  pub whole_rows : length bs ≡ 8 + 64 * rule_count bs
  pub few_rules : rule_count bs ≤ 1000
  pub some_symbol : 1 ≤ symbol_count bs
  pub few_symbols : symbol_count bs ≤ 256
  pub start_below : start_symbol bs < symbol_count bs
  pub last_zero : last_field bs ≡ 0
  pub each_row : AllByRecursion (LawfulRow (symbol_count bs)) (rows bs)

none_of : (o : Option TableFault) → is_some o ≡ false → o ≡ None
none_of None e = refl
none_of (Some f) e = absurd (true≢false e)

-- a question with no fault behind it was answered yes, and so were the later ones
asked : (b : Bool) (rest : Option TableFault) (f : TableFault) → cond b rest (Some f) ≡ None → (b ≡ true) × (rest ≡ None)
asked true rest f e = (refl, e)
asked false rest f e = absurd (true≢false (ap is_some e))

or_none : (a b : Option TableFault) → option_or a b ≡ None → (a ≡ None) × (b ≡ None)
or_none None b e = (refl, e)
or_none (Some f) b e = absurd (true≢false (ap is_some e))

head_facts : (n : ℕ) (row : List ℕ) → lawful_head n row ≡ true → (left_symbol row < n) × (mark_byte row ≤ 1) × (part_count row ≤ 15)
head_facts n row e =
    let a = and_parts (nat_lt (left_symbol row) n) (nat_le (mark_byte row) 1 && nat_le (part_count row) 15) e in
    let b = and_parts (nat_le (mark_byte row) 1) (nat_le (part_count row) 15) a.1 in
    (ltb-true (left_symbol row) n a.0, leb-true (mark_byte row) 1 b.0, leb-true (part_count row) 15 b.1)

pub row_facts : (n rule : ℕ) (row : List ℕ) → row_fault n rule row ≡ None → LawfulRow n row
row_facts n rule row e =
    let a = asked (lawful_head n row) _ _ e in
    let b = asked (list_all (lawful_part n) (slots row)) _ _ a.1 in
    let c = asked (list_all is_zero (padding row)) _ _ b.1 in
    let h = head_facts n row a.0 in
    record { left_below = h.0; mark_known = h.1; few_parts = h.2; each_part = b.0; rest_zero = c.0 }

rows_facts : (n rule : ℕ) (all : List (List ℕ)) → rows_fault n rule all ≡ None → AllByRecursion (LawfulRow n) all
rows_facts n rule [] e = tt
rows_facts n rule (row ∷ more) e =
    let a = or_none (row_fault n rule row) (rows_fault n (rule + 1) more) e in
    (row_facts n rule row a.0, rows_facts n (rule + 1) more a.1)

length_facts : (bs : List ℕ) → lawful_length bs ≡ true → (8 ≤ length bs) × (length bs ≡ 8 + 64 * rule_count bs) × (rule_count bs ≤ 1000)
length_facts bs e =
    let a = and_parts (nat_le 8 (length bs)) (length bs == 8 + 64 * rule_count bs && nat_le (rule_count bs) 1000) e in
    let b = and_parts (length bs == 8 + 64 * rule_count bs) (nat_le (rule_count bs) 1000) a.1 in
    (leb-true 8 (length bs) a.0, eqb-true (length bs) (8 + 64 * rule_count bs) b.0, leb-true (rule_count bs) 1000 b.1)

header_facts : (bs : List ℕ) → lawful_header bs ≡ true
    → (1 ≤ symbol_count bs) × (symbol_count bs ≤ 256) × (start_symbol bs < symbol_count bs) × (last_field bs ≡ 0)
header_facts bs e =
    let n = symbol_count bs in
    let a = and_parts (nat_le 1 n) (nat_le n 256 && (nat_lt (start_symbol bs) n && is_zero (last_field bs))) e in
    let b = and_parts (nat_le n 256) (nat_lt (start_symbol bs) n && is_zero (last_field bs)) a.1 in
    let c = and_parts (nat_lt (start_symbol bs) n) (is_zero (last_field bs)) b.1 in
    (leb-true 1 n a.0, leb-true n 256 b.0, ltb-true (start_symbol bs) n c.0, eqb-true (last_field bs) 0 c.1)

pub table_facts : (bs : List ℕ) → is_lawful bs ≡ true → LawfulTable bs
table_facts bs e =
    let a = asked (lawful_length bs) _ _ (none_of (table_fault bs) (not-true (is_some (table_fault bs)) e)) in
    let b = asked (lawful_header bs) _ _ a.1 in
    let l = length_facts bs a.0 in
    let h = header_facts bs b.0 in
    record {
      long_enough = l.0;
      whole_rows = l.1;
      few_rules = l.2;
      some_symbol = h.0;
      few_symbols = h.1;
      start_below = h.2;
      last_zero = h.3;
      each_row = rows_facts (symbol_count bs) 0 (rows bs) b.1;
    }

-- what a lawful slot of each kind shows
at_symbol : (n t a b : ℕ) (rest : Bool) → (t == 1) ≡ true → cond (t == 1) (is_zero a && nat_lt b n) rest ≡ true → b < n
at_symbol n t a b rest h e = let u = and_parts (is_zero a) (nat_lt b n) (sym (cond-true (t == 1) _ rest h) ∙ e) in ltb-true b n u.1

at_range : (t a b c : ℕ) (first rest : Bool) → (t == 1) ≡ false → (t == 2) ≡ true
    → cond (t == 1) first (cond (t == 2) (nat_le a b && is_zero c) rest) ≡ true → a ≤ b
at_range t a b c first rest h k e =
    let u = and_parts (nat_le a b) (is_zero c) (sym (cond-false (t == 1) first _ h ∙ cond-true (t == 2) _ rest k) ∙ e) in leb-true a b u.0

pub part_lawful : (n : ℕ) (slot : List ℕ) → lawful_part n slot ≡ true → LawfulPart n (part_in slot)
part_lawful n slot e =
    let t = byte_at slot 0 in
    cond_both (t == 1) _ _ (LawfulPart n)
    (λ h. at_symbol n t (byte_at slot 1) (pair_at slot 2) _ h e)
    (λ h. cond_both (t == 2) _ _ (LawfulPart n) (λ k. at_range t (byte_at slot 1) (byte_at slot 2) (byte_at slot 3) _ _ h k e) (λ _. tt))

pub all_passed : {X : Type 0} (p : X → Bool) (xs : List X) → list_all p xs ≡ true → AllByRecursion (λ x. p x ≡ true) xs
all_passed p [] e = tt
all_passed p (x ∷ xs) e = let a = and_parts (p x) (list_all p xs) e in (a.0, all_passed p xs a.1)

rule_lawful : (n : ℕ) (row : List ℕ) → LawfulRow n row → LawfulRule n (rule_in row)
rule_lawful n row h =
    let count = length-map (slots row) part_in ∙ length_chunks 4 (part_count row) (drop 4 row) in
    record {
      left_below = h.left_below;
      few_parts = omega (arith, count, h.few_parts);
      each_part =
          All-map (LawfulPart n) part_in (slots row)
          (All-weaker (λ s. lawful_part n s ≡ true) (λ s. LawfulPart n (part_in s)) (part_lawful n) (slots row) (all_passed (lawful_part n) (slots row) h.each_part));
    }

all_cases : (n : ℕ) (rs : List Rule) → AllByRecursion (LawfulRule n) rs → (k : ℕ) → IfSome (slice_get rs k) (LawfulRule n)
all_cases n [] a k = tt
all_cases n (r ∷ rs) a zero = a.0
all_cases n (r ∷ rs) a (suc k) = all_cases n rs a.1 k

pub packed_bounded : (bs : List ℕ) → is_lawful bs ≡ true → Bounded (packed_meaning bs)
packed_bounded bs e =
    let t = table_facts bs e in
    let count = length-map (rows bs) rule_in ∙ length_chunks 64 (rule_count bs) (drop 8 bs) in
    let each = All-map (LawfulRule (symbol_count bs)) rule_in (rows bs)
    (All-weaker (LawfulRow (symbol_count bs)) (λ row. LawfulRule (symbol_count bs) (rule_in row)) (rule_lawful (symbol_count bs)) (rows bs) t.each_row) in
    record {
      some_symbol = t.some_symbol;
      few_symbols = t.few_symbols;
      few_rules = omega (arith, count, t.few_rules);
      start_below = t.start_below;
      each_rule = all_cases (symbol_count bs) (map rule_in (rows bs)) each;
      none_past = slice_get_past (map rule_in (rows bs));
    }
