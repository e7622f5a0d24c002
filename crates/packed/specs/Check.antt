-- The check of a packed table: the first question with the answer no.
use Rattle.std.specs.Prelude.{ℕ, ◌+◌, ◌*◌, Bool, cond, not, ◌&&◌, List, [], ◌∷◌, length, is_some, Some, None, Ok, Err, Option, Result, ◌==◌, nat_le, nat_lt}
use Rattle.std.specs.Option.{option_or}
use Rattle.std.specs.List.{list_all}
use Rattle.grammar.specs.Meaning.{Meaning}
use Rattle.packed.specs.Format.{byte_at, pair_at, symbol_count, rule_count, start_symbol, last_field, rows, left_symbol, mark_byte, part_count, slots, padding, packed_meaning, empty_meaning}
use Rattle.packed.specs.declared.fault.TableFault.{TableFault}
use Rattle.packed.specs.declared.fault.TableFault.TheVariants.{Length, Header, RuleHead, RulePart, RulePadding}

-- the number and the rule that a fault is reported with
abbrev pub fault_number : TableFault → ℕ
fault_number Length = 51
fault_number Header = 52
fault_number (RuleHead rule) = 53
fault_number (RulePart rule) = 54
fault_number (RulePadding rule) = 55

abbrev pub fault_rule : TableFault → ℕ
fault_rule Length = 0
fault_rule Header = 0
fault_rule (RuleHead rule) = rule
fault_rule (RulePart rule) = rule
fault_rule (RulePadding rule) = rule

-- does each element pass?
abbrev pub every : {X : Type 0} → (X → Bool) → List X → Bool
every = list_all

abbrev pub is_zero : ℕ → Bool
is_zero b = b == 0

-- a part under a count of n symbols
abbrev pub lawful_part : ℕ → List ℕ → Bool
lawful_part n slot =
    cond (byte_at slot 0 == 1) (is_zero (byte_at slot 1) && nat_lt (pair_at slot 2) n)
    (cond (byte_at slot 0 == 2) (nat_le (byte_at slot 1) (byte_at slot 2) && is_zero (byte_at slot 3)) (byte_at slot 0 == 3))

abbrev pub lawful_head : ℕ → List ℕ → Bool
lawful_head n row = nat_lt (left_symbol row) n && (nat_le (mark_byte row) 1 && nat_le (part_count row) 15)

-- the first no about one rule
abbrev pub row_fault : ℕ → ℕ → List ℕ → Option TableFault
row_fault n rule row =
    cond (lawful_head n row)
    (cond (list_all (lawful_part n) (slots row)) (cond (list_all is_zero (padding row)) None (Some (RulePadding rule))) (Some (RulePart rule)))
    (Some (RuleHead rule))

-- the first no about the rules from this number on
abbrev pub rows_fault : ℕ → ℕ → List (List ℕ) → Option TableFault
rows_fault n rule [] = None
rows_fault n rule (row ∷ more) = option_or (row_fault n rule row) (rows_fault n (rule + 1) more)

abbrev pub lawful_length : List ℕ → Bool
lawful_length bs = nat_le 8 (length bs) && (length bs == 8 + 64 * rule_count bs && nat_le (rule_count bs) 1000)

abbrev pub lawful_header : List ℕ → Bool
lawful_header bs = nat_le 1 (symbol_count bs) && (nat_le (symbol_count bs) 256 && (nat_lt (start_symbol bs) (symbol_count bs) && is_zero (last_field bs)))

-- the first no about the whole table
abbrev pub table_fault : List ℕ → Option TableFault
table_fault bs = cond (lawful_length bs) (cond (lawful_header bs) (rows_fault (symbol_count bs) 0 (rows bs)) (Some Header)) (Some Length)

abbrev pub is_lawful : List ℕ → Bool
is_lawful bs = not (is_some (table_fault bs))

-- how a first no is answered
abbrev pub outcome : Option TableFault → Result Unit TableFault
outcome None = Ok tt
outcome (Some fault) = Err fault

-- a grammar, or the fault that there is none for, without the grammar itself
abbrev pub answered : {G : Type 0} → Result G TableFault → Result Unit TableFault
answered (Ok g) = Ok tt
answered (Err fault) = Err fault

-- a refused table opens as the empty grammar
abbrev pub opened_meaning : List ℕ → Meaning
opened_meaning bs = cond (is_lawful bs) (packed_meaning bs) empty_meaning
