-- The packed table: the grammar that its bytes mean.
-- A header of four pairs of bytes has the count of symbols, the count of rules, the start symbol and zero. Then comes a row of 64 bytes
-- for each rule: a pair for the left symbol, a byte for the mark, a byte for the count of parts, and fifteen slots of four bytes.
-- The parts stand in the first slots.
use Rattle.std.specs.Prelude.{ℕ, ◌+◌, ◌*◌, cond, List, [], map, length, drop, ◌==◌, slice_index}
use Rattle.std.specs.List.{slice_get}
use Rattle.grammar.specs.Meaning.{Rule, Meaning, ruled}
use Rattle.grammar.specs.declared.Mark.{Mark}
use Rattle.grammar.specs.declared.Mark.TheVariants.{Loose, Tight}
use Rattle.grammar.specs.declared.Part.{Part}
use Rattle.grammar.specs.declared.Part.TheVariants.{Symbol, Range, Except}
use Rattle.std.specs.Simd.{first_chunks}

abbrev pub byte_at : List ℕ → ℕ → ℕ
byte_at bs i = slice_index bs i

-- two bytes, the higher first
abbrev pub pair_at : List ℕ → ℕ → ℕ
pair_at bs i = byte_at bs i * 256 + byte_at bs (i + 1)

-- the header
abbrev pub symbol_count : List ℕ → ℕ
symbol_count bs = pair_at bs 0

abbrev pub rule_count : List ℕ → ℕ
rule_count bs = pair_at bs 2

abbrev pub start_symbol : List ℕ → ℕ
start_symbol bs = pair_at bs 4

abbrev pub last_field : List ℕ → ℕ
last_field bs = pair_at bs 6

-- the row of each rule
abbrev pub rows : List ℕ → List (List ℕ)
rows bs = first_chunks 64 (rule_count bs) (drop 8 bs)

abbrev pub left_symbol : List ℕ → ℕ
left_symbol row = pair_at row 0

abbrev pub mark_byte : List ℕ → ℕ
mark_byte row = byte_at row 2

abbrev pub part_count : List ℕ → ℕ
part_count row = byte_at row 3

-- the slots in use, and all bytes behind them
abbrev pub slots : List ℕ → List (List ℕ)
slots row = first_chunks 4 (part_count row) (drop 4 row)

abbrev pub padding : List ℕ → List ℕ
padding row = drop (4 * part_count row) (drop 4 row)

-- kind 1 is a symbol, behind a zero; 2 a range, before a zero; 3 any byte except three
abbrev pub part_in : List ℕ → Part
part_in slot =
    cond (byte_at slot 0 == 1) (Symbol (pair_at slot 2))
    (cond (byte_at slot 0 == 2) (Range (byte_at slot 1) (byte_at slot 2)) (Except (byte_at slot 1) (byte_at slot 2) (byte_at slot 3)))

abbrev pub mark_in : ℕ → Mark
mark_in b = cond (b == 1) Loose Tight

abbrev pub rule_in : List ℕ → Rule
rule_in row = ruled (left_symbol row) (mark_in (mark_byte row)) (map part_in (slots row))

-- a grammar without gaps, by the list of its rules
pub record Listed : Type 0 where
  pub start : ℕ
  pub symbols : ℕ
  pub rules : List Rule

abbrev pub meaning_of : Listed → Meaning
meaning_of g = record { start = g.start; symbols = g.symbols; rules = length g.rules; rule = slice_get g.rules }

abbrev pub listed_in : List ℕ → Listed
listed_in bs = record { start = start_symbol bs; symbols = symbol_count bs; rules = map rule_in (rows bs) }

abbrev pub packed_meaning : List ℕ → Meaning
packed_meaning bs = meaning_of (listed_in bs)

-- what a refused table opens as
abbrev pub empty_meaning : Meaning
empty_meaning = meaning_of (record { start = 0; symbols = 1; rules = [] })
