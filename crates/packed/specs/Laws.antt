-- Laws of the packed table: the lawful tables are the encodings of the grammars that fit, one table for each grammar.
use Rattle.std.specs.Prelude.{◌≡◌, ℕ, true, List}
use Rattle.std.specs.List.{AllByRecursion}
use Rattle.grammar.specs.Meaning.{Meaning}
use Rattle.packed.specs.Format.{Listed, meaning_of, packed_meaning}
use Rattle.packed.specs.Check.{is_lawful}
use Rattle.packed.specs.Encoding.{IsByte, table_of, FitsTable}

-- bs is how some grammar that fits is written
abbrev pub IsEncoding : List ℕ → Type 0
IsEncoding bs = (g : Listed) × (FitsTable g × (table_of g ≡ bs))

pub record LawfulJustThen (bs : List ℕ) : Type 0 where
  pub encodes : is_lawful bs ≡ true → IsEncoding bs
  pub passes : IsEncoding bs → is_lawful bs ≡ true

abbrev pub LawfulTablesAreTheEncodings : Type 0
LawfulTablesAreTheEncodings = (bs : List ℕ) → AllByRecursion IsByte bs → LawfulJustThen bs

abbrev pub EncodingsMeanTheirGrammar : Type 0
EncodingsMeanTheirGrammar = (g : Listed) → FitsTable g → packed_meaning (table_of g) ≡ meaning_of g

-- the two grammars answer every question alike
pub record SameAnswers (a b : Meaning) : Type 0 where
  pub start_same : a.start ≡ b.start
  pub symbols_same : a.symbols ≡ b.symbols
  pub rules_same : a.rules ≡ b.rules
  pub rule_same : (n : ℕ) → a.rule n ≡ b.rule n

-- the format has no slack
abbrev pub OneTableForAGrammar : Type 0
OneTableForAGrammar =
    (bs cs : List ℕ) → AllByRecursion IsByte bs → AllByRecursion IsByte cs → is_lawful bs ≡ true → is_lawful cs ≡ true
    → SameAnswers (packed_meaning bs) (packed_meaning cs) → bs ≡ cs
