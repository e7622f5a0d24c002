-- The spaced grammar: the loose rules of the grammar below allow blanks between their parts.
use Rattle.std.specs.Prelude.{ℕ, ◌+◌, ◌-◌, Bool, true, false, cond, ◌&&◌, List, [], ◌∷◌, map, length, Some, None, Option, nat_le, nat_lt}
use Rattle.std.specs.Option.{option_map}
use Rattle.std.specs.List.{slice_get}
use Rattle.grammar.specs.Meaning.{Rule, Meaning, ruled}
use Rattle.grammar.specs.declared.Mark.{Mark}
use Rattle.grammar.specs.declared.Mark.TheVariants.{Loose, Tight}
use Rattle.grammar.specs.declared.Part.{Part}
use Rattle.grammar.specs.declared.Part.TheVariants.{Symbol, Range}
use Rattle.grammar.specs.declared.spaced.Told.{Told}
use Rattle.grammar.specs.declared.spaced.Told.TheVariants.{AsBelow, Spread, Blank}

-- the bytes that are blanks: only the space
abbrev pub blank_bytes : List ℕ
blank_bytes = 32 ∷ []

-- the rules of the blank symbol w: no blank, or a blank and then w again
abbrev pub blank_rule : ℕ → ℕ → Rule
blank_rule w b = ruled w Tight (Range b b ∷ Symbol w ∷ [])

abbrev pub blank_rules : ℕ → List Rule
blank_rules w = ruled w Tight [] ∷ map (blank_rule w) blank_bytes

-- the blank symbol is the first number that the grammar below leaves over
abbrev pub blank_symbol : Meaning → ℕ
blank_symbol m = m.symbols

-- does the grammar stay within the bounds with the blank symbol and its rules? Then it has 1,022 rules or fewer, and 255 symbols or fewer
abbrev pub has_room : Meaning → Bool
has_room m = nat_le m.rules (1024 - length (blank_rules (blank_symbol m))) && nat_le m.symbols (256 - 1)

-- w between each two neighbours
abbrev pub intersperse : Part → List Part → List Part
intersperse w [] = []
intersperse w (p ∷ []) = p ∷ []
intersperse w (p ∷ q ∷ ps) = p ∷ w ∷ intersperse w (q ∷ ps)

abbrev pub is_loose : Mark → Bool
is_loose Loose = true
is_loose Tight = false

-- does the rule get blanks? A loose rule of 2 to 128 parts does
abbrev pub is_spread : Rule → Bool
is_spread r = is_loose r.mark && (nat_le 2 (length r.parts) && nat_le (length r.parts) 128)

abbrev pub spread : ℕ → Rule → Rule
spread w r = cond (is_spread r) (ruled r.left Tight (intersperse (Symbol w) r.parts)) r

abbrev pub with_blanks : Meaning → Meaning
with_blanks m = record {
  start = m.start;
  symbols = m.symbols + 1;
  rules = m.rules + length (blank_rules (blank_symbol m));
  rule = λ n. cond (nat_lt n m.rules) (option_map (spread (blank_symbol m)) (m.rule n)) (slice_get (blank_rules (blank_symbol m)) (n - m.rules));
}

-- a grammar without room stays as it is
abbrev pub spaced_meaning : Meaning → Meaning
spaced_meaning m = cond (has_room m) (with_blanks m) m

-- how many parts a rule has that gets blanks
abbrev pub spread_count : Option Rule → Option ℕ
spread_count None = None
spread_count (Some r) = cond (is_spread r) (Some (length r.parts)) None

-- how a rule number is told, as the code tells the ways apart
abbrev pub told_by : Option ℕ → Told
told_by None = AsBelow
told_by (Some count) = Spread count

abbrev pub told_at : Meaning → ℕ → Told
told_at m n = cond (has_room m) (cond (nat_lt n m.rules) (told_by (spread_count (m.rule n))) (Blank (n - m.rules))) AsBelow
