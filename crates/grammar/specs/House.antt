-- The house grammar. Its symbols: 0 Cue (the start), 1 Set, 2 Num, 3 Rest.
use Rattle.std.specs.Prelude.{List, [], ◌∷◌}
use Rattle.std.specs.List.{slice_get}
use Rattle.grammar.specs.Meaning.{Rule, Meaning, ruled}
use Rattle.grammar.specs.declared.Mark.TheVariants.{Loose, Tight}
use Rattle.grammar.specs.declared.Part.TheVariants.{Symbol, Range, Except}

-- the bytes: 59 is ;   64 is @   48 to 57 are the digits   35 is #
abbrev pub house_rules : List Rule
house_rules =
    ruled 0 Loose (Symbol 1 ∷ [])
    ∷ ruled 0 Loose (Symbol 1 ∷ Range 59 59 ∷ Symbol 0 ∷ [])
    ∷ ruled 1 Loose (Symbol 2 ∷ Range 64 64 ∷ Symbol 2 ∷ [])
    ∷ ruled 2 Tight (Range 48 57 ∷ [])
    ∷ ruled 2 Tight (Range 48 57 ∷ Symbol 2 ∷ [])
    ∷ ruled 0 Tight (Range 35 35 ∷ Symbol 3 ∷ [])
    ∷ ruled 3 Tight []
    ∷ ruled 3 Tight (Except 10 13 13 ∷ Symbol 3 ∷ [])
    ∷ []

abbrev pub house_meaning : Meaning
house_meaning = record { start = 0; symbols = 4; rules = 8; rule = slice_get house_rules }
