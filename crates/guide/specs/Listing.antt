-- The listing: which events and finish any bytes mean.
use Rattle.std.specs.Prelude.{ℕ, ◌+◌, ◌-◌, ◌*◌, Bool, cond, ◌&&◌, List, [], ◌∷◌, length, drop, Some, None, Option, ◌==◌, nat_le}
use Rattle.guide.specs.declared.Defect.TheVariants.{ListingTooLong, BadLine}
use Rattle.guide.specs.declared.Event.{Event}
use Rattle.guide.specs.declared.Event.TheVariants.{Enter, Byte, Leave}
use Rattle.guide.specs.Told.{End, fault, Told, finally, ◌and◌}

-- byte 10 ends each line: the ended lines in order, and the bytes behind the last ending
pub data Lines : Type 0 where
  unended : List ℕ → Lines
  ended : List ℕ → Lines → Lines

-- the byte b in front of the first line
abbrev pub longer : ℕ → Lines → Lines
longer b (unended l) = unended (b ∷ l)
longer b (ended l ls) = ended (b ∷ l) ls

abbrev pub lines : List ℕ → Lines
lines [] = unended []
lines (b ∷ bs) = cond (b == 10) (ended [] (lines bs)) (longer b (lines bs))

-- a decimal digit: "0" is 48 and "9" is 57
abbrev pub is_digit : ℕ → Bool
is_digit b = nat_le 48 b && nat_le b 57

-- the number that decimal digits write behind the number n, or None where one is no digit
abbrev pub decimal : ℕ → List ℕ → Option ℕ
decimal n [] = Some n
decimal n (d ∷ ds) = cond (is_digit d) (decimal (10 * n + (d - 48)) ds) None

-- a rule number: up to 4 digits, the first no zero unless it stands alone
abbrev pub rule_number : List ℕ → Option ℕ
rule_number [] = None
rule_number (d ∷ []) = decimal 0 (d ∷ [])
rule_number (d ∷ (e ∷ ds)) = cond (d == 48) None (cond (nat_le (length ds) 2) (decimal 0 (d ∷ (e ∷ ds))) None)

-- a lower-case hexadecimal digit: "a" is 97 and "f" is 102
abbrev pub hex_digit : ℕ → Option ℕ
hex_digit b = cond (is_digit b) (Some (b - 48)) (cond (nat_le 97 b && nat_le b 102) (Some (b - 97 + 10)) None)

abbrev pub hex_pair : Option ℕ → Option ℕ → Option ℕ
hex_pair None low = None
hex_pair (Some h) None = None
hex_pair (Some h) (Some l) = Some (16 * h + l)

-- a byte in two such digits
abbrev pub hex_byte : List ℕ → Option ℕ
hex_byte [] = None
hex_byte (h ∷ []) = None
hex_byte (h ∷ (l ∷ [])) = hex_pair (hex_digit h) (hex_digit l)
hex_byte (h ∷ (l ∷ (x ∷ xs))) = None

abbrev pub enters : Option ℕ → Option Event
enters None = None
enters (Some r) = Some (Enter r)

abbrev pub reads : Option ℕ → Option Event
reads None = None
reads (Some b) = Some (Byte b)

abbrev pub leaves : List ℕ → Option Event
leaves [] = Some Leave
leaves (x ∷ xs) = None

-- the event that a line tells: "(" (40) and a rule number, "=" (61) and a byte, or ")" (41) alone
abbrev pub line_event : List ℕ → Option Event
line_event [] = None
line_event (b ∷ ds) =
    cond (b == 40) (enters (rule_number ds)) (cond (b == 61) (reads (hex_byte ds)) (cond (b == 41) (leaves ds) None))

-- the line at the offset `at` tells an event, and g comes behind it; or it is none of the three
abbrev pub telling : Option Event → ℕ → Told → Told
telling None at g = finally (fault BadLine at)
telling (Some e) at g = e and g

-- what the lines tell, where the first begins at the offset `at`
abbrev pub from_lines : ℕ → Lines → Told
from_lines at (unended []) = finally End
from_lines at (unended (b ∷ l)) = finally (fault BadLine at)
from_lines at (ended l ls) = telling (line_event l) at (from_lines (at + (length l + 1)) ls)

-- what the listing bs tells from the offset `at` on
abbrev pub listing_from : List ℕ → ℕ → Told
listing_from bs at = cond (nat_le (length bs) 64000) (from_lines at (lines (drop at bs))) (finally (fault ListingTooLong 0))

-- what a listing tells
abbrev pub listing : List ℕ → Told
listing bs = listing_from bs 0
