-- A line in form, as it stands in the listing, and what the reader learns at an offset.
use Rattle.std.specs.Prelude.{◌≡◌, ℕ, ◌+◌, ◌-◌, ◌<◌, ◌≤◌, cond, List, [], ◌∷◌, length, drop, Some, None, Option}
use Rattle.std.specs.Borrow.{Bor}
use Rattle.guide.specs.declared.Defect.TheVariants.{BadLine}
use Rattle.guide.specs.declared.Event.{Event}
use Rattle.guide.specs.declared.lines.Form.{Form}
use Rattle.guide.specs.declared.lines.Form.TheVariants.{Open, Value, Close}
use Rattle.guide.specs.declared.lines.Line.{Line}
use Rattle.guide.specs.Told.{fault, finally, ◌and◌}
use Rattle.guide.specs.Listing.{is_digit, unended, ended, lines, line_event, from_lines}

-- the value of a decimal digit
abbrev pub decimal_digit : ℕ → Option ℕ
decimal_digit b = cond (is_digit b) (Some (b - 48)) None

-- the bytes of a form's line, without its ending
abbrev pub written : Form → List ℕ
written (Open digits) = 40 ∷ digits.now
written (Value digits) = 61 ∷ digits.now
written Close = 41 ∷ []

-- the line stands as the form has it; without a form it tells nothing
abbrev pub HasForm : List ℕ → Option Form → Type 0
HasForm l None = line_event l ≡ None
HasForm l (Some f) = written f ≡ l

-- the bytes up to the first byte 10, where there is one
abbrev pub FirstLine : List ℕ → Option (Bor (List ℕ)) → Type 0
FirstLine rest None = lines rest ≡ unended rest
FirstLine rest (Some l) = (length l.now < length rest) × (lines rest ≡ ended l.now (lines (drop (length l.now + 1) rest)))

-- the listing's line at an offset
abbrev pub LineAt : List ℕ → ℕ → Option Line → Type 0
LineAt bs at None = at < length bs → from_lines at (lines (drop at bs)) ≡ finally (fault BadLine at)
LineAt bs at (Some l) =
    (l.offset ≡ at) × (at + length (written l.form) < length bs)
    × (lines (drop at bs) ≡ ended (written l.form) (lines (drop (at + (length (written l.form) + 1)) bs)))

-- the event of that line, and the offset behind it
abbrev pub LineRead : List ℕ → ℕ → Option (Event × ℕ) → Type 0
LineRead bs at None = at < length bs → from_lines at (lines (drop at bs)) ≡ finally (fault BadLine at)
LineRead bs at (Some r) =
    (at < r.1) × (r.1 ≤ length bs) × (from_lines at (lines (drop at bs)) ≡ r.0 and from_lines r.1 (lines (drop r.1 bs)))
