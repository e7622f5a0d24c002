-- The bytes at which a refusal points.
use Rattle.std.specs.Prelude.{◌≡◌, ℕ, ◌-◌, min, List, [], ◌++◌, length, take, drop, Some, None, Option}
use Rattle.tree.specs.declared.verdict.Reason.{Reason as CheckReason}
use Rattle.tree.specs.declared.verdict.Reason.TheVariants.{GuideFault, TooManyEvents, NotAwaited, NoSuchRule, OtherSymbol, TooDeep, ByteNotAllowed, ByteNotNext, TextLeft}
use Rattle.cues.specs.declared.answers.Refusal.{Refusal}
use Rattle.cues.specs.declared.answers.Refusal.TheVariants.{Memory, Check}
use Rattle.report.specs.declared.spot.Place.{Place}
use Rattle.report.specs.declared.spot.Place.TheVariants.{InText, InGuide}

-- a fault of the guide points at its place; a byte that is not allowed or not next, and text that is left, at the text behind the bytes used
abbrev pub check_place : CheckReason → ℕ → Option Place
check_place (GuideFault fault) bytes = Some (InGuide fault.place)
check_place TooManyEvents bytes = None
check_place NotAwaited bytes = None
check_place NoSuchRule bytes = None
check_place OtherSymbol bytes = None
check_place TooDeep bytes = None
check_place ByteNotAllowed bytes = Some (InText bytes)
check_place ByteNotNext bytes = Some (InText bytes)
check_place TextLeft bytes = Some (InText bytes)

-- where a refusal points
abbrev pub points_at : Refusal → Option Place
points_at (Memory why) = None
points_at (Check f) = check_place f.reason f.bytes

-- how many bytes are handed out
abbrev pub spot_length : ℕ
spot_length = 16

-- the part of the text or of the guide's bytes at which a refusal points; where it points nowhere, no bytes
abbrev pub spotted : Option Place → List ℕ → List ℕ → List ℕ
spotted (Some (InText at)) text guide = take spot_length (drop at text)
spotted (Some (InGuide at)) text guide = take spot_length (drop at guide)
spotted None text guide = []

-- The part stands in `all` at an offset and has 16 bytes, or as many as there are. An offset past the end counts as the end.
pub record PartAt (all : List ℕ) (at : ℕ) (part : List ℕ) : Type 0 where
  pub before : List ℕ
  pub behind : List ℕ
  pub whole : before ++ (part ++ behind) ≡ all
  pub offset : length before ≡ min at (length all)
  pub long : length part ≡ min spot_length (length all - at)

-- the part stands where the refusal points
abbrev pub StandsAt : Option Place → List ℕ → List ℕ → List ℕ → Type 0
StandsAt (Some (InText at)) text guide part = PartAt text at part
StandsAt (Some (InGuide at)) text guide part = PartAt guide at part
StandsAt None text guide part = part ≡ []
