-- What a guide means: the events still to come, in order, and then how it finishes.
use Rattle.std.specs.Prelude.{ℕ, zero, suc, ◌<◌, ◌≤◌, List, [], ◌∷◌, Some, None, Option, Ok, Err, Result}
use Rattle.guide.specs.declared.Defect.{Defect}
use Rattle.guide.specs.declared.Defect.TheVariants.{ListingTooLong, BadLine, TableLength, BadRecord, BadLink, TooManyOpen, RecordsUnread}
use Rattle.guide.specs.declared.Event.{Event}
use Rattle.guide.specs.declared.Event.TheVariants.{Enter, Byte, Leave}
use Rattle.guide.specs.declared.Fault.{Fault}

-- how a guide finishes: by the end, or by a fault
pub data Finish : Type 0 where
  End : Finish
  Broken : Fault → Finish

-- a defect at a place in the guide's bytes
abbrev pub defect_at : Defect → ℕ → Fault
defect_at d place = record { defect = d; place = place }

abbrev pub fault : Defect → ℕ → Finish
fault d place = Broken (defect_at d place)

-- the finish, or an event and what is told behind it
infixr 60 ◌and◌
pub data Told : Type 0 where
  finally : Finish → Told
  ◌and◌ : Event → Told → Told

-- the events, and then what g tells
abbrev pub ahead : List Event → Told → Told
ahead [] g = g
ahead (e ∷ es) g = e and ahead es g

-- the events, and then the finish
abbrev pub tells : List Event → Finish → Told
tells es f = ahead es (finally f)

-- the next answer
abbrev pub answer : Told → Result (Option Event) Fault
answer (finally End) = Ok None
answer (finally (Broken f)) = Err f
answer (e and g) = Ok (Some e)

-- what is to come behind the next answer: at the finish always that finish
abbrev pub behind : Told → Told
behind (finally f) = finally f
behind (e and g) = g

-- what is to come behind n answers
abbrev pub after : ℕ → Told → Told
after zero g = g
after (suc n) g = after n (behind g)

-- a rule number is at most 9,999, and a byte is a byte
abbrev pub EventInRange : Event → Type 0
EventInRange (Enter r) = r ≤ 9999
EventInRange (Byte b) = b < 256
EventInRange Leave = Unit {0}

abbrev pub InRange : Told → Type 0
InRange (finally f) = Unit {0}
InRange (e and g) = EventInRange e × InRange g

-- the number under which each defect of a guide is reported
abbrev pub defect_number : Defect → ℕ
defect_number ListingTooLong = 31
defect_number BadLine = 32
defect_number TableLength = 41
defect_number BadRecord = 42
defect_number BadLink = 43
defect_number TooManyOpen = 44
defect_number RecordsUnread = 45
