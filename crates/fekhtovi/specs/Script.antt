-- Scripts: calls one behind the other, as bytes.
use Rattle.std.specs.Prelude.{◌≡◌, ℕ, ◌%◌, cond, List, map, length, take, drop, Some, None, Option, ◌==◌, nat_le}
use Rattle.std.specs.Borrow.{Bor}
use Rattle.cues.specs.declared.requests.Request.{Request}
use Rattle.cues.specs.declared.requests.Request.TheVariants as ask
use Rattle.fekhtovi.specs.declared.script.Head.{Head}
use Rattle.fekhtovi.specs.declared.script.Fields.{Fields}
use Rattle.fekhtovi.specs.declared.script.Call.{Call}
use Rattle.fekhtovi.specs.Pairs.{byte_at, pair_at, pair_in, pairs_in}

-- the kinds of calls
abbrev pub request_of : ℕ → ℕ → Option Request
request_of kind number =
    cond (kind == 1) (Some (ask.Load number))
    (cond (kind == 2) (Some (ask.Clear number))
    (cond (kind == 3) (Some (ask.Fetch number))
    (cond (kind == 4) (Some ask.Free) None)))

-- what a load is handed, with the rule numbers to bar; and a whole call
pub record Handed : Type 0 where
  pub table : List ℕ
  pub bars : List ℕ
  pub text : List ℕ
  pub guide : List ℕ

pub record Scripted : Type 0 where
  pub head : Head
  pub handed : Handed

abbrev pub handed : List ℕ → List ℕ → List ℕ → List ℕ → Handed
handed table bars text guide = record { table = table; bars = bars; text = text; guide = guide }

abbrev pub scripted : Head → Handed → Scripted
scripted head fields = record { head = head; handed = fields }

abbrev pub handed_in : Fields → Handed
handed_in f = handed f.table.now (map pair_in f.bars.now) f.text.now f.guide.now

abbrev pub scripted_in : Call → Scripted
scripted_in c = scripted c.head (handed_in c.fields)

-- what was read from the front of some bytes, and the bytes behind it
abbrev pub Read : Type 0 → Type 0
Read A = Option (A × List ℕ)

abbrev pub then : {A B : Type 0} → Option A → (A → Option B) → Option B
then None f = None
then (Some x) f = f x

-- the head of a call: the kind, the form, the blanks, and then the cue number, the frames and the buffer's bytes as pairs
abbrev pub head_of : List ℕ → Read Head
head_of script =
    cond (nat_le 9 (length script))
    (then (request_of (byte_at script 0) (pair_at script 3)) (λ request. Some (
      record {
        request = request;
        form = byte_at script 1;
        blanks = byte_at script 2;
        frames = pair_at script 5;
        buffer = pair_at script 7;
      },
      drop 9 script,
    )))
    None

-- a field: the number of its bytes as a pair, and then these
abbrev pub first_of : ℕ → List ℕ → Read (List ℕ)
first_of n bytes = cond (nat_le n (length bytes)) (Some (take n bytes, drop n bytes)) None

abbrev pub field_of : List ℕ → Read (List ℕ)
field_of bytes = cond (nat_le 2 (length bytes)) (first_of (pair_at bytes 0) (drop 2 bytes)) None

-- the four fields, of which the second is whole pairs
abbrev pub fields_of : List ℕ → Read Handed
fields_of bytes =
    then (field_of bytes) (λ table. then (field_of table.1) (λ bars. cond (length bars.0 % 2 == 0)
    (then (field_of bars.1) (λ text. then (field_of text.1) (λ guide. Some (handed table.0 (pairs_in bars.0) text.0 guide.0, guide.1))))
    None))

-- the first call of a script; none where no whole call stands
abbrev pub call_of : List ℕ → Read Scripted
call_of script = then (head_of script) (λ head. then (fields_of head.1) (λ fields. Some (scripted head.0 fields.0, fields.1)))

-- what a reader answers: what it read, as `view` sees it, and the bytes behind
abbrev pub ReadAs : {A B : Type 0} → (A → B) → Read B → Option (A × Bor (List ℕ)) → Type 0
ReadAs view read None = read ≡ None
ReadAs view read (Some p) = read ≡ Some (view p.0, p.1.now)

-- what going over the calls gives: the first call and the script behind it, or none where no whole call stands
abbrev pub GivesCall : List ℕ → Option Call → List ℕ → Type 0
GivesCall script None rest = call_of script ≡ None
GivesCall script (Some call) rest = call_of script ≡ Some (scripted_in call, rest)
