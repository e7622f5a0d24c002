-- What a check answers: the number of each reason, and the answers that were taken from the guide.
use Rattle.std.specs.Prelude.{ℕ, ◌+◌, Ok, Err, Result}
use Rattle.tree.specs.declared.verdict.Accepted.{Accepted}
use Rattle.tree.specs.declared.verdict.Reason.{Reason}
use Rattle.tree.specs.declared.verdict.Reason.TheVariants.{GuideFault, TooManyEvents, NotAwaited, NoSuchRule, OtherSymbol, TooDeep, ByteNotAllowed, ByteNotNext, TextLeft}
use Rattle.tree.specs.declared.verdict.Refusal.{Refusal}

abbrev pub reason_number : Reason → ℕ
reason_number (GuideFault f) = 5
reason_number TooManyEvents = 6
reason_number NotAwaited = 7
reason_number NoSuchRule = 8
reason_number OtherSymbol = 9
reason_number TooDeep = 10
reason_number ByteNotAllowed = 11
reason_number ByteNotNext = 12
reason_number TextLeft = 13

abbrev pub Verdict : Type 0
Verdict = Result Accepted Refusal

-- accepted, with the tree's rules, the text's bytes and the steps
abbrev pub accepted : ℕ → ℕ → ℕ → Verdict
accepted rules bytes steps = Ok (record { rules = rules; bytes = bytes; steps = steps })

abbrev pub refusal : Reason → ℕ → ℕ → Refusal
refusal reason events bytes = record { reason = reason; events = events; bytes = bytes }

-- refused for a reason, with the counts of accepted events and used text bytes
abbrev pub refused : Reason → ℕ → ℕ → Verdict
refused reason events bytes = Err (refusal reason events bytes)

-- how many answers were taken from the guide: the one that was refused counts too
abbrev pub taken : Verdict → ℕ
taken (Ok a) = a.steps
taken (Err f) = f.events + 1
