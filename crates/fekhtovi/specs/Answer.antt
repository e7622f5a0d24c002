-- Answers in numbers: a field that an answer does not have is 0.
use Rattle.std.specs.Prelude.{ℕ, Ok, Err, Result}
use Rattle.std.specs.Result.{result_and, result_map_both}
use Rattle.guide.specs.Told.{defect_number}
use Rattle.grammar.specs.Barred.{refusal_number as bar_number}
use Rattle.packed.specs.declared.fault.TableFault.{TableFault}
use Rattle.packed.specs.Check.{fault_number, fault_rule}
use Rattle.memory.specs.Texts.{refusal_number as memory_number}
use Rattle.tree.specs.declared.verdict.Accepted.{Accepted}
use Rattle.tree.specs.declared.verdict.Reason.{Reason}
use Rattle.tree.specs.declared.verdict.Reason.TheVariants.{GuideFault, TooManyEvents, NotAwaited, NoSuchRule, OtherSymbol, TooDeep, ByteNotAllowed, ByteNotNext, TextLeft}
use Rattle.tree.specs.Verdict.{reason_number}
use Rattle.cues.specs.declared.answers.Answer.{Answer}
use Rattle.cues.specs.declared.answers.Answer.TheVariants as say
use Rattle.cues.specs.declared.answers.Refusal.{Refusal}
use Rattle.cues.specs.declared.answers.Refusal.TheVariants.{Memory, Check}
use Rattle.cues.specs.Calls.{refusal_number}
use Rattle.fekhtovi.specs.declared.answer.FekhtoviAnswer.{FekhtoviAnswer}
use Rattle.fekhtovi.specs.declared.refused.Refused.{Refused}
use Rattle.fekhtovi.specs.declared.refused.Refused.TheVariants as no

abbrev pub zeros : FekhtoviAnswer
zeros = record { refusal = 0; rules = 0; steps = 0; events = 0; fault = 0; rule = 0; cleared = 0; free = 0; bytes = 0; place = 0 }

-- a refusal by its number alone
abbrev pub refused_with : ℕ → FekhtoviAnswer
refused_with n = record { refusal = n; rules = 0; steps = 0; events = 0; fault = 0; rule = 0; cleared = 0; free = 0; bytes = 0; place = 0 }

-- a packed table is refused: with the rule concerned
abbrev pub of_fault : TableFault → FekhtoviAnswer
of_fault f =
    record { refusal = fault_number f; rules = 0; steps = 0; events = 0; fault = 0; rule = fault_rule f; cleared = 0; free = 0; bytes = 0; place = 0 }

-- an accepted tree: its rule nodes, the steps and the text's bytes
abbrev pub of_accepted : Accepted → FekhtoviAnswer
of_accepted a =
    record { refusal = 0; rules = a.rules; steps = a.steps; events = 0; fault = 0; rule = 0; cleared = 0; free = 0; bytes = a.bytes; place = 0 }

-- a check refuses: with the events accepted and the text bytes used
abbrev pub refused_at : ℕ → ℕ → ℕ → FekhtoviAnswer
refused_at n events bytes =
    record { refusal = n; rules = 0; steps = 0; events = events; fault = 0; rule = 0; cleared = 0; free = 0; bytes = bytes; place = 0 }

-- for a fault of the guide, with its own number and place
abbrev pub fault_at : ℕ → ℕ → ℕ → ℕ → ℕ → FekhtoviAnswer
fault_at n events bytes fault place =
    record { refusal = n; rules = 0; steps = 0; events = events; fault = fault; rule = 0; cleared = 0; free = 0; bytes = bytes; place = place }

abbrev pub of_check_reason : Reason → ℕ → ℕ → FekhtoviAnswer
of_check_reason (GuideFault f) events bytes = fault_at (reason_number (GuideFault f)) events bytes (defect_number f.defect) f.place
of_check_reason TooManyEvents events bytes = refused_at (reason_number TooManyEvents) events bytes
of_check_reason NotAwaited events bytes = refused_at (reason_number NotAwaited) events bytes
of_check_reason NoSuchRule events bytes = refused_at (reason_number NoSuchRule) events bytes
of_check_reason OtherSymbol events bytes = refused_at (reason_number OtherSymbol) events bytes
of_check_reason TooDeep events bytes = refused_at (reason_number TooDeep) events bytes
of_check_reason ByteNotAllowed events bytes = refused_at (reason_number ByteNotAllowed) events bytes
of_check_reason ByteNotNext events bytes = refused_at (reason_number ByteNotNext) events bytes
of_check_reason TextLeft events bytes = refused_at (reason_number TextLeft) events bytes

-- a call is refused: only the check of a guide counts events and bytes
abbrev pub of_refusal : Refusal → FekhtoviAnswer
of_refusal (Memory why) = refused_with (memory_number why)
of_refusal (Check f) = of_check_reason f.reason f.events f.bytes

-- the number of each refusal: 255 is the library's own
abbrev pub refused_number : Refused → ℕ
refused_number (no.Form form) = 255
refused_number (no.Table fault) = fault_number fault
refused_number (no.Bar refusal) = bar_number refusal
refused_number (no.Call refusal) = refusal_number refusal

abbrev pub of_refused : Refused → FekhtoviAnswer
of_refused (no.Form form) = refused_with 255
of_refused (no.Table fault) = of_fault fault
of_refused (no.Bar refusal) = refused_with (bar_number refusal)
of_refused (no.Call refusal) = of_refusal refusal

-- a call on the memory
abbrev pub of_answer : Answer → FekhtoviAnswer
of_answer (say.Loaded a) = of_accepted a
of_answer (say.Cleared n) =
    record { refusal = 0; rules = 0; steps = 0; events = 0; fault = 0; rule = 0; cleared = n; free = 0; bytes = 0; place = 0 }
of_answer (say.Fetched k) =
    record { refusal = 0; rules = 0; steps = 0; events = 0; fault = 0; rule = 0; cleared = 0; free = 0; bytes = k; place = 0 }
of_answer (say.Free k) =
    record { refusal = 0; rules = 0; steps = 0; events = 0; fault = 0; rule = 0; cleared = 0; free = k; bytes = 0; place = 0 }

-- what comes back of a check, and of a call
abbrev pub of_checked : Result Accepted Refused → FekhtoviAnswer
of_checked (Ok accepted) = of_accepted accepted
of_checked (Err refused) = of_refused refused

abbrev pub of_called : Result Answer Refused → FekhtoviAnswer
of_called (Ok answer) = of_answer answer
of_called (Err refused) = of_refused refused

-- an error as a refusal of the library
abbrev pub refusing : {A E : Type 0} → (E → Refused) → Result A E → Result A Refused
refusing why r = result_map_both (λ x. x) why r

-- whether there is a value, and why not
abbrev pub answered : {A E : Type 0} → Result A E → Result Unit E
answered r = result_and r (Ok tt)
