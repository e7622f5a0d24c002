-- The bytes of the line that is printed for an answer.
use Rattle.std.specs.Prelude.{ℕ, List, [], ◌∷◌, ◌++◌, Ok, Err, Result, codes, decimal}
use Rattle.std.specs.List.{concat}
use Rattle.guide.specs.Told.{defect_number}
use Rattle.tree.specs.declared.verdict.Reason.{Reason}
use Rattle.tree.specs.declared.verdict.Reason.TheVariants.{GuideFault, TooManyEvents, NotAwaited, NoSuchRule, OtherSymbol, TooDeep, ByteNotAllowed, ByteNotNext, TextLeft}
use Rattle.cues.specs.declared.answers.Answer.{Answer}
use Rattle.cues.specs.declared.answers.Answer.TheVariants as say
use Rattle.cues.specs.declared.answers.Refusal.{Refusal}
use Rattle.cues.specs.declared.answers.Refusal.TheVariants.{Memory, Check}
use Rattle.cues.specs.Calls.{refusal_number, refusal_events, refusal_bytes}
use Rattle.report.specs.declared.line.Answered.{Answered}
use Rattle.report.specs.declared.line.InputTooLong.{InputTooLong}

-- an accepted load: the tree's rules, the text's bytes, the steps, and the blocks that are free after it
abbrev pub ok_text : ℕ → ℕ → ℕ → ℕ → List ℕ
ok_text rules bytes steps free =
    concat (codes "ok rules=" ∷ decimal rules ∷ codes " bytes=" ∷ decimal bytes ∷ codes " steps=" ∷ decimal steps ∷ codes " free=" ∷ decimal free ∷ [])

-- the number that was cleared
abbrev pub cleared_text : ℕ → ℕ → List ℕ
cleared_text number free = concat (codes "ok cleared=" ∷ decimal number ∷ codes " free=" ∷ decimal free ∷ [])

-- the length that was fetched
abbrev pub fetched_text : ℕ → ℕ → List ℕ
fetched_text length free = concat (codes "ok fetched=" ∷ decimal length ∷ codes " free=" ∷ decimal free ∷ [])

-- the free blocks
abbrev pub free_text : ℕ → List ℕ
free_text free = concat (codes "ok free=" ∷ decimal free ∷ [])

-- a refusal: its number, the events accepted and the text bytes used
abbrev pub no_text : ℕ → ℕ → ℕ → List ℕ
no_text number events bytes = concat (codes "no " ∷ decimal number ∷ codes " event=" ∷ decimal events ∷ codes " at=" ∷ decimal bytes ∷ [])

-- only a fault of the guide has a number and a place of its own
abbrev pub fault_text : Reason → List ℕ
fault_text (GuideFault fault) = concat (codes " guide=" ∷ decimal (defect_number fault.defect) ∷ codes " place=" ∷ decimal fault.place ∷ [])
fault_text TooManyEvents = []
fault_text NotAwaited = []
fault_text NoSuchRule = []
fault_text OtherSymbol = []
fault_text TooDeep = []
fault_text ByteNotAllowed = []
fault_text ByteNotNext = []
fault_text TextLeft = []

abbrev pub behind_counts : Refusal → List ℕ
behind_counts (Memory why) = []
behind_counts (Check f) = fault_text f.reason

abbrev pub refusal_text : Refusal → List ℕ
refusal_text f = no_text (refusal_number f) (refusal_events f) (refusal_bytes f) ++ behind_counts f

-- an answer after which so many blocks are free
abbrev pub answer_text : Result Answer Refusal → ℕ → List ℕ
answer_text (Ok (say.Loaded a)) free = ok_text a.rules a.bytes a.steps free
answer_text (Ok (say.Cleared n)) free = cleared_text n free
answer_text (Ok (say.Fetched k)) free = fetched_text k free
answer_text (Ok (say.Free k)) free = free_text k
answer_text (Err f) free = refusal_text f

-- the number by which an input that is too long is refused
abbrev pub too_long_number : ℕ
too_long_number = 16

-- it is refused with zeros
abbrev pub too_long_text : List ℕ
too_long_text = no_text too_long_number 0 0

-- byte 10 ends a line
abbrev pub ended : List ℕ → List ℕ
ended text = text ++ 10 ∷ []

abbrev pub answer_line : Result Answer Refusal → ℕ → List ℕ
answer_line answer free = ended (answer_text answer free)

abbrev pub line_of : Result Answered InputTooLong → List ℕ
line_of (Ok a) = answer_line a.answer a.free
line_of (Err e) = ended too_long_text
