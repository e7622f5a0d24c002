-- What `cueline` prints for an input: the text is loaded as cue 1 into an empty memory of 512 blocks, with the house grammar, the listing
-- as its guide, and 1,024 frames.
use Rattle.std.specs.Prelude.{ℕ, cond, List, length, Ok, Err, Result, nat_le}
use Rattle.guide.specs.Listing.{listing}
use Rattle.grammar.specs.House.{house_meaning}
use Rattle.memory.specs.Texts.{no_texts, free as free_in}
use Rattle.cues.specs.Calls.{Call, load, loading}
use Rattle.cues.specs.Sheet.{answer, next}
use Rattle.report.specs.declared.line.Answered.{Answered}
use Rattle.report.specs.declared.line.InputTooLong.{InputTooLong}
use Rattle.report.specs.Input.{text_in, listing_in}
use Rattle.report.specs.Line.{line_of}

abbrev pub call_for : List ℕ → Call
call_for input = load (loading 1 (text_in input) house_meaning (listing (listing_in input)) 1024)

abbrev pub answered : List ℕ → Answered
answered input =
    record {
      answer = answer 512 no_texts (call_for input);
      free = free_in 512 (next 512 no_texts (call_for input));
    }

-- an input of more than 60,000 bytes is not looked at
abbrev pub outcome : List ℕ → Result Answered InputTooLong
outcome input = cond (nat_le (length input) 60000) (Ok (answered input)) (Err (record {}))

abbrev pub cueline : List ℕ → List ℕ
cueline input = line_of (outcome input)
