-- What a request means, with what is lent to it.
use Rattle.std.specs.Prelude.{◌≡◌, ℕ, List, length}
use Rattle.guide.specs.Told.{Told}
use Rattle.grammar.specs.Meaning.{Meaning}
use Rattle.memory.specs.Texts.{Texts}
use Rattle.cues.specs.Calls.{Call, load, clear, fetch, free, loading}
use Rattle.cues.specs.Sheet.{State}
use Rattle.cues.specs.declared.requests.Lent.{Lent}
use Rattle.cues.specs.declared.requests.Request.{Request}
use Rattle.cues.specs.declared.requests.Request.TheVariants as ask

-- only a load works in the frames
abbrev pub FramesSpared : {A : Type 0} → Request → List A → List A → Type 0
FramesSpared (ask.Load n) frames frames' = Unit {0}
FramesSpared (ask.Clear n) frames frames' = frames' ≡ frames
FramesSpared (ask.Fetch n) frames frames' = frames' ≡ frames
FramesSpared ask.Free frames frames' = frames' ≡ frames

-- the call that is asked for, by the text, the grammar, the guide, the entries of the frames and the bytes of the buffer
abbrev pub asked : Request → List ℕ → Meaning → Told → ℕ → List ℕ → Call
asked (ask.Load n) text g told frames buffer = load (loading n text g told frames)
asked (ask.Clear n) text g told frames buffer = clear n
asked (ask.Fetch n) text g told frames buffer = fetch n buffer
asked ask.Free text g told frames buffer = free

-- the same by what is lent, where these say what a grammar means and what a guide tells
abbrev pub call_of : {B G : Type 0} → (B → Meaning) → (G → Told) → Request → Lent B G → Call
call_of meaning told r l = asked r l.text.now (meaning l.grammar.now) (told l.guide.now) (length l.frames.now) l.buffer.now

-- the texts held, and what stands in the parts that are lent
abbrev pub state_of : {B G : Type 0} → Texts → (G → Told) → Lent B G → State
state_of held told l = record { held = held; buffer = l.buffer.now; told = told l.guide.now }

-- the same parts are lent, whatever was written into them, and as many frames
pub record SameParts {B G : Type 0} (l l' : Lent B G) : Type 0 where
  pub text : l'.text ≡ l.text
  pub grammar : l'.grammar ≡ l.grammar
  pub guide : l'.guide.ghost_name ≡ l.guide.ghost_name
  pub frames : l'.frames.ghost_name ≡ l.frames.ghost_name
  pub buffer : l'.buffer.ghost_name ≡ l.buffer.ghost_name
  pub entries : length l'.frames.now ≡ length l.frames.now
