use Rattle.std.proofs.Common.{◌≡◌, ℕ, ◌≤◌, List, length, Ok, sym, ap, ◌∙◌, rules}
use Rattle.std.proofs.lemmas.Bool.{cond-true, le-leb}
use Rattle.guide.specs.Told.{Told}
use Rattle.guide.specs.Listing.{listing}
use Rattle.grammar.specs.House.{house_meaning}
use Rattle.memory.specs.Texts.{no_texts, free as free_in}
use Rattle.cues.specs.Calls.{Reply, load, loading}
use Rattle.cues.specs.Sheet.{State, answer, next, Performs}
use Rattle.report.specs.declared.line.Answered.{Answered}
use Rattle.report.specs.Cueline.{call_for, outcome}
use Rattle.report.specs.Input.{text_in, Parted}
use Rattle.report.proofs.load_input.Goals as goal

abbrev after_reply : Reply → ℕ → Answered
after_reply reply free = record { answer = reply; free = free }

-- the load that was performed is the one that the input asks for
module _ (input text rest : List ℕ) (parted : Parted input text rest) (told : Told) (tells : told ≡ listing rest) where
  asked : load (loading 1 text house_meaning told 1024) ≡ call_for input
  asked =
      ap (λ t. load (loading 1 t house_meaning told 1024)) parted.0
      ∙ ap (λ g. load (loading 1 (text_in input) house_meaning g 1024)) (tells ∙ ap listing parted.1)

  loaded : (found left : State) (reply : Reply) (room : ℕ) → length input ≤ 60000 → found.held ≡ no_texts
      → Performs 512 found (load (loading 1 text house_meaning told 1024)) reply left → room ≡ free_in 512 left.held
      → Ok (after_reply reply room) ≡ outcome input
  loaded found left reply room short none p f =
      let e : reply ≡ answer 512 no_texts (call_for input) = p.answers ∙ ap (λ s. answer 512 s (load (loading 1 text house_meaning told 1024))) none ∙ ap (answer 512 no_texts) asked in
      let t : left.held ≡ next 512 no_texts (call_for input) = p.texts ∙ ap (λ s. next 512 s (load (loading 1 text house_meaning told 1024))) none ∙ ap (next 512 no_texts) asked in
      ap (λ (x : Reply). Ok (after_reply x room)) e ∙ ap (λ (n : ℕ). Ok (after_reply (answer 512 no_texts (call_for input)) n)) (f ∙ ap (free_in 512) t)
      ∙ sym (cond-true _ _ _ (le-leb (length input) 60000 short))

pub returns : goal.returns
returns c =
    loaded _ _ _ c.split_input.ensures _ c.new.ensures _ _ _ _ c.if-input-gt-MOST_INPUT.false c.new-memory.ensures
    c.perform-answer.ensures.performed.sheet (search rules)
