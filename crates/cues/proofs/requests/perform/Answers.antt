use Rattle.std.proofs.Common.{ℕ, List, refl}
use Rattle.guide.specs.Told.{Told}
use Rattle.grammar.specs.Meaning.{Meaning}
use Rattle.cues.specs.Requests.{asked}
use Rattle.cues.specs.declared.requests.Request.{Request}
use Rattle.cues.specs.declared.requests.Request.TheVariants.{Load, Clear, Fetch, Free}
use Rattle.cues.proofs.Laws.{Handed, performed}
use Rattle.cues.proofs.requests.perform.Goals as goal

handed : (q : Request) (t : List ℕ) (g : Meaning) (told : Told) (frames : ℕ) (b : List ℕ) → Handed (asked q t g told frames b) b told
handed (Load n) t g told frames b = refl
handed (Clear n) t g told frames b = tt
handed (Fetch n) t g told frames b = refl
handed Free t g told frames b = tt

pub returns-clause-performed : goal.returns-clause-performed
returns-clause-performed g c = performed _ _ _ _ _ c.answer_to.ensures.sheet (handed c.args.request _ _ _ _ _)
