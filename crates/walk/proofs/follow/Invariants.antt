use Rattle.std.proofs.Common.{◌≡◌, length}
use Rattle.guide.specs.Told.{after}
use Rattle.tree.specs.Check.{going, run, verdict}
use Rattle.walk.specs.Rows.{state_of}
use Rattle.walk.proofs.Answered.{events_left}
use Rattle.walk.proofs.follow.Given as goal

-- the rest of the run gives the verdict of the whole, and the guide stands behind an answer for each event accepted
abbrev pub invariant-loop-event : goal.invariant-loop-event
invariant-loop-event g l =
    let m = g.B.Grammar.meaning l.grammar in
    let told = g.G.Guide.told l.initial.guide in
    record {
      grammar : l.walk.grammar.now ≡ l.grammar;
      frames : length l.walk.frames.now ≡ length l.fn.frames;
      rest : run m (length l.fn.frames) (going (state_of m l.walk)) (g.G.Guide.told l.guide) ≡ verdict m (length l.fn.frames) l.text told;
      behind : g.G.Guide.told l.guide ≡ after l.walk.counts.events told;
    }

abbrev pub decreases-loop-event : goal.decreases-loop-event
decreases-loop-event g l = events_left (g.G.Guide.told l.guide)
