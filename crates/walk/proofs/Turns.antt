-- A walk from one event to the next.
use Rattle.std.proofs.Common.{◌≡◌, ℕ, ◌+◌, ◌<◌, min, List, [], ◌∷◌, length, drop, Some, ap, ◌∙◌, arith, drop-cons}
use Rattle.guide.specs.Stack.{held, newest}
use Rattle.guide.proofs.Stacks.{held_length, held_none}
use Rattle.grammar.specs.declared.Part.{Part}
use Rattle.grammar.specs.Meaning.{Meaning, Bounded}
use Rattle.tree.specs.declared.verdict.Reason.TheVariants.{TextLeft}
use Rattle.tree.specs.Verdict.{refused}
use Rattle.tree.specs.Check.{going, entered, read, at_end}
use Rattle.walk.specs.declared.state.Frame.{Frame}
use Rattle.walk.specs.declared.state.LentWalk.{LentWalk}
use Rattle.walk.specs.Rows.{parts_of, rows, all_rows, first_row, other_rows, parts_now, older_now, state_of, advanced, NextFits}
use Rattle.walk.proofs.Opened.{rest, rows_advanced, older_length, rows_inside, next_fits}

module _ {B : Type 0} (g : Meaning) (w : LentWalk B) where
  -- before any rule is entered no node is open
  no_node : w.counts.rules ≡ 0 → held w.frames.now w.counts.depth ≡ []
  no_node e = let o = w.counts.opened in held_none w.frames.now w.counts.depth (omega arith)

  pub open_nodes : length (older_now g w) ≡ min w.counts.depth (length w.frames.now)
  open_nodes = older_length g w.counts.rules (held w.frames.now w.counts.depth) no_node ∙ held_length w.frames.now w.counts.depth

  module _ (p : Part) (e : Some p ≡ newest (parts_now g w)) where
    pub awaited_fits : Bounded g → NextFits (held w.frames.now w.counts.depth)
    awaited_fits b = next_fits g w.counts.rules (held w.frames.now w.counts.depth) p b no_node e

    -- the awaited part is behind, in the frames l that are then held
    behind_awaited : (l : List Frame) → l ≡ advanced (held w.frames.now w.counts.depth) → rows g l ≡ rest (parts_now g w) ∷ older_now g w
    behind_awaited l h = ap (rows g) h ∙ rows_advanced g w.counts.rules (held w.frames.now w.counts.depth) p no_node e

    pub entered_state : (r : ℕ) (l l' : List Frame) → l ≡ advanced (held w.frames.now w.counts.depth) → l' ≡ record { rule = r; next = 0 } ∷ l
        → going (record {
          parts = first_row (all_rows g (w.counts.rules + 1) l');
          older = other_rows (all_rows g (w.counts.rules + 1) l');
          text = drop w.counts.used w.text.now;
          rules = w.counts.rules + 1;
          bytes = w.counts.used;
          events = w.counts.events + 1;
        })
        ≡ going (entered (state_of g w) (rest (parts_now g w)) (parts_of (g.rule r)))
    entered_state r l l' h k = grind (arith, behind_awaited l h)

    pub read_state : (l : List Frame) → l ≡ advanced (held w.frames.now w.counts.depth) → (w.counts.rules ≡ 0 → ⊥)
        → going (record {
          parts = first_row (all_rows g w.counts.rules l);
          older = other_rows (all_rows g w.counts.rules l);
          text = drop (w.counts.used + 1) w.text.now;
          rules = w.counts.rules;
          bytes = w.counts.used + 1;
          events = w.counts.events + 1;
        })
        ≡ going (read (state_of g w) (rest (parts_now g w)) (drop (w.counts.used + 1) w.text.now))
    read_state l h ne = grind (arith, rows_inside, behind_awaited l h)

  -- text is left at the end
  pub text_left : w.counts.used < length w.text.now → refused TextLeft w.counts.events w.counts.used ≡ at_end (state_of g w) [] [] (drop w.counts.used w.text.now)
  text_left h = rw (drop-cons w.text.now w.counts.used 0 h)
