-- A walk's length, and the tree that it is the walk of.
use Rattle.std.proofs.Common.{◌≡◌, ℕ, ◌+◌, ◌*◌, List, [], ◌∷◌, ◌++◌, length, refl, append_assoc, append-nil, arith, length-append}
use Rattle.guide.specs.declared.Event.{Event}
use Rattle.guide.specs.declared.Event.TheVariants.{Enter, Byte, Leave}
use Rattle.guide.specs.Told.{Told, ahead}
use Rattle.tree.specs.Tree.{Tree, leaf, node, Children, no_more, ◌then◌, walk, walk_all, spells, spell_all, rules, rules_all}
use Rattle.tree.specs.Theorems.{WalkDeterminesTree, TwoEventsARuleOneAByte}

-- the events of two lists in a row
pub ahead_append : (es fs : List Event) (told : Told) → ahead (es ++ fs) told ≡ ahead es (ahead fs told)
ahead_append [] fs told = refl
ahead_append (e ∷ es) fs told = cc (ahead_append es fs told)

mutual
  pub walk_length : (t : Tree) → length (walk t) ≡ 2 * rules t + length (spells t)
  walk_length (leaf b) = refl
  walk_length (node r ts) = simp length-append (omega (arith, walk_all_length ts))

  walk_all_length : (ts : Children) → length (walk_all ts) ≡ 2 * rules_all ts + length (spell_all ts)
  walk_all_length no_more = refl
  walk_all_length (t then ts) = simp length-append (omega (arith, walk_length t, walk_all_length ts))

pub two_events_a_rule_one_a_byte : TwoEventsARuleOneAByte
two_events_a_rule_one_a_byte = walk_length

-- Read from its last event to its first, a walk gives its tree back. What is kept on the way: the trees of the newest open node that
-- stand to the right of here, and the same of each older one.
abbrev put : Tree → List Children → List Children
put t [] = []
put t (ts ∷ tss) = (t then ts) ∷ tss

abbrev close : ℕ → List Children → List Children
close r [] = []
close r (ts ∷ tss) = put (node r ts) tss

abbrev trees : List Event → List Children
trees [] = no_more ∷ []
trees (Enter r ∷ es) = close r (trees es)
trees (Byte b ∷ es) = put (leaf b) (trees es)
trees (Leave ∷ es) = no_more ∷ trees es

abbrev put_all : Children → List Children → List Children
put_all no_more tss = tss
put_all (t then ts) tss = put t (put_all ts tss)

put_all_none : (ts : Children) (tss : List Children) → put_all ts (no_more ∷ tss) ≡ ts ∷ tss
put_all_none no_more tss = refl
put_all_none (t then ts) tss = cc (put_all_none ts tss)

mutual
  trees_walk : (t : Tree) (es : List Event) → trees (walk t ++ es) ≡ put t (trees es)
  trees_walk (leaf b) es = refl
  trees_walk (node r ts) es = simp (append_assoc, trees_walk_all ts, put_all_none)

  trees_walk_all : (ts : Children) (es : List Event) → trees (walk_all ts ++ es) ≡ put_all ts (trees es)
  trees_walk_all no_more es = refl
  trees_walk_all (t then ts) es = simp (append_assoc, trees_walk t, trees_walk_all ts)

trees_of : (t : Tree) → trees (walk t) ≡ (t then no_more) ∷ []
trees_of t = simp append-nil at (trees_walk t [])

pub walk_determines_tree : WalkDeterminesTree
walk_determines_tree t u e =
    cc (trees_of t, trees_of u)
