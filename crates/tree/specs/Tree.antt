-- Trees, what they spell, and their walks.
use Rattle.std.specs.Prelude.{ℕ, ◌+◌, max, List, [], ◌∷◌, ◌++◌}
use Rattle.guide.specs.declared.Event.{Event}
use Rattle.guide.specs.declared.Event.TheVariants.{Enter, Byte, Leave}

-- a leaf is a byte; a rule node has the number of its rule, and its children from left to right
-- (a list type of their own: the logic has no type that holds itself inside a List)
infixr 60 ◌then◌
mutual
  pub data Tree : Type 0 where
    leaf : ℕ → Tree
    node : ℕ → Children → Tree

  pub data Children : Type 0 where
    no_more : Children
    ◌then◌ : Tree → Children → Children

-- a node is entered, its children are walked, it is left; a leaf tells its byte
abbrev mutual
  pub walk : Tree → List Event
  walk (leaf b) = Byte b ∷ []
  walk (node r ts) = Enter r ∷ (walk_all ts ++ (Leave ∷ []))

  pub walk_all : Children → List Event
  walk_all no_more = []
  walk_all (t then ts) = walk t ++ walk_all ts

-- the leaves from left to right
abbrev mutual
  pub spells : Tree → List ℕ
  spells (leaf b) = b ∷ []
  spells (node r ts) = spell_all ts

  pub spell_all : Children → List ℕ
  spell_all no_more = []
  spell_all (t then ts) = spells t ++ spell_all ts

-- how many rule nodes the tree has
-- (a recursion of its own, as each measure of a tree is: as a fold that takes four functions it is no plainer)
abbrev mutual
  pub rules : Tree → ℕ
  rules (leaf b) = 0
  rules (node r ts) = 1 + rules_all ts

  pub rules_all : Children → ℕ
  rules_all no_more = 0
  rules_all (t then ts) = rules t + rules_all ts

-- how many rule nodes stand on the longest way down
abbrev mutual
  pub depth : Tree → ℕ
  depth (leaf b) = 0
  depth (node r ts) = 1 + depth_all ts

  pub depth_all : Children → ℕ
  depth_all no_more = 0
  depth_all (t then ts) = max (depth t) (depth_all ts)
