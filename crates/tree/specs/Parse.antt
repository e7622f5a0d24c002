-- Parse trees of a grammar.
use Rattle.std.specs.Prelude.{◌≡◌, true, List, [], ◌∷◌, Some}
use Rattle.grammar.specs.declared.Part.{Part}
use Rattle.grammar.specs.declared.Part.TheVariants.{Symbol}
use Rattle.grammar.specs.Meaning.{Rule, Meaning, allows}
use Rattle.tree.specs.Tree.{Tree, leaf, node, Children, no_more, ◌then◌}

-- the tree matches the part: a leaf is a byte that the part allows; a rule node is a rule of the grammar with the part as its left symbol,
-- whose children match its parts one for one
abbrev mutual
  pub Matches : Meaning → Part → Tree → Type 0
  Matches g p (leaf b) = allows p b ≡ true
  Matches g p (node r ts) = (R : Rule) × (g.rule r ≡ Some R) × (p ≡ Symbol R.left) × MatchAll g R.parts ts

  pub MatchAll : Meaning → List Part → Children → Type 0
  MatchAll g [] no_more = Unit {0}
  MatchAll g [] (t then ts) = ⊥
  MatchAll g (p ∷ ps) no_more = ⊥
  MatchAll g (p ∷ ps) (t then ts) = Matches g p t × MatchAll g ps ts

-- a parse tree of the grammar: its root's left symbol is the start
abbrev pub ParseTree : Meaning → Tree → Type 0
ParseTree g t = Matches g (Symbol g.start) t
