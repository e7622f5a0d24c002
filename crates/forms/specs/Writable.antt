-- The trees that can be written, whether or not any grammar has them.
use Rattle.std.specs.Prelude.{ℕ, ◌+◌, ◌<◌, ◌≤◌}
use Rattle.tree.specs.Tree.{Tree, leaf, node, Children, no_more, ◌then◌, depth}

-- how many nodes the tree has, leaves too
abbrev mutual
  pub nodes : Tree → ℕ
  nodes (leaf b) = 1
  nodes (node r ts) = 1 + nodes_all ts

  pub nodes_all : Children → ℕ
  nodes_all no_more = 0
  nodes_all (t then ts) = nodes t + nodes_all ts

-- each rule number is at most 9,999, and each leaf is a byte
abbrev mutual
  pub ValuesInRange : Tree → Type 0
  ValuesInRange (leaf b) = b < 256
  ValuesInRange (node r ts) = (r ≤ 9999) × AllValuesInRange ts

  pub AllValuesInRange : Children → Type 0
  AllValuesInRange no_more = Unit {0}
  AllValuesInRange (t then ts) = ValuesInRange t × AllValuesInRange ts

abbrev pub RuleAtRoot : Tree → Type 0
RuleAtRoot (leaf b) = ⊥
RuleAtRoot (node r ts) = Unit {0}

pub record Writable (t : Tree) : Type 0 where
  pub rule_at_root : RuleAtRoot t
  pub in_range : ValuesInRange t
  pub few_nodes : nodes t ≤ 8000
  pub shallow : depth t ≤ 256
