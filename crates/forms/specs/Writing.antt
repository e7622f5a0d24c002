-- How a tree is written as a listing and as a link table.
use Rattle.std.specs.Prelude.{ℕ, ◌+◌, ◌/◌, ◌%◌, cond, List, [], ◌∷◌, ◌++◌, decimal, nat_lt}
use Rattle.std.specs.List.{flat_map}
use Rattle.guide.specs.declared.Event.{Event}
use Rattle.guide.specs.declared.Event.TheVariants.{Enter, Byte, Leave}
use Rattle.tree.specs.Tree.{Tree, leaf, node, Children, no_more, ◌then◌, walk}
use Rattle.forms.specs.Writable.{nodes}

-- The listing.
-- a hexadecimal digit: "0" is 48 and "a" is 97
abbrev pub hex_digit_of : ℕ → ℕ
hex_digit_of d = cond (nat_lt d 10) (48 + d) (87 + d)

-- the line of an event, without its ending: "(" is 40, "=" is 61, ")" is 41; `decimal` has no leading zeros
abbrev pub line_of : Event → List ℕ
line_of (Enter r) = 40 ∷ decimal r
line_of (Byte b) = 61 ∷ hex_digit_of (b / 16) ∷ hex_digit_of (b % 16) ∷ []
line_of Leave = 41 ∷ []

-- a line for each event, ended by byte 10
abbrev pub lines_of : List Event → List ℕ
lines_of = flat_map (λ e. line_of e ++ (10 ∷ []))

-- the listing of a tree: its walk, line by line
abbrev pub listing_of : Tree → List ℕ
listing_of t = lines_of (walk t)

-- The link table.
-- the eight bytes of a record, each field big-endian
abbrev pub record_bytes : ℕ → ℕ → ℕ → ℕ → List ℕ
record_bytes kind value child sibling =
    kind ∷ 0 ∷ (value / 256) ∷ (value % 256) ∷ (child / 256) ∷ (child % 256) ∷ (sibling / 256) ∷ (sibling % 256) ∷ []

-- the link to the first of some children, whose record has the number n; 0 without children
abbrev pub first_link : ℕ → Children → ℕ
first_link n no_more = 0
first_link n (t then ts) = n

-- the records of a tree, the root's numbered n and linked to its next sibling, the others numbered on in the order of the walk
abbrev mutual
  pub tree_bytes : ℕ → ℕ → Tree → List ℕ
  tree_bytes n sibling (leaf b) = record_bytes 2 b 0 sibling
  tree_bytes n sibling (node r ts) = record_bytes 1 r (first_link (n + 1) ts) sibling ++ children_bytes (n + 1) ts

  pub children_bytes : ℕ → Children → List ℕ
  children_bytes n no_more = []
  children_bytes n (t then ts) = tree_bytes n (first_link (n + nodes t) ts) t ++ children_bytes (n + nodes t) ts

-- the link table of a tree: the root is record 0 and has no sibling
abbrev pub link_table_of : Tree → List ℕ
link_table_of t = tree_bytes 0 0 t
