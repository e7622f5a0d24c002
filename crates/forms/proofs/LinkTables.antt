-- A tree's own link table tells its walk, and a table that tells the walk is the tree's own.
use Rattle.std.proofs.Common.{◌≡◌, ℕ, ◌+◌, ◌%◌, ◌<◌, ◌≤◌, Bool, true, cond, ◌&&◌, eqb, leb, List, [], ◌∷◌, ◌++◌, length, Ok, sym, refl, ap, ◌∙◌, append_assoc, append-nil, add-zero, arith}
use Rattle.std.proofs.lemmas.Bool.{lt-ltb}
use Rattle.std.proofs.lemmas.Bool.Decides.{nat_tests as splits}
use Rattle.guide.specs.declared.Defect.TheVariants.{TableLength, BadLink}
use Rattle.guide.specs.declared.Event.{Event}
use Rattle.guide.specs.declared.Event.TheVariants.{Enter, Byte, Leave}
use Rattle.guide.specs.declared.records.Record.TheVariants.{Rule, Leaf}
use Rattle.guide.specs.LinkTable.{Entry, records, fault_at, reading, follow, begin, link_table}
use Rattle.guide.specs.Told.{End, Told, finally, ◌and◌, ahead, tells}
use Rattle.tree.specs.Tree.{Tree, leaf, node, Children, no_more, ◌then◌, walk, walk_all, depth, depth_all}
use Rattle.tree.proofs.Walks.{ahead_append}
use Rattle.forms.specs.Laws.{Means, LinkTableAsWritten}
use Rattle.forms.specs.Writable.{nodes, nodes_all}
use Rattle.forms.specs.Writing.{first_link, link_table_of}
use Rattle.forms.proofs.Records.{records_of, records_all, TableOf, table_back, table_of}

-- From the walk back to the records.
module _ (n : ℕ) (opened : List ℕ) (go : ℕ → List ℕ → Told) where
  -- an entry that tells an enter, a byte, a leave or the end
  enter_read : (r : Entry) (x : ℕ) (g : Told) → reading n r opened go ≡ Enter x and g
      → (child : ℕ) × (sibling : ℕ) × (r ≡ Ok (Rule x child sibling)) × (go child (sibling ∷ opened) ≡ g)
  enter_read r x g h = grind arith

  byte_read : (r : Entry) (b : ℕ) (g : Told) → reading n r opened go ≡ Byte b and g → (sibling : ℕ) × (r ≡ Ok (Leaf b sibling)) × (go sibling opened ≡ g)
  byte_read r b g h = grind arith

  leave_unread : (r : Entry) (g : Told) → reading n r opened go ≡ Leave and g → ⊥
  leave_unread r g h = grind arith

  end_unread : (r : Entry) → reading n r opened go ≡ finally End → ⊥
  end_unread r h = grind arith

-- the link that is followed to another event than a leave names the next record
record Followed (n : ℕ) (rs : List Entry) (link : ℕ) (opened : List ℕ) (e : Event) (g : Told) : Type 0 where
  first : Entry
  rest : List Entry
  here : link ≡ n
  parts : rs ≡ first ∷ rest
  goes : reading n first opened (follow (n + 1) rest) ≡ e and g

followed : (n : ℕ) (rs : List Entry) (link : ℕ) (opened : List ℕ) (e : Event) (g : Told) → (e ≡ Leave → ⊥)
    → follow n rs link opened ≡ e and g → Followed n rs link opened e g
followed n rs link opened e g ne h = grind arith

-- a leave is told where there is no link
left : (n : ℕ) (rs : List Entry) (link s : ℕ) (opened : List ℕ) (g : Told) → follow n rs link (s ∷ opened) ≡ Leave and g
    → (link ≡ 0) × (follow n rs s opened ≡ g)
left n rs link s opened g h = grind (arith, leave_unread)

-- and the end, where no record is left too
finished : (n : ℕ) (rs : List Entry) (link : ℕ) → follow n rs link [] ≡ finally End → (link ≡ 0) × (rs ≡ [])
finished n rs link h = grind (arith, end_unread)

-- the walk of a tree was told by the tree's own records
record Read (t : Tree) (n : ℕ) (rs : List Entry) (opened : List ℕ) (g : Told) : Type 0 where
  sibling : ℕ
  rest : List Entry
  same : rs ≡ records_of n sibling t ++ rest
  goes : follow (n + nodes t) rest sibling opened ≡ g

record ReadAll (ts : Children) (n link s : ℕ) (rs : List Entry) (opened : List ℕ) (g : Told) : Type 0 where
  rest : List Entry
  first : link ≡ first_link n ts
  same : rs ≡ records_all n ts ++ rest
  goes : follow (n + nodes_all ts) rest s opened ≡ g

-- a walk begins with an enter or a byte
first_event : (t : Tree) (g : Told) → (e : Event) × (k : Told) × (ahead (walk t) g ≡ e and k) × (e ≡ Leave → ⊥)
first_event (leaf b) g = (Byte b, _, refl, λ h. cc)
first_event (node r ts) g = (Enter r, _, refl, λ h. cc)

mutual
  read_back : (t : Tree) (n : ℕ) (r : Entry) (rs : List Entry) (opened : List ℕ) (g : Told)
      → reading n r opened (follow (n + 1) rs) ≡ ahead (walk t) g → Read t n (r ∷ rs) opened g
  read_back (leaf b) n r rs opened g h =
      let p = byte_read n opened (follow (n + 1) rs) r b g h in
      record { sibling = p.0; rest = rs; same = ap (λ x. x ∷ rs) p.1; goes = p.2 }
  read_back (node x ts) n r rs opened g h =
      let p = enter_read n opened (follow (n + 1) rs) r x (ahead (walk_all ts) (Leave and g)) (rw ahead_append at h) in
      let i = children_back ts (n + 1) p.0 p.1 rs opened g p.3 in
      let a : n + (1 + nodes_all ts) ≡ n + 1 + nodes_all ts = omega arith in
      record { sibling = p.1; rest = i.rest; same = cc (p.2, i.first, i.same); goes = rw a i.goes }

  children_back : (ts : Children) (n link s : ℕ) (rs : List Entry) (opened : List ℕ) (g : Told)
      → follow n rs link (s ∷ opened) ≡ ahead (walk_all ts) (Leave and g) → ReadAll ts n link s rs opened g
  children_back no_more n link s rs opened g h =
      let p = left n rs link s opened g h in record { rest = rs; first = p.0; same = refl; goes = rw add-zero p.1 }
  children_back (t then ts) n link s rs opened g h =
      let k = ahead (walk_all ts) (Leave and g) in
      let split = ahead_append (walk t) (walk_all ts) (Leave and g) in
      let e = first_event t k in
      let p = followed n rs link (s ∷ opened) e.0 e.1 e.3 (h ∙ split ∙ e.2) in
      let i = read_back t n p.first p.rest (s ∷ opened) k (p.goes ∙ sym e.2) in
      let j = children_back ts (n + nodes t) i.sibling s i.rest opened g i.goes in
      let a : n + (nodes t + nodes_all ts) ≡ n + nodes t + nodes_all ts = omega arith in
      record {
        rest = j.rest;
        first = p.here;
        same = cc (p.parts, i.same, j.first, j.same, append_assoc (records_of n i.sibling t) (records_all (n + nodes t) ts) j.rest);
        goes = rw a j.goes;
      }

begin_back : (t : Tree) (rs : List Entry) → begin 0 rs [] ≡ tells (walk t) End → rs ≡ records_of 0 0 t
begin_back t [] h = let e = (first_event t (finally End)).2 in cc
begin_back t (r ∷ rs) h =
    let i = read_back t 0 r rs [] (finally End) h in
    let k = finished (0 + nodes t) i.rest i.sibling i.goes in
    cc (i.same, k.0, k.1, append-nil (records_of 0 i.sibling t))

right_length : (b : Bool) (g k : Told) (e : Event) → cond b g (fault_at TableLength 0) ≡ e and k → (b ≡ true) × (g ≡ e and k)
right_length b g k e h = grind arith

-- only one link table tells the walk and then the end
link_table_back : (t : Tree) (bs : List ℕ) → TableOf t → Means link_table t bs → bs ≡ link_table_of t
link_table_back t bs f m =
    let e = first_event t (finally End) in
    let p = right_length (eqb (length bs % 8) 0 && leb (length bs) 64000) (begin 0 (records bs) []) e.1 e.0 (m.walked ∙ e.2) in
    let whole : length bs % 8 ≡ 0 = let t = p.0 in grind (arith, splits) in
    table_back t bs f.fit m.bytes whole (begin_back t (records bs) (p.1 ∙ sym e.2))

-- From the records to the walk.
abbrev read_next : ℕ → List Entry → List ℕ → Told
read_next n [] opened = fault_at BadLink n
read_next n (r ∷ rs) opened = reading n r opened (follow (n + 1) rs)

follow_next : (n : ℕ) (rs : List Entry) (opened : List ℕ) → 0 < n → follow n rs n opened ≡ read_next n rs opened
follow_next n rs opened h = grind (arith, splits)

mutual
  tree_forth : (t : Tree) (n s : ℕ) (rest : List Entry) (opened : List ℕ) → length opened + depth t ≤ 256
      → read_next n (records_of n s t ++ rest) opened ≡ ahead (walk t) (follow (n + nodes t) rest s opened)
  tree_forth (leaf b) n s rest opened d = refl
  tree_forth (node x ts) n s rest opened d =
      let a : n + 1 + nodes_all ts ≡ n + (1 + nodes_all ts) = omega arith in
      let i = children_forth ts (n + 1) s rest opened (omega arith) (omega arith) in
      rw (lt-ltb (length opened) 256 (omega arith), ahead_append (walk_all ts) (Leave ∷ []), ← a) (cc i)

  children_forth : (ts : Children) (n s : ℕ) (rest : List Entry) (opened : List ℕ) → 0 < n → length opened + 1 + depth_all ts ≤ 256
      → follow n (records_all n ts ++ rest) (first_link n ts) (s ∷ opened) ≡ ahead (walk_all ts) (Leave and follow (n + nodes_all ts) rest s opened)
  children_forth no_more n s rest opened h d = rw (add-zero n)
  children_forth (t then ts) n s rest opened h d =
      let a : n + nodes t + nodes_all ts ≡ n + (nodes t + nodes_all ts) = omega arith in
      let sibling = first_link (n + nodes t) ts in
      let more = records_all (n + nodes t) ts ++ rest in
      rw (append_assoc (records_of n sibling t) (records_all (n + nodes t) ts) rest, ahead_append (walk t) (walk_all ts), ← a)
      (follow_next n (records_of n sibling t ++ more) (s ∷ opened) h
      ∙ tree_forth t n sibling more (s ∷ opened) (omega arith)
      ∙ ap (ahead (walk t)) (children_forth ts (n + nodes t) s rest opened (omega arith) (omega arith)))

begin_next : (t : Tree) → begin 0 (records_of 0 0 t) [] ≡ read_next 0 (records_of 0 0 t) []
begin_next (leaf b) = refl
begin_next (node r ts) = refl

link_table_forth : (t : Tree) → TableOf t → nodes t ≤ 8000 → depth t ≤ 256 → link_table (link_table_of t) ≡ tells (walk t) End
link_table_forth t f few shallow =
    let l = f.size in
    let sized : (eqb (length (link_table_of t) % 8) 0 && leb (length (link_table_of t)) 64000) ≡ true = grind (arith, splits) in
    rw (sized, f.parts, begin_next t) (cc (append-nil (records_of 0 0 t), tree_forth t 0 0 [] [] (omega arith)))

pub link_table_as_written : LinkTableAsWritten
link_table_as_written t w =
    let f = table_of t w.in_range w.few_nodes in
    record {
      means = record { bytes = f.bytes; walked = link_table_forth t f w.few_nodes w.shallow };
      no_other = λ cs m. link_table_back t cs f m;
    }
