-- The records of a tree, and the bytes that they are read from.
use Rattle.std.proofs.Common.{◌≡◌, ℕ, ◌+◌, ◌*◌, ◌/◌, ◌%◌, ◌<◌, ◌≤◌, ◌&&◌, eqb, leb, List, [], ◌∷◌, ◌++◌, length, Ok, Err, sym, refl, ap, ◌∙◌, subst, arith, length-append}
use Rattle.std.proofs.ByRecursion.{All-append}
use Rattle.std.proofs.lemmas.Bool.{cond_both, le-leb}
use Rattle.std.proofs.lemmas.Bool.Decides.{nat_tests as splits}
use Rattle.std.proofs.lemmas.Grind.{flat_map-append}
use Rattle.std.proofs.lemmas.List.{nil_from_length}
use Rattle.std.specs.List.{AllByRecursion, flat_map}
use Rattle.guide.specs.declared.Defect.TheVariants.{BadRecord}
use Rattle.guide.specs.declared.records.Record.TheVariants.{Rule, Leaf}
use Rattle.guide.specs.LinkTable.{Entry, field, record_of, records}
use Rattle.guide.specs.LinkTableBounds.{by_records}
use Rattle.tree.specs.Tree.{Tree, leaf, node, Children, no_more, ◌then◌}
use Rattle.forms.specs.Writable.{nodes, nodes_all, ValuesInRange, AllValuesInRange}
use Rattle.forms.specs.Writing.{record_bytes, first_link, tree_bytes, children_bytes, link_table_of}

-- the records that stand in a tree's bytes
abbrev mutual
  pub records_of : ℕ → ℕ → Tree → List Entry
  records_of n sibling (leaf b) = Ok (Leaf b sibling) ∷ []
  records_of n sibling (node r ts) = Ok (Rule r (first_link (n + 1) ts) sibling) ∷ records_all (n + 1) ts

  pub records_all : ℕ → Children → List Entry
  records_all n no_more = []
  records_all n (t then ts) = records_of n (first_link (n + nodes t) ts) t ++ records_all (n + nodes t) ts

abbrev bytes_of : Entry → List ℕ
bytes_of (Ok (Rule v c s)) = record_bytes 1 v c s
bytes_of (Ok (Leaf b s)) = record_bytes 2 b 0 s
bytes_of (Err d) = []

abbrev bytes_all : List Entry → List ℕ
bytes_all = flat_map bytes_of

mutual
  tree_is_its_records : (t : Tree) (n s : ℕ) → tree_bytes n s t ≡ bytes_all (records_of n s t)
  tree_is_its_records (leaf b) n s = refl
  tree_is_its_records (node r ts) n s = cc (children_are_their_records ts (n + 1))

  children_are_their_records : (ts : Children) (n : ℕ) → children_bytes n ts ≡ bytes_all (records_all n ts)
  children_are_their_records no_more n = refl
  children_are_their_records (t then ts) n =
      let h = tree_is_its_records t n (first_link (n + nodes t) ts) in
      let k = children_are_their_records ts (n + nodes t) in
      rw (h, k) (sym (flat_map-append bytes_of (records_of n (first_link (n + nodes t) ts) t) (records_all (n + nodes t) ts)))

-- A record whose fields have room in its bytes.
abbrev Fits : Entry → Type 0
Fits (Ok (Rule v c s)) = (v ≤ 9999) × (c < 65536) × (s < 65536)
Fits (Ok (Leaf b s)) = (b < 256) × (s < 65536)
Fits (Err d) = ⊥

link_fits : (n : ℕ) (ts : Children) → n + nodes_all ts ≤ 8000 → first_link n ts < 65536
link_fits n ts h = grind arith

mutual
  records_fit : (t : Tree) (n s : ℕ) → ValuesInRange t → s < 65536 → n + nodes t ≤ 8000 → AllByRecursion Fits (records_of n s t)
  records_fit (leaf b) n s i h k = ((i, h), tt)
  records_fit (node r ts) n s i h k = ((i.0, link_fits (n + 1) ts (omega arith), h), all_fit ts (n + 1) i.1 (omega arith))

  all_fit : (ts : Children) (n : ℕ) → AllValuesInRange ts → n + nodes_all ts ≤ 8000 → AllByRecursion Fits (records_all n ts)
  all_fit no_more n i k = tt
  all_fit (t then ts) n i k =
      let s = first_link (n + nodes t) ts in
      All-append Fits (records_of n s t) (records_all (n + nodes t) ts)
      (records_fit t n s i.0 (link_fits (n + nodes t) ts (omega arith)) (omega arith)) (all_fit ts (n + nodes t) i.1 (omega arith))

-- From the records back to the bytes.
field_back : (h l : ℕ) → l < 256 → (h ≡ field h l / 256) × (l ≡ field h l % 256)
field_back h l k = omega arith

eight_back : (k v1 v0 c1 c0 s1 s0 : ℕ) → v0 < 256 → c0 < 256 → s0 < 256
    → k ∷ 0 ∷ v1 ∷ v0 ∷ c1 ∷ c0 ∷ s1 ∷ s0 ∷ [] ≡ record_bytes k (field v1 v0) (field c1 c0) (field s1 s0)
eight_back k v1 v0 c1 c0 s1 s0 hv hc hs =
    let v = field_back v1 v0 hv in
    let c = field_back c1 c0 hc in
    let s = field_back s1 s0 hs in cc (v.0, v.1, c.0, c.1, s.0, s.1)

record_in_form : (k z v c s : ℕ) (r : Entry) → Fits r → record_of k z v c s ≡ r → (z ≡ 0) × (record_bytes k v c s ≡ bytes_of r)
record_in_form k z v c s r f h =
    cond_both (eqb k 1 && (eqb z 0 && leb v 9999)) (Ok (Rule v c s)) _ InForm
    (λ t e. let ek : k ≡ 1 = grind (arith, splits) in (grind (arith, splits), cc))
    (λ _. cond_both (eqb k 2 && (eqb z 0 && (leb v 255 && eqb c 0))) (Ok (Leaf v s)) (Err BadRecord) InForm
    (λ t e. let ek : k ≡ 2 = grind (arith, splits) in let ec : c ≡ 0 = grind (arith, splits) in (grind (arith, splits), cc))
    (λ _ e. absurd (subst Fits (sym e) f))) h
  where
    InForm : Entry → Type 0
    InForm x = x ≡ r → (z ≡ 0) × (record_bytes k v c s ≡ bytes_of r)

abbrev Bytes : List ℕ → Type 0
Bytes bs = AllByRecursion (λ b. b < 256) bs

-- whole records are read back to the bytes
abbrev ReadBack : List ℕ → Type 0
ReadBack bs = (rs : List Entry) → AllByRecursion Fits rs → Bytes bs → length bs % 8 ≡ 0 → records bs ≡ rs → bs ≡ bytes_all rs

one_back : (k z v1 v0 c1 c0 s1 s0 : ℕ) (bs : List ℕ) → ReadBack bs → ReadBack (k ∷ z ∷ v1 ∷ v0 ∷ c1 ∷ c0 ∷ s1 ∷ s0 ∷ bs)
one_back k z v1 v0 c1 c0 s1 s0 bs i [] f w l h = cc
one_back k z v1 v0 c1 c0 s1 s0 bs i (r ∷ rs) (fit, fits) (_, (_, (_, (hv, (_, (hc, (_, (hs, w)))))))) l h =
    let q = record_in_form k z (field v1 v0) (field c1 c0) (field s1 s0) r fit cc in
    let e = eight_back k v1 v0 c1 c0 s1 s0 hv hc hs in
    let rest = i rs fits w (omega arith) cc in
    rw (q.0, ← rest) (ap (λ x. x ++ bs) (e ∙ q.1))

records_back : (bs : List ℕ) → ReadBack bs
records_back = by_records ReadBack (λ bs short e rs f w l h. nil_from_length bs (omega arith) ∙ ap bytes_all (sym e ∙ h)) one_back

pub table_back : (t : Tree) (bs : List ℕ) → AllByRecursion Fits (records_of 0 0 t) → Bytes bs → length bs % 8 ≡ 0 → records bs ≡ records_of 0 0 t
    → bs ≡ link_table_of t
table_back t bs f w l h = records_back bs (records_of 0 0 t) f w l h ∙ sym (tree_is_its_records t 0 0)

-- From the bytes to the records.
field_forth : (v : ℕ) → field (v / 256) (v % 256) ≡ v
field_forth v = omega arith

record_forth : (r : Entry) (bs : List ℕ) → Fits r → records (bytes_of r ++ bs) ≡ r ∷ records bs
record_forth (Ok (Rule v c s)) bs f = simp (field_forth v, field_forth c, field_forth s, le-leb v 9999 f.0)
record_forth (Ok (Leaf b s)) bs f = simp (field_forth b, field_forth s, le-leb b 255 (let k = f.0 in omega arith))
record_forth (Err d) bs f = absurd f

records_forth : (rs : List Entry) → AllByRecursion Fits rs → records (bytes_all rs) ≡ rs
records_forth [] f = refl
records_forth (r ∷ rs) f = cc (record_forth r (bytes_all rs) f.0, records_forth rs f.1)

record_has_bytes : (k v c s : ℕ) → k < 256 → v < 65536 → c < 65536 → s < 65536 → Bytes (record_bytes k v c s)
record_has_bytes k v c s hk hv hc hs = omega arith

one_bytes : (r : Entry) → Fits r → Bytes (bytes_of r)
one_bytes (Ok (Rule v c s)) f = omega arith
one_bytes (Ok (Leaf b s)) f = omega arith
one_bytes (Err d) f = absurd f

records_have_bytes : (rs : List Entry) → AllByRecursion Fits rs → Bytes (bytes_all rs)
records_have_bytes [] f = tt
records_have_bytes (r ∷ rs) f = All-append (λ b. b < 256) (bytes_of r) (bytes_all rs) (one_bytes r f.0) (records_have_bytes rs f.1)

one_length : (r : Entry) → Fits r → length (bytes_of r) ≡ 8
one_length r f = grind arith

all_length : (rs : List Entry) → AllByRecursion Fits rs → length (bytes_all rs) ≡ 8 * length rs
all_length [] f = refl
all_length (r ∷ rs) f =
    let h = one_length r f.0 in let k = all_length rs f.1 in length-append (bytes_of r) (bytes_all rs) ∙ omega arith

mutual
  records_length : (t : Tree) (n s : ℕ) → length (records_of n s t) ≡ nodes t
  records_length (leaf b) n s = refl
  records_length (node r ts) n s = let h = children_length ts (n + 1) in omega arith

  children_length : (ts : Children) (n : ℕ) → length (records_all n ts) ≡ nodes_all ts
  children_length no_more n = refl
  children_length (t then ts) n =
      let s = first_link (n + nodes t) ts in
      let h = records_length t n s in
      let k = children_length ts (n + nodes t) in length-append (records_of n s t) (records_all (n + nodes t) ts) ∙ omega arith

pub record TableOf (t : Tree) : Type 0 where
  pub fit : AllByRecursion Fits (records_of 0 0 t)
  pub bytes : Bytes (link_table_of t)
  pub size : length (link_table_of t) ≡ 8 * nodes t
  pub parts : records (link_table_of t) ≡ records_of 0 0 t

-- a tree's link table is bytes, eight for each node, that hold its records
pub table_of : (t : Tree) → ValuesInRange t → nodes t ≤ 8000 → TableOf t
table_of t i few =
    let f = records_fit t 0 0 i (omega arith) (omega arith) in
    let e = tree_is_its_records t 0 0 in
    record {
      fit = f;
      bytes = rw e (records_have_bytes (records_of 0 0 t) f);
      size = ap length e ∙ all_length (records_of 0 0 t) f ∙ ap (λ (n : ℕ). 8 * n) (records_length t 0 0);
      parts = ap records e ∙ records_forth (records_of 0 0 t) f;
    }
