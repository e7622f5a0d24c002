-- A tree's own listing tells its walk, and a listing that tells the walk is the tree's own.
use Rattle.std.proofs.Common.{◌≡◌, ℕ, ◌+◌, ◌*◌, ◌/◌, ◌%◌, ◌<◌, ◌≤◌, Bool, cond, eqb, leb, List, [], ◌∷◌, ◌++◌, length, Some, None, decimal, Option, sym, refl, ap, ◌∙◌, append_assoc, arith, length-append}
use Rattle.std.proofs.ByRecursion.{All-append, All-weaker}
use Rattle.std.proofs.lemmas.Grind.{flat_map-append}
use Rattle.std.proofs.lemmas.Bool.{cond-true, cond_both, eqb-true, ne_eqb, le-leb}
use Rattle.std.proofs.lemmas.Bool.Decides.{nat_tests as splits}
use Rattle.std.specs.Int.{IsInRange}
use Rattle.std.specs.List.{AllByRecursion}
use Rattle.guide.specs.declared.Event.{Event}
use Rattle.guide.specs.declared.Event.TheVariants.{Enter, Byte, Leave}
use Rattle.guide.specs.declared.Defect.TheVariants.{ListingTooLong}
use Rattle.guide.specs.Listing.{Lines, unended, ended, longer, lines, rule_number, hex_byte, enters, reads, leaves, line_event, telling, from_lines, listing}
use Rattle.guide.specs.Told.{End, fault, Told, finally, tells, EventInRange}
use Rattle.tree.specs.Tree.{Tree, leaf, node, Children, no_more, ◌then◌, walk, walk_all}
use Rattle.forms.specs.Laws.{ListingAsWritten}
use Rattle.forms.specs.Writable.{nodes, nodes_all, ValuesInRange, AllValuesInRange}
use Rattle.forms.specs.Writing.{line_of, lines_of}
use Rattle.forms.proofs.Numbers.{AllDigits, rule_back, rule_forth, written_digits, byte_back, byte_forth, hex_plain}

-- From the events back to the bytes.
-- the bytes of lines
abbrev unlines : Lines → List ℕ
unlines (unended l) = l
unlines (ended l ls) = l ++ (10 ∷ unlines ls)

unlines_longer : (b : ℕ) (ls : Lines) → unlines (longer b ls) ≡ b ∷ unlines ls
unlines_longer b ls = grind arith

-- lines lose nothing
unlines_lines : (bs : List ℕ) → unlines (lines bs) ≡ bs
unlines_lines [] = refl
unlines_lines (b ∷ bs) = let h = unlines_lines bs in let k = unlines_longer b (lines bs) in grind (arith, splits)

enters_back : (o : Option ℕ) (e : Event) → enters o ≡ Some e → (r : ℕ) × (o ≡ Some r) × (Enter r ≡ e)
enters_back o e h = grind arith

reads_back : (o : Option ℕ) (e : Event) → reads o ≡ Some e → (b : ℕ) × (o ≡ Some b) × (Byte b ≡ e)
reads_back o e h = grind arith

leaves_back : (ds : List ℕ) (e : Event) → leaves ds ≡ Some e → (ds ≡ []) × (Leave ≡ e)
leaves_back ds e h = grind arith

-- only one line tells an event
line_back : (l : List ℕ) (e : Event) → line_event l ≡ Some e → l ≡ line_of e
line_back [] e h = cc
line_back (b ∷ ds) e h =
    cond_both (eqb b 40) (enters (rule_number ds)) _ Back
    (λ t h. let q = enters_back (rule_number ds) e h in cc (ap line_of q.2, rule_back ds q.0 q.1, eqb-true b 40 t))
    (λ _. cond_both (eqb b 61) (reads (hex_byte ds)) _ Back
    (λ t h. let q = reads_back (hex_byte ds) e h in cc (ap line_of q.2, byte_back ds q.0 q.1, eqb-true b 61 t))
    (λ _. cond_both (eqb b 41) (leaves ds) None Back (λ t h. let q = leaves_back ds e h in cc (ap line_of q.1, q.0, eqb-true b 41 t))
    (λ _ h. cc))) h
  where
    Back : Option Event → Type 0
    Back o = o ≡ Some e → b ∷ ds ≡ line_of e

fault_tells : (es : List Event) {f : _} → finally f ≡ tells es End → f ≡ End
fault_tells [] h = cc
fault_tells (e ∷ es) h = cc

telling_back : (o : Option Event) (at : ℕ) (g : Told) (es : List Event) → telling o at g ≡ tells es End
    → (e : Event) × (rest : List Event) × (es ≡ e ∷ rest) × (o ≡ Some e) × (g ≡ tells rest End)
telling_back None at g es h = cc (fault_tells es h)
telling_back (Some e) at g [] h = cc
telling_back (Some e) at g (x ∷ es) h = (x, es, refl, cc, cc)

lines_back : (at : ℕ) (ls : Lines) (es : List Event) → from_lines at ls ≡ tells es End → unlines ls ≡ lines_of es
lines_back at (unended []) [] h = refl
lines_back at (unended []) (e ∷ es) h = cc
lines_back at (unended (b ∷ l)) es h = cc (fault_tells es h)
lines_back at (ended l ls) es h =
    let p = telling_back (line_event l) at _ es h in
    let i = lines_back (at + (length l + 1)) ls p.1 p.4 in
    let k = line_back l p.0 p.3 in cc (ap lines_of p.2, i, k, append_assoc l (10 ∷ []) (unlines ls))

short_enough : (b : Bool) (g : Told) (es : List Event) → cond b g (finally (fault ListingTooLong 0)) ≡ tells es End → g ≡ tells es End
short_enough b g es h = grind (arith, fault_tells)

-- only one listing tells these events and then the end
listing_back : (bs : List ℕ) (es : List Event) → listing bs ≡ tells es End → bs ≡ lines_of es
listing_back bs es h = sym (unlines_lines bs) ∙ lines_back 0 (lines bs) es (short_enough (leb (length bs) 64000) (from_lines 0 (lines bs)) es h)

-- From the bytes to the events.
-- a byte of a line: it ends none
abbrev Plain : ℕ → Type 0
Plain b = (10 < b) × (b < 256)

digits_plain : (ds : List ℕ) → AllDigits ds → AllByRecursion Plain ds
digits_plain = All-weaker (IsInRange 48 57) Plain (λ d h. omega arith)

line_plain : (e : Event) → EventInRange e → AllByRecursion Plain (line_of e)
line_plain (Enter r) h = (omega arith, digits_plain (decimal r) (written_digits r h).digits)
line_plain (Byte b) h = (omega arith, (hex_plain (b / 16) (omega arith), (hex_plain (b % 16) (omega arith), tt)))
line_plain Leave h = omega arith

line_ended : (l bs : List ℕ) → AllByRecursion Plain l → lines ((l ++ (10 ∷ [])) ++ bs) ≡ ended l (lines bs)
line_ended [] bs h = refl
line_ended (b ∷ l) bs h =
    let k = h.0 in
    simp (ne_eqb b 10 (λ e. omega arith), line_ended l bs h.1)

line_forth : (e : Event) → EventInRange e → line_event (line_of e) ≡ Some e
line_forth e h = grind (arith, rule_forth, byte_forth)

lines_forth : (at : ℕ) (es : List Event) → AllByRecursion EventInRange es → from_lines at (lines (lines_of es)) ≡ tells es End
lines_forth at [] h = refl
lines_forth at (e ∷ es) h =
    let next = at + (length (line_of e) + 1) in
    cc (line_ended (line_of e) (lines_of es) (line_plain e h.0), line_forth e h.0, lines_forth next es h.1)

listing_forth : (es : List Event) → AllByRecursion EventInRange es → length (lines_of es) ≤ 64000 → listing (lines_of es) ≡ tells es End
listing_forth es h k = cond-true _ (from_lines 0 (lines (lines_of es))) _ (le-leb (length (lines_of es)) 64000 k) ∙ lines_forth 0 es h

mutual
  walk_in_range : (t : Tree) → ValuesInRange t → AllByRecursion EventInRange (walk t)
  walk_in_range (leaf b) h = (h, tt)
  walk_in_range (node r ts) h = (h.0, All-append EventInRange (walk_all ts) (Leave ∷ []) (walks_in_range ts h.1) (tt, tt))

  walks_in_range : (ts : Children) → AllValuesInRange ts → AllByRecursion EventInRange (walk_all ts)
  walks_in_range no_more h = tt
  walks_in_range (t then ts) h = All-append EventInRange (walk t) (walk_all ts) (walk_in_range t h.0) (walks_in_range ts h.1)

-- eight bytes a node suffice
mutual
  walk_short : (t : Tree) → ValuesInRange t → length (lines_of (walk t)) ≤ 8 * nodes t
  walk_short (leaf b) h = omega arith
  walk_short (node r ts) h =
      simp (flat_map-append, length-append) (omega (arith, walks_short ts h.1, (written_digits r h.0).few))

  walks_short : (ts : Children) → AllValuesInRange ts → length (lines_of (walk_all ts)) ≤ 8 * nodes_all ts
  walks_short no_more h = omega arith
  walks_short (t then ts) h = simp (flat_map-append, length-append) (omega (arith, walk_short t h.0, walks_short ts h.1))

lines_bytes : (es : List Event) → AllByRecursion EventInRange es → AllByRecursion (λ b. b < 256) (lines_of es)
lines_bytes [] h = tt
lines_bytes (e ∷ es) h =
    All-append (λ b. b < 256) (line_of e ++ (10 ∷ [])) (lines_of es)
    (All-append (λ b. b < 256) (line_of e) (10 ∷ []) (All-weaker Plain (λ b. b < 256) (λ b k. k.1) (line_of e) (line_plain e h.0)) (omega arith))
    (lines_bytes es h.1)

pub listing_as_written : ListingAsWritten
listing_as_written t w =
    let k = walk_in_range t w.in_range in
    let s = walk_short t w.in_range in
    let few = w.few_nodes in
    record {
      means = record { bytes = lines_bytes (walk t) k; walked = listing_forth (walk t) k (omega arith) };
      no_other = λ cs m. listing_back cs (walk t) m.walked;
    }
