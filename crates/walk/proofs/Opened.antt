-- The rows of the open nodes, as the frames are pushed, advanced and popped.
use Rattle.std.proofs.Common.{not, ◌==◌, ◌≡◌, ℕ, zero, suc, ◌+◌, ◌<◌, ◌≤◌, min, Bool, true, false, ltb, ltb-true, ◌⊎◌, List, [], ◌∷◌, length, get_or, drop, is_some, IfSome, Some, None, Ok, Err, Option, Result, sym, refl, ap, ◌∙◌, add-one, arith, length-set, drop-cons}
use Rattle.std.specs.Borrow.{Bor}
use Rattle.std.specs.Option.{option_eq, option_map}
use Rattle.std.specs.Result.{result_or}
use Rattle.std.specs.List.{slice_get}
use Rattle.std.proofs.lemmas.Bool.Decides.{nat_tests}
use Rattle.std.proofs.lemmas.Bool.{eqb-true}
use Rattle.guide.specs.declared.stack.Full.{Full}
use Rattle.guide.specs.Stack.{held, newest, Pushed, Popped}
use Rattle.guide.proofs.Stacks.{held_capped}
use Rattle.grammar.specs.declared.Part.{Part}
use Rattle.grammar.specs.declared.Part.TheVariants.{Symbol}
use Rattle.grammar.specs.Meaning.{Meaning, Bounded, allows, left_of, part_of}
use Rattle.tree.specs.declared.verdict.Reason.{Reason}
use Rattle.tree.specs.declared.verdict.Reason.TheVariants.{NotAwaited, TooDeep}
use Rattle.tree.specs.Verdict.{refused}
use Rattle.tree.specs.Check.{State, going, no, entered, read, left, on_enter, on_byte, on_leave, at_end}
use Rattle.walk.specs.declared.state.Frame.{Frame}
use Rattle.walk.specs.Rows.{parts_of, row, rows, all_rows, first_row, other_rows, advanced, NextFits}

-- two constructors were equal
never {ℓ} : {A : Type ℓ} → ◌≡◌ {A = ℕ} 0 1 → A
never z = absurd (omega arith)

-- Frames.
-- the newest frame is put back advanced, as pop and push do it
pub put_back : (fs fs' : List Frame) (depth n n' : ℕ) (f x : Frame) (r : Result Unit Full) → n + 1 ≡ min depth (length fs) → held fs depth ≡ f ∷ held fs n
    → Pushed fs n x r fs' n' → held fs' depth ≡ x ∷ held fs n
put_back fs fs' depth n n' f x (Ok done) m h (lt, is, len, p) =
    let l : length fs' ≡ length fs = ap length is ∙ length-set fs n x in
    let e : min depth (length fs') ≡ n' = omega arith in
    held_capped fs' depth ∙ ap (held fs') e ∙ p
put_back fs fs' depth n n' f x (Err full) m h (le, is, len) = absurd (omega arith)

-- Rows.
first_drop : (ps : List Part) (k : ℕ) → newest (drop k ps) ≡ slice_get ps k
first_drop ps zero = grind arith
first_drop [] (suc k) = refl
first_drop (p ∷ ps) (suc k) = first_drop ps k

row_first : (g : Meaning) (f : Frame) → newest (row g f) ≡ part_of (g.rule f.rule) f.next
row_first g f = grind (arith, first_drop)

pub awaited_inside : (g : Meaning) (n : ℕ) (fs : List Frame) (f : Frame) → (n ≡ 0 → ⊥) → Some f ≡ newest fs
    → newest (first_row (all_rows g n fs)) ≡ part_of (g.rule f.rule) f.next
awaited_inside g n fs f ne e = grind (arith, row_first g f)

-- the parts behind the first
abbrev pub rest : List Part → List Part
rest [] = []
rest (p ∷ ps) = ps

rest_drop : (ps : List Part) (k : ℕ) → rest (drop k ps) ≡ drop (k + 1) ps
rest_drop ps k = rw add-one (go ps k)
  where
    go : (ps : List Part) (k : ℕ) → rest (drop k ps) ≡ drop (suc k) ps
    go [] zero = refl
    go [] (suc k) = refl
    go (p ∷ ps) zero = refl
    go (p ∷ ps) (suc k) = go ps k

-- the part that was awaited is behind
pub rows_advanced : (g : Meaning) (n : ℕ) (fs : List Frame) (p : Part) → (n ≡ 0 → fs ≡ []) → Some p ≡ newest (first_row (all_rows g n fs))
    → rows g (advanced fs) ≡ rest (first_row (all_rows g n fs)) ∷ other_rows (all_rows g n fs)
rows_advanced g n fs p none e = grind (arith, rest_drop)

pub older_length : (g : Meaning) (n : ℕ) (fs : List Frame) → (n ≡ 0 → fs ≡ []) → length (other_rows (all_rows g n fs)) ≡ length fs
older_length g zero fs none = sym (ap length (none refl))
older_length g (suc n) fs none = go fs
  where
    go : (fs : List Frame) → length (other_rows (rows g fs)) ≡ length fs
    go [] = refl
    go (f ∷ []) = refl
    go (f ∷ (f' ∷ fs)) = ap suc (go (f' ∷ fs))

-- once a rule is entered
pub rows_inside : (g : Meaning) (n : ℕ) (fs : List Frame) → (n ≡ 0 → ⊥) → all_rows g n fs ≡ rows g fs
rows_inside g n fs ne = grind arith

pub leaf_inside : (g : Meaning) (n : ℕ) (fs : List Frame) (p : Part) (b : ℕ) → Some p ≡ newest (first_row (all_rows g n fs)) → true ≡ allows p b
    → n ≡ 0 → ⊥
leaf_inside g n fs p b e ok h = grind arith

-- the number of a part that is there is below 255
few_parts : (g : Meaning) (r : ℕ) → Bounded g → length (parts_of (g.rule r)) ≤ 255
few_parts g r b = let h = b.each_rule r in grind arith

part_below : (ps : List Part) (k : ℕ) (p : Part) → Some p ≡ newest (drop k ps) → k < length ps
part_below [] zero p e = never cc
part_below [] (suc k) p e = never cc
part_below (x ∷ ps) zero p e = omega arith
part_below (x ∷ ps) (suc k) p e = let h = part_below ps k p e in omega arith

pub next_fits : (g : Meaning) (n : ℕ) (fs : List Frame) (p : Part) → Bounded g → (n ≡ 0 → fs ≡ []) → Some p ≡ newest (first_row (all_rows g n fs))
    → NextFits fs
next_fits g n fs p b none e = grind (arith, part_below, few_parts)

-- An enter of a rule whose left symbol is awaited.
pub was_pushed : (fs fs' : List Frame) (n n' : ℕ) (x : Frame) (r : Result Unit Full) (u : Unit) → Ok u ≡ result_or r (Err TooDeep)
    → Pushed fs n x r fs' n' → (n < length fs) × (held fs' n' ≡ x ∷ held fs n)
was_pushed fs fs' n n' x r u e h = grind arith

pub was_full : (fs fs' : List Frame) (n n' : ℕ) (x : Frame) (r : Result Unit Full) (why : Reason) → Err why ≡ result_or r (Err TooDeep)
    → Pushed fs n x r fs' n' → (why ≡ TooDeep) × (length fs ≤ n)
was_full fs fs' n n' x r why e h = grind arith

module _ (g : Meaning) (D : ℕ) (s : State) (r a l : ℕ) (ps : List Part) (p : Part) (o : Option ℕ) (e : Some p ≡ newest ps) (symbol : p ≡ Symbol a)
    (found : o ≡ Some l) (left : o ≡ left_of (g.rule r)) (same : l ≡ a) where
  pub enter_deep : D ≤ length s.older → no TooDeep s ≡ on_enter g D s r ps
  enter_deep h = grind (arith, nat_tests)

  pub enter_on : length s.older < D → going (entered s (rest ps) (parts_of (g.rule r))) ≡ on_enter g D s r ps
  enter_on h = grind (arith, nat_tests)

-- A byte that is awaited.
-- the next byte of the text is b
pub next_is : (text : List ℕ) (k : ℕ) (o : Option (Bor ℕ)) (b : Bor ℕ) → is_some o ≡ ltb k (length text)
    → IfSome o (λ x. x.now ≡ get_or text k x.now) → false ≡ not (option_eq (λ x y. x.now == y.now) o (Some b))
    → drop k text ≡ b.now ∷ drop (k + 1) text
next_is text k None b l h e = never cc
next_is text k (Some x) b l h e =
    let lt : k < length text = ltb-true _ _ (sym l) in
    let q : x.now ≡ b.now = eqb-true x.now b.now (same _ e) in
    drop-cons text k x.now lt ∙ rw (← h, q, add-one) refl
  where
    same : (q : Bool) → false ≡ not q → q ≡ true
    same true h = refl
    same false h = never cc

module _ (s : State) (b : ℕ) (p : Part) (ps : List Part) (e : Some p ≡ newest ps) (ok : true ≡ allows p b) where
  pub byte_on : (text : List ℕ) → s.text ≡ b ∷ text → going (read s (rest ps) text) ≡ on_byte s b ps
  byte_on text h = grind (arith, nat_tests)

-- A leave, and the end.
-- what a successful pop leaves
pub popped : (fs : List Frame) (n n' : ℕ) (o : Option Frame) → is_some o ≡ true → Popped fs n o n' → (f : Frame) × (held fs n ≡ f ∷ held fs n')
popped fs n n' o e h = grind arith

rows_apart : (g : Meaning) (fs : List Frame) → first_row (rows g fs) ∷ other_rows (rows g fs) ≡ rows g fs
rows_apart g [] = refl
rows_apart g (f ∷ fs) = refl

pub leave_on : (g : Meaning) (n : ℕ) (s : State) (fs : List Frame) (f : Frame) (older : List Frame) → fs ≡ f ∷ older
    → false ≡ is_some (newest (first_row (all_rows g n fs)))
    → going (left s (first_row (all_rows g n older)) (other_rows (all_rows g n older))) ≡ on_leave s (first_row (all_rows g n fs)) (other_rows (all_rows g n fs))
leave_on g n s fs f older h e = grind (arith, rows_apart g older)

pub is_mapped : {A B : Type 0} (f : A → B) (o : Option A) → is_some (option_map f o) ≡ is_some o
is_mapped f o = grind arith

module _ (g : Meaning) (n : ℕ) (s : State) where
  pub end_early : (fs : List Frame) (text : List ℕ) → (n ≡ 0) ⊎ (is_some (newest fs) ≡ true)
      → refused NotAwaited s.events s.bytes ≡ at_end s (first_row (all_rows g n fs)) (other_rows (all_rows g n fs)) text
  end_early [] text h = grind arith
  end_early (f ∷ fs) text h = grind (arith, rows_apart g fs)

  pub end_awaited : (fs : List Frame) (text : List ℕ) → (n ≡ 0 → ⊥) → is_some (newest fs) ≡ false
      → at_end s [] [] text ≡ at_end s (first_row (all_rows g n fs)) (other_rows (all_rows g n fs)) text
  end_awaited fs text ne h = grind arith
