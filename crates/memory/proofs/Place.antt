-- Placing a text: a loop that goes down the blocks and fills the unused ones.
use Rattle.std.proofs.Common.{◌≡◌, ℕ, zero, suc, ◌+◌, ◌-◌, ◌*◌, ◌<◌, ◌≤◌, min, Bool, true, false, cond, List, [], ◌∷◌, ◌++◌, length, get_or, take, drop, set, is_none, Some, None, Option, sym, refl, ap, ◌∙◌, inl, inr, arith, take-add}
use lib.Seq.{take-append-add}
use Rattle.std.proofs.Math.Seq.{drop-append_seam}
use Rattle.std.proofs.lemmas.List.{drop_all, drop-drop, length-append, length-take, length-drop, take_all, take_at, take-take, get_or-take, drop_more, drop-set, take-set, length-set}
use Rattle.std.proofs.lemmas.Bool.{eq-eqb, ne_eqb, cases_lt, both_ways}
use Rattle.memory.specs.Texts.{blocks_for}
use Rattle.memory.specs.Blocks.{is_owner, gathered, owned, unused, NoneUnusedFrom, IsLastUnused, Placed}
use Rattle.memory.proofs.Owners.{counts_alike, owned_more, unused_more, owner_of_none}

-- The first `done` bytes of the text are placed. While some are left, n's blocks are full and no other block here is unused.
pub record Placing (n : ℕ) (text : List ℕ) (done : ℕ) (os : List (Option ℕ)) (bs : List (List ℕ)) (os' : List (Option ℕ)) (bs' : List (List ℕ)) : Type 0 where
  pub within : done ≤ length text
  pub own : take done (gathered n os' bs') ≡ take done text
  pub long : length (gathered n os' bs') ≡ 64 * owned n os'
  pub count : owned n os' ≡ blocks_for done
  pub full : done < length text → (64 * owned n os' ≡ done) × (unused os' ≡ 0)
  pub taken : unused os' + owned n os' ≡ unused os
  pub others : (m : ℕ) → (m ≡ n → ⊥) → (gathered m os' bs' ≡ gathered m os bs) × (owned m os' ≡ owned m os)

pub placing_none : (n : ℕ) (text : List ℕ) → Placing n text 0 [] [] [] []
placing_none n text = record {
  within = omega arith;
  own = refl;
  long = refl;
  count = refl;
  full = λ _. (refl, refl);
  taken = refl;
  others = λ _ _. (refl, refl);
}

module _ (n : ℕ) (text : List ℕ) (done : ℕ) (os : List (Option ℕ)) (bs : List (List ℕ)) (os' : List (Option ℕ)) (bs' : List (List ℕ)) (p : Placing n text done os bs os' bs') where
  -- a block that is passed over
  placing_skip : (o : Option ℕ) (b : List ℕ) → is_owner n o ≡ false → (is_none o ≡ true → done ≡ length text)
      → Placing n text done (o ∷ os) (b ∷ bs) (o ∷ os') (b ∷ bs')
  placing_skip o b apart late =
      let g : gathered n (o ∷ os') (b ∷ bs') ≡ gathered n os' bs' = simp apart in
      let w = kept in
      record {
        within = p.within;
        own = ap (take done) g ∙ p.own;
        long = ap length g ∙ p.long ∙ ap (λ (x : ℕ). 64 * x) (sym w);
        count = w ∙ p.count;
        full = λ l. (omega (arith, w, (p.full l).0), used l ∙ (p.full l).1);
        taken = taken;
        others = λ m h. (
          ap (λ (x : List ℕ). cond (is_owner m o) (x ++ b) x) (p.others m h).0,
          let a = owned_more m o os in let a' = owned_more m o os' in let e = (p.others m h).1 in omega arith,
        );
      }
    where
      kept : owned n (o ∷ os') ≡ owned n os'
      kept = let a = owned_more n o os' in let e = counts_alike apart in omega arith

      used : done < length text → unused (o ∷ os') ≡ unused os'
      used l = unused_more o os' ∙ by (is_none o) refl
        where
          by : (b : Bool) → is_none o ≡ b → cond b 1 0 + unused os' ≡ unused os'
          by false e = omega arith
          by true e = let z = late e in absurd (omega arith)

      taken : unused (o ∷ os') + owned n (o ∷ os') ≡ unused (o ∷ os)
      taken = let a = unused_more o os in let a' = unused_more o os' in let w = kept in omega (arith, p.taken)

  -- an unused block that takes the next k bytes of the text
  module _ (b piece : List ℕ) (k : ℕ) (left : done < length text)
      (whole : length b ≡ 64) (room : k ≡ min (length text - done) 64) (copied : piece ≡ take k (drop done text)) where
    piece_length : length piece ≡ k
    piece_length = ap length copied ∙ simp (length-take, length-drop) (omega arith)

    filled : length (piece ++ drop k b) ≡ 64
    filled = let a = length-append piece (drop k b) in let c = length-drop k b in omega (arith, piece_length)

    mine : gathered n (Some n ∷ os') ((piece ++ drop k b) ∷ bs') ≡ gathered n os' bs' ++ (piece ++ drop k b)
    mine = simp (eq-eqb n n refl)

    more : owned n (Some n ∷ os') ≡ 1 + owned n os'
    more = let a = owned_more n (Some n) os' in let e = counts_alike (eq-eqb n n refl) in omega arith

    still : unused (Some n ∷ os') ≡ unused os'
    still = let a = unused_more (Some n) os' in omega arith

    own_front : take (done + k) (gathered n os' bs' ++ (piece ++ drop k b)) ≡ take (done + k) text
    own_front =
        let l : length (gathered n os' bs') ≡ done = p.long ∙ (p.full left).0 in
        let g : take done (gathered n os' bs') ≡ gathered n os' bs' = take_all done (gathered n os' bs') (omega arith) in
        let a = take-append-add (gathered n os' bs') (piece ++ drop k b) k in
        let t = take_at piece (drop k b) k piece_length in
        let f = take-add done k text in
        let o = p.own in
        cc

    placing_take : Placing n text (done + k) (None ∷ os) (b ∷ bs) (Some n ∷ os') ((piece ++ drop k b) ∷ bs')
    placing_take = record {
      within = omega arith;
      own = ap (take (done + k)) mine ∙ own_front;
      long = let a = length-append (gathered n os' bs') (piece ++ drop k b) in ap length mine ∙ omega (arith, p.long, filled, more);
      count = omega (arith, more, (p.full left).0);
      full = λ l. (omega (arith, more, (p.full left).0), still ∙ (p.full left).1);
      taken = let a = unused_more None os in omega (arith, more, still, p.taken);
      others = λ m h. (
        simp (ne_eqb n m (λ e. h (sym e))) (p.others m h).0,
        let a = owned_more m (Some n) os' in
            let b = owned_more m None os in
            let e = counts_alike (ne_eqb n m (λ e. h (sym e))) in
            let o = (p.others m h).1 in
            omega arith,
      );
    }

  -- at the end, where there was room
  room_for_all : blocks_for (length text) ≤ unused os → done ≡ length text
  room_for_all room =
      elim (cases_lt done (length text)) [
        | inl l ↦ let f = p.full l in let t = p.taken in absurd (omega arith)
        | inr l ↦ let w = p.within in omega arith
      ]

  pub placed : blocks_for (length text) ≤ unused os → Placed n text os bs os' bs'
  placed room =
      let e = room_for_all room in
      let t = take_all done text (omega arith) in
      record {
        own = rw e at (p.own ∙ t);
        count = p.count ∙ ap blocks_for e;
        taken = p.taken;
        others = p.others;
      }

-- what is so before j + 1 is so before j
module _ {X : Type 0} (xs ys : List X) (j : ℕ) (same : take (j + 1) xs ≡ take (j + 1) ys) where
  take_less : take j xs ≡ take j ys
  take_less = sym (take-take j (j + 1) xs (omega arith)) ∙ ap (take j) same ∙ take-take j (j + 1) ys (omega arith)

  at_less : (d : X) → get_or xs j d ≡ get_or ys j d
  at_less d = sym (get_or-take (j + 1) xs j d (omega arith)) ∙ ap (λ (l : List X). get_or l j d) same ∙ get_or-take (j + 1) ys j d (omega arith)

-- the blocks from i on are done with, and those before are as they were
abbrev pub Reached : ℕ → List ℕ → ℕ → ℕ → List (Option ℕ) → List (List ℕ) → List (Option ℕ) → List (List ℕ) → Type 0
Reached n text done i os bs os' bs' =
    (take i os' ≡ take i os) × (take i bs' ≡ take i bs) × Placing n text done (drop i os) (drop i bs) (drop i os') (drop i bs')

module _ (n : ℕ) (text : List ℕ) (os : List (Option ℕ)) (bs : List (List ℕ)) (os' : List (Option ℕ)) (bs' : List (List ℕ))
    (level : length os ≡ length bs) (same_os : length os' ≡ length os) (same_bs : length bs' ≡ length bs) where
  module _ (done j : ℕ) (within : j < length os) (r : Reached n text done (j + 1) os bs os' bs') where
    reached_skip : is_owner n (get_or os' j None) ≡ false → (is_none (get_or os' j None) ≡ true → done ≡ length text) → Reached n text done j os bs os' bs'
    reached_skip apart late =
        let o = at_less os' os j r.0 None in
        let b = at_less bs' bs j r.1 [] in
        let s = placing_skip n text done (drop (j + 1) os) (drop (j + 1) bs) (drop (j + 1) os') (drop (j + 1) bs') r.2 (get_or os' j None) (get_or bs' j []) apart late in (
          take_less os' os j r.0,
          take_less bs' bs j r.1,
          rw (drop_more os j None within, drop_more bs j [] (omega arith), drop_more os' j None (omega arith), drop_more bs' j [] (omega arith), ← o, ← b) s,
        )

    reached_take : (piece : List ℕ) (k : ℕ) → get_or os' j None ≡ None → done < length text → length (get_or bs' j []) ≡ 64
        → k ≡ min (length text - done) 64 → piece ≡ take k (drop done text)
        → Reached n text (done + k) j os bs (set os' j (Some n)) (set bs' j (piece ++ drop k (get_or bs' j [])))
    reached_take piece k none left whole room copied =
        let o : get_or os j None ≡ None = sym (at_less os' os j r.0 None) ∙ none in
        let b = at_less bs' bs j r.1 [] in
        let y = piece ++ drop k (get_or bs' j []) in
        let s = placing_take n text done (drop (j + 1) os) (drop (j + 1) bs) (drop (j + 1) os') (drop (j + 1) bs') r.2 (get_or bs' j []) piece k left whole room copied in (
          take-set os' j (Some n) ∙ take_less os' os j r.0,
          take-set bs' j y ∙ take_less bs' bs j r.1,
          rw (drop_more os j None within, o, drop_more bs j [] (omega arith), ← b, drop-set os' j (Some n) (omega arith), drop-set bs' j y (omega arith)) s,
        )

  -- the blocks from j on are passed over: while some of the text is left, none of them is unused
  reached_down : owned n os ≡ 0 → (done i j d : ℕ) → i ≡ j + d → i ≤ length os
      → ((k : ℕ) → j ≤ k → k < i → is_none (get_or os' k None) ≡ true → done ≡ length text)
      → Reached n text done i os bs os' bs' → Reached n text done j os bs os' bs'
  reached_down absent done i j zero e within late r = let z : i ≡ j = omega arith in rw z at r
  reached_down absent done i j (suc d) e within late r =
      let z : i ≡ j + d + 1 = omega arith in
      let at_next = rw z at r in
      let apart = ap (is_owner n) (at_less os' os (j + d) at_next.0 None) ∙ owner_of_none n os absent (j + d) (omega arith) in
      let s = reached_skip done (j + d) (omega arith) at_next apart (late (j + d) (omega arith) (omega arith)) in
      reached_down absent done (j + d) j d refl (omega arith) (λ k p q. late k p (omega arith)) s

-- the text's bytes but for the rest are placed in blocks from the end on
pub record SoFar (n : ℕ) (text rest : List ℕ) (end : ℕ) (os : List (Option ℕ)) (bs : List (List ℕ)) (os' : List (Option ℕ)) (bs' : List (List ℕ)) : Type 0 where
  pub done : ℕ
  pub rest_is : rest ≡ drop done text
  pub within : end ≤ length os'
  pub reached : Reached n text done end os bs os' bs'

pub so_far_none : (n : ℕ) (text : List ℕ) (os : List (Option ℕ)) (bs : List (List ℕ)) → length os ≡ length bs → SoFar n text text (length os) os bs os bs
so_far_none n text os bs level =
    let o = drop_all (length os) os (omega arith) in
    let b = drop_all (length os) bs (omega arith) in
    record { done = 0; rest_is = refl; within = omega arith; reached = (refl, refl, simp (o, b) (placing_none n text)) }

module _ (n : ℕ) (text rest : List ℕ) (end : ℕ) (os : List (Option ℕ)) (bs : List (List ℕ)) (os' : List (Option ℕ)) (bs' : List (List ℕ))
    (level : length os ≡ length bs) (same_os : length os' ≡ length os) (same_bs : length bs' ≡ length bs) (absent : owned n os ≡ 0)
    (h : SoFar n text rest end os bs os' bs') where
  rest_length : length rest ≡ length text - h.done
  rest_length = ap length h.rest_is ∙ length-drop h.done text

  -- the next piece goes to the last unused block
  pub so_far_more : (piece rest' : List ℕ) → rest ≡ piece ++ rest' → length piece ≡ min 64 (length rest) → 0 < length rest → (last : ℕ) → IsLastUnused (take end os') (Some last)
      → ((i : ℕ) → i < length bs → length (get_or bs i []) ≡ 64)
      → SoFar n text rest' last os bs (set os' last (Some n)) (set bs' last (piece ++ drop (length piece) (get_or bs' last [])))
  so_far_more piece rest' cut full some last found wholes =
      let l = length-take end os' in
      let low : last < end = omega arith in
      let used : (k : ℕ) → last + 1 ≤ k → k < end → is_none (get_or os' k None) ≡ true → h.done ≡ length text
      = λ k p q e. absurd (both_ways (is_none (get_or os' k None)) (ap (λ (o : Option ℕ). is_none o) (sym (get_or-take end os' k None q)) ∙ found.2 k p (omega (arith, h.within))) e) in
      let r = reached_down n text os bs os' bs' level same_os same_bs absent h.done end (last + 1) (end - (last + 1)) (omega arith) (omega (arith, h.within)) used h.reached in
      let whole = ap length (at_less bs' bs last r.1 []) ∙ wholes last (omega (arith, h.within)) in
      let whole_rest = sym h.rest_is ∙ cut in
      let piece_is : piece ≡ take (length piece) (drop h.done text) = sym (ap (take (length piece)) whole_rest ∙ take_at piece rest' (length piece) refl) in
      record {
        done = h.done + length piece;
        rest_is = sym (sym (drop-drop (length piece) h.done text) ∙ ap (drop (length piece)) whole_rest ∙ drop-append_seam piece rest');
        within = omega (arith, length-set os' last (Some n), h.within);
        reached = reached_take n text os bs os' bs' level same_os same_bs h.done last (omega (arith, h.within)) r piece (length piece)
            (sym (get_or-take end os' last None low) ∙ found.1) (omega (arith, rest_length)) whole (omega (arith, rest_length)) piece_is;
      }

  -- where no block before the end is unused, or all of the text is placed
  pub so_far_all : ((k : ℕ) → k < end → is_none (get_or os' k None) ≡ true → h.done ≡ length text) → blocks_for (length text) ≤ unused os → Placed n text os bs os' bs'
  so_far_all late room =
      let r = reached_down n text os bs os' bs' level same_os same_bs absent h.done end 0 end (omega arith) (omega (arith, h.within)) (λ k p. late k) h.reached in
      placed n text h.done os bs os' bs' r.2 room

  -- no block before the end is unused
  pub so_far_full : NoneUnusedFrom 0 (take end os') → blocks_for (length text) ≤ unused os → Placed n text os bs os' bs'
  so_far_full full =
      so_far_all (λ k p e. absurd (both_ways (is_none (get_or os' k None)) (ap (λ (o : Option ℕ). is_none o) (sym (get_or-take end os' k None p))
      ∙ full k (omega arith) (let l = length-take end os' in omega (arith, h.within))) e))

  -- nothing of the text is left
  pub so_far_whole : length rest ≡ 0 → blocks_for (length text) ≤ unused os → Placed n text os bs os' bs'
  so_far_whole none = so_far_all (λ _ _ _. let l = rest_length in omega (arith, h.reached.2.within))
