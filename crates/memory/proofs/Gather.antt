-- Gathering a text: a loop that goes down the blocks and copies the pieces that it meets.
use Rattle.std.proofs.Common.{◌≡◌, ℕ, ◌+◌, ◌-◌, ◌<◌, ◌≤◌, min, cond, true, false, List, [], ◌∷◌, ◌++◌, length, get_or, take, drop, None, Option, sym, refl, ap, ◌∙◌, inl, inr, append-nil, arith, rules}
use borrow.Rule.Slice.PartMut.{put_mid}
use lib.Seq.{take-append-add}
use Rattle.std.specs.List.{push}
use Rattle.std.proofs.lemmas.List.{drop_more, length-append, length-take, take-append-le, take_all, take_at, take-take, get_or-take, get_or_push, length_push, places}
use Rattle.std.proofs.lemmas.Slice.{take-put_mid}
use Rattle.std.proofs.lemmas.Bool.{cases_eq}
use Rattle.memory.specs.Blocks.{is_owner, gathered}

-- the block j and those behind it
gathered_more : (n : ℕ) (os : List (Option ℕ)) (bs : List (List ℕ)) (j : ℕ) → j < length os → j < length bs
    → gathered n (drop j os) (drop j bs)
    ≡ cond (is_owner n (get_or os j None)) (gathered n (drop (j + 1) os) (drop (j + 1) bs) ++ get_or bs j []) (gathered n (drop (j + 1) os) (drop (j + 1) bs))
gathered_more n os bs j h k = rw (drop_more os j None h, drop_more bs j [] k)

-- x is the last of those that are left
module _ {X : Type 0} (all left : List X) (x d : X) (same : push left x ≡ take (length (push left x)) all) (within : length (push left x) ≤ length all) where
  pub last_left : get_or all (length left) d ≡ x
  last_left =
      let l = length_push left x in
      sym (get_or-take (length (push left x)) all (length left) d (omega arith)) ∙ ap (λ (xs : List X). get_or xs (length left) d) (sym same)
      ∙ get_or_push left x d (length left) refl

  pub others_left : left ≡ take (length left) all
  others_left =
      let l = length_push left x in
      sym (take_at left (x ∷ []) (length left) refl) ∙ ap (take (length left)) same ∙ take-take (length left) (length (push left x)) all (omega arith)

-- The bytes d are copied, as far as the buffer goes; then k bytes of the block b, the piece, are written behind them.
module _ (buffer d b piece : List ℕ) (done k : ℕ)
    (there : done ≡ min (length buffer) (length d)) (front : take done buffer ≡ take done d)
    (whole : length b ≡ 64) (room : k ≡ min (length buffer - done) 64) (copied : piece ≡ take k b) where
  piece_length : length piece ≡ k
  piece_length = ap length copied ∙ simp length-take (omega arith)

  same_length : length (put_mid done k buffer piece) ≡ length buffer
  same_length = let y = piece_length in search (rules, places)

  pub copied_length : done + k ≡ min (length (put_mid done k buffer piece)) (length (d ++ b))
  copied_length = let a = length-append d b in omega (arith, same_length)

  written : take (done + k) (put_mid done k buffer piece) ≡ take done d ++ take k b
  written =
      let p = take-put_mid done k buffer piece (done + k) (omega (arith, piece_length)) (omega arith) in
      cc

  wanted : take (done + k) (d ++ b) ≡ take done d ++ take k b
  wanted =
      elim (cases_eq done (length d)) [
        | inl e ↦ let a = take-append-add d b k in let t = take_all done d (omega arith) in cc
        | inr ne ↦
            let z : k ≡ 0 = omega arith in
            let s : done + k ≡ done = omega arith in
            let a = take-append-le (done + k) d b (omega arith) in
            let y : take k b ≡ [] = ap (λ (m : ℕ). take m b) z in
            let n = append-nil (take done d) in
            cc
      ]

  pub copied_front : take (done + k) (put_mid done k buffer piece) ≡ take (done + k) (d ++ b)
  copied_front = written ∙ sym wanted

-- The last blocks were looked at, and those before them are left. Of n's bytes in the last ones as many as fit stand in the buffer.
pub record Gathering (n : ℕ) (os : List (Option ℕ)) (bs : List (List ℕ)) (left : List (Option ℕ)) (left_bs : List (List ℕ)) (buffer : List ℕ) (done : ℕ) : Type 0 where
  pub level : length left ≡ length left_bs
  pub within : length left ≤ length os
  pub owners : left ≡ take (length left) os
  pub blocks : left_bs ≡ take (length left_bs) bs
  pub there : done ≡ min (length buffer) (length (gathered n (drop (length left) os) (drop (length left) bs)))
  pub front : take done buffer ≡ take done (gathered n (drop (length left) os) (drop (length left) bs))

-- the block b of the owner o is looked at
module _ (n : ℕ) (os : List (Option ℕ)) (bs : List (List ℕ)) (left : List (Option ℕ)) (left_bs : List (List ℕ)) (o : Option ℕ) (b buffer : List ℕ) (done : ℕ)
    (even : length os ≡ length bs) (g : Gathering n os bs (push left o) (push left_bs b) buffer done) where
  levels : length left ≡ length left_bs
  levels = let l = length_push left o in let m = length_push left_bs b in omega (arith, g.level)

  room_left : length left < length os
  room_left = let l = length_push left o in omega (arith, g.within)

  owner_is : get_or os (length left) None ≡ o
  owner_is = last_left os left o None g.owners g.within

  block_is : get_or bs (length left) [] ≡ b
  block_is = rw levels (last_left bs left_bs b [] g.blocks (omega (arith, g.within, g.level)))

  there_seen : done ≡ min (length buffer) (length (gathered n (drop (length left + 1) os) (drop (length left + 1) bs)))
  there_seen = let l = length_push left o in simp l at g.there

  front_seen : take done buffer ≡ take done (gathered n (drop (length left + 1) os) (drop (length left + 1) bs))
  front_seen = let l = length_push left o in simp l at g.front

  more : gathered n (drop (length left) os) (drop (length left) bs)
      ≡ cond (is_owner n o) (gathered n (drop (length left + 1) os) (drop (length left + 1) bs) ++ b) (gathered n (drop (length left + 1) os) (drop (length left + 1) bs))
  more =
      let m = gathered_more n os bs (length left) room_left (omega (arith, room_left)) in
      simp (owner_is, block_is) at m

  pub gathering_other : is_owner n o ≡ false → Gathering n os bs left left_bs buffer done
  gathering_other other = record {
    level = levels;
    within = omega (arith, room_left);
    owners = others_left os left o None g.owners g.within;
    blocks = others_left bs left_bs b [] g.blocks (omega (arith, g.within, g.level));
    there = let m = simp other at more in rw m there_seen;
    front = let m = simp other at more in rw m front_seen;
  }

  pub gathering_mine : is_owner n o ≡ true → ((i : ℕ) → i < length bs → length (get_or bs i []) ≡ 64) → (piece : List ℕ) (k : ℕ) → k ≡ min (length buffer - done) 64 → piece ≡ take k b
      → Gathering n os bs left left_bs (put_mid done k buffer piece) (done + k)
  gathering_mine own wholes piece k room copied =
      let m = simp own at more in
      let whole = ap length (sym block_is) ∙ wholes (length left) (omega (arith, room_left)) in
      record {
        level = levels;
        within = omega (arith, room_left);
        owners = others_left os left o None g.owners g.within;
        blocks = others_left bs left_bs b [] g.blocks (omega (arith, g.within, g.level));
        there = rw m (copied_length buffer _ b piece done k there_seen front_seen whole room copied);
        front = rw m (copied_front buffer _ b piece done k there_seen front_seen whole room copied);
      }
