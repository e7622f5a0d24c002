-- A change of what is under one number keeps the memory's invariant, and changes no other text.
use Rattle.std.proofs.Common.{◌≡◌, ℕ, ◌+◌, ◌<◌, ◌≤◌, eqb, List, length, get_or, take, set, Some, None, Option, sym, refl, ap, ◌∙◌, inl, inr, arith}
use Rattle.std.specs.Option.{option_map, unwrap_or}
use Rattle.std.specs.Map.{update}
use Rattle.std.proofs.lemmas.List.{get_or-set_same, get_or-set_other, length-set}
use Rattle.std.proofs.lemmas.Bool.{cases_eq}
use Rattle.std.proofs.lemmas.Map.{update_here, update_apart}
use Rattle.memory.specs.Texts.{Texts, blocks_for, need}
use Rattle.memory.specs.Blocks.{gathered, owned, unused, released, texts_in, Noted, Owns, Rest, Placed}
use Rattle.memory.specs.declared.blocks.Blocks.{Blocks}
use Rattle.memory.proofs.Sums.{sum_to_change}
use Rattle.memory.proofs.Owners.{released_gathered, released_owned, released_own, released_unused}

abbrev pub texts_of : Blocks → Texts
texts_of s = texts_in s.blocks s.owners s.lengths

-- what blocks, owners and lengths owe to be a memory
pub record Fit (bs : List (List ℕ)) (os : List (Option ℕ)) (ls : List (Option ℕ)) : Type 0 where
  pub sized : length ls ≡ 121
  pub unnumbered : get_or ls 0 None ≡ None
  pub noted : Noted bs os ls
  pub owns : Owns bs os ls
  pub rest : Rest bs os ls

-- what is under n becomes t, its length l, the owners os, and the blocks bs
pub record Changed (s : Blocks) (n : ℕ) (t : Option (List ℕ)) (l : Option ℕ) (os : List (Option ℕ)) (bs : List (List ℕ)) : Type 0 where
  pub numbered : (0 < n) × (n ≤ 120)
  pub others : (m : ℕ) → (m ≡ n → ⊥) → (gathered m os bs ≡ gathered m s.owners s.blocks) × (owned m os ≡ owned m s.owners)
  pub text : option_map (λ k. take k (gathered n os bs)) l ≡ t
  pub noted : option_map (λ (x : List ℕ). length x) t ≡ l
  pub own : owned n os ≡ need t
  pub balance : need t + unused os ≡ need (texts_of s n) + unused s.owners

module _ {s : Blocks} {n : ℕ} {t : Option (List ℕ)} {l : Option ℕ} {os : List (Option ℕ)} {bs : List (List ℕ)} (c : Changed s n t l os bs) where
  abbrev lengths : List (Option ℕ)
  lengths = set s.lengths n l

  length_here : get_or lengths n None ≡ l
  length_here = get_or-set_same s.lengths n l None (omega (arith, s.sized, c.numbered.1))

  length_there : (m : ℕ) → (m ≡ n → ⊥) → get_or lengths m None ≡ get_or s.lengths m None
  length_there m h = get_or-set_other s.lengths n m l None h

  text_here : texts_in bs os lengths n ≡ t
  text_here = ap (option_map (λ k. take k (gathered n os bs))) length_here ∙ c.text

  text_there : (m : ℕ) → (m ≡ n → ⊥) → texts_in bs os lengths m ≡ texts_of s m
  text_there m ne = simp (length_there m ne, (c.others m ne).0)

  noted_after : Noted bs os lengths
  noted_after m =
      elim (cases_eq m n) [
        | inl e ↦ rw e (ap (option_map (λ (x : List ℕ). length x)) text_here ∙ c.noted ∙ sym length_here)
        | inr ne ↦ ap (option_map (λ (x : List ℕ). length x)) (text_there m ne) ∙ s.noted m ∙ sym (length_there m ne)
      ]

  owns_after : Owns bs os lengths
  owns_after m =
      elim (cases_eq m n) [
        | inl e ↦ rw e (c.own ∙ ap need (sym text_here))
        | inr ne ↦ (c.others m ne).1 ∙ s.owns m ∙ ap need (sym (text_there m ne))
      ]

  rest_after : Rest bs os lengths
  rest_after =
      let d = sum_to_change (λ m. need (texts_in bs os lengths m)) (λ m. need (texts_of s m)) n 120 c.numbered.0 c.numbered.1
      (λ m h. ap need (text_there m h)) in
      let e = ap need text_here in
      omega (arith, s.rest, c.balance)

  pub fit_after : Fit bs os lengths
  fit_after = record {
    sized = length-set s.lengths n l ∙ s.sized;
    unnumbered = length_there 0 (λ e. omega (arith, c.numbered.0)) ∙ s.unnumbered;
    noted = noted_after;
    owns = owns_after;
    rest = rest_after;
  }

  -- the same, where the place of n's length goes by another name
  pub fit_at : (i : ℕ) → i ≡ n → Fit bs os (set s.lengths i l)
  fit_at i e = rw e fit_after

  pub text_after : (m : ℕ) → texts_in bs os lengths m ≡ update eqb (texts_of s) n t m
  text_after m =
      elim (cases_eq m n) [
        | inl e ↦ rw e (text_here ∙ sym (update_here (texts_of s) n t))
        | inr ne ↦ text_there m ne ∙ sym (update_apart (texts_of s) n t m ne)
      ]

  pub text_at : (i : ℕ) → i ≡ n → (m : ℕ) → texts_in bs os (set s.lengths i l) m ≡ update eqb (texts_of s) n t m
  text_at i e = rw e text_after

-- n's text is struck out
pub struck : (s : Blocks) (n : ℕ) → 0 < n → n ≤ 120 → (os : List (Option ℕ)) → os ≡ released n s.owners → Changed s n None None os s.blocks
struck s n numbered low os e =
    rw e record {
      numbered = (numbered, low);
      others = λ m x. (released_gathered n m x s.owners s.blocks, released_owned n m x s.owners);
      text = refl;
      noted = refl;
      own = released_own n s.owners;
      balance = let a = released_unused n s.owners in let b = s.owns n in omega arith;
    }

-- what a text needs follows from the length that is noted for it, 0 where there is none
need_noted : (o : Option (List ℕ)) (l : Option ℕ) → option_map (λ (t : List ℕ). length t) o ≡ l → need o ≡ blocks_for (unwrap_or l 0)
need_noted None l e = ap (λ (x : Option ℕ). blocks_for (unwrap_or x 0)) e
need_noted (Some t) l e = ap (λ (x : Option ℕ). blocks_for (unwrap_or x 0)) e

-- so many blocks come back, where the place of n's length goes by another name
pub given_back : (s : Blocks) (n i : ℕ) → i ≡ n → unused (released n s.owners) ≡ s.unused + blocks_for (unwrap_or (get_or s.lengths i None) 0)
given_back s n i e =
    let a = released_unused n s.owners in
    let b = s.owns n in
    let d = need_noted _ _ (s.noted n) in
    rw e (omega (arith, s.counted))

-- n had no text, and the text t is placed for it
pub stored : (s : Blocks) (n : ℕ) → texts_of s n ≡ None → 0 < n → n ≤ 120 → (t : List ℕ) (os : List (Option ℕ)) (bs : List (List ℕ))
    → Placed n t s.owners s.blocks os bs → Changed s n (Some t) (Some (length t)) os bs
stored s n none numbered low t os bs p = record {
  numbered = (numbered, low);
  others = p.others;
  text = ap Some p.own;
  noted = refl;
  own = p.count;
  balance = let z = ap need none in let a = p.taken in let b = p.count in omega arith;
}
