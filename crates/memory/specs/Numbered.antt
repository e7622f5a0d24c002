-- Texts are held under numbers for texts only. A member of an impl cites this, so it stands here and not in proofs/.
use Rattle.std.proofs.Common.{◌≡◌, ℕ, false, List, length, get_or, take, None, Option, ap, inl, inr, arith}
use Rattle.std.specs.Option.{option_map}
use Rattle.std.proofs.lemmas.List.{get_or_past}
use Rattle.std.proofs.lemmas.Bool.{cases_lt}
use Rattle.std.proofs.lemmas.Bool.Decides.{nat_tests}
use Rattle.memory.specs.Texts.{is_number}
use Rattle.memory.specs.Blocks.{gathered, texts_in}

module _ (blocks : List (List ℕ)) (owners : List (Option ℕ)) (lengths : List (Option ℕ)) (sized : length lengths ≡ 121) (unnumbered : get_or lengths 0 None ≡ None) where
  no_length : (n : ℕ) → is_number n ≡ false → get_or lengths n None ≡ None
  no_length n e =
      elim (cases_lt 120 n) [
        | inl h ↦ get_or_past lengths n None (omega arith)
        | inr h ↦ let z : n ≡ 0 = grind (arith, nat_tests) in rw z unnumbered
      ]

  pub none_outside : (n : ℕ) → is_number n ≡ false → texts_in blocks owners lengths n ≡ None
  none_outside n e = ap (option_map (λ l. take l (gathered n owners blocks))) (no_length n e)
