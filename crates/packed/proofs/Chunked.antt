-- Chunks joined together, joined lists cut into chunks, and maps that undo each other.
use Rattle.std.proofs.Common.{◌≡◌, ℕ, zero, suc, ◌+◌, ◌-◌, ◌*◌, ◌≤◌, List, [], ◌∷◌, ◌++◌, map, length, get_or, take, drop, sym, refl, ap, ◌∙◌, append_assoc, mul-zero, mul-suc, arith, length-append, length-drop, take-append-drop}
use Rattle.std.specs.List.{AllByRecursion}
use Rattle.std.proofs.ByRecursion.{All-take, All-drop}
use Rattle.std.proofs.lemmas.List.{take_at, drop_at, drop_more, length-take-le}
use Rattle.std.specs.Simd.{first_chunks}
use Rattle.std.specs.List.{concat}
use Rattle.packed.specs.Chunks.{drop_chunk}

-- the chunks and what is behind them are the list
pub concat-chunks : (w n : ℕ) (xs : List ℕ) → concat (first_chunks w n xs) ++ drop (w * n) xs ≡ xs
concat-chunks w zero xs = ap (λ k. drop k xs) (mul-zero w)
concat-chunks w (suc n) xs =
    append_assoc (take w xs) (concat (first_chunks w n (drop w xs))) (drop (w * suc n) xs)
    ∙ (ap (λ end. take w xs ++ (concat (first_chunks w n (drop w xs)) ++ end)) (sym (drop_chunk w n xs))
    ∙ (ap (λ end. take w xs ++ end) (concat-chunks w n (drop w xs)) ∙ take-append-drop w xs))

pub all_chunks : {X : Type 0} (P : X → Type 0) (w n : ℕ) (xs : List X) → AllByRecursion P xs → AllByRecursion (AllByRecursion P) (first_chunks w n xs)
all_chunks P w zero xs a = tt
all_chunks P w (suc n) xs a = (All-take P w xs a, all_chunks P w n (drop w xs) (All-drop P w xs a))

one_more : (w rest size : ℕ) → rest + w ≤ size → (w ≤ size) × (rest ≤ size - w)
one_more w rest size h = (omega arith, omega arith)

pub chunks_whole : {X : Type 0} (w n : ℕ) (xs : List X) → w * n ≤ length xs → AllByRecursion (λ p. length p ≡ w) (first_chunks w n xs)
chunks_whole w zero xs h = tt
chunks_whole w (suc n) xs h =
    let room = one_more w (w * n) (length xs) (rw mul-suc at h) in
    (length-take-le w xs room.0, chunks_whole w n (drop w xs) (rw (length-drop w xs) room.1))

-- the chunks of lists that were made of one width each
module _ {Y : Type 0} (w : ℕ) (f : Y → List ℕ) where
  pub chunks-concat : (ys : List Y) (rest : List ℕ) → AllByRecursion (λ y. length (f y) ≡ w) ys → first_chunks w (length ys) (concat (map f ys) ++ rest) ≡ map f ys
  chunks-concat [] rest a = refl
  chunks-concat (y ∷ ys) rest a =
      let more = concat (map f ys) ++ rest in
      ap (first_chunks w (suc (length ys))) (append_assoc (f y) (concat (map f ys)) rest)
      ∙ rw (take_at (f y) more w a.0, drop_at (f y) more w a.0, chunks-concat ys rest a.1)

  pub drop-concat : (ys : List Y) (rest : List ℕ) → AllByRecursion (λ y. length (f y) ≡ w) ys → drop (w * length ys) (concat (map f ys) ++ rest) ≡ rest
  drop-concat [] rest a = ap (λ k. drop k rest) (mul-zero w)
  drop-concat (y ∷ ys) rest a =
      let more = concat (map f ys) ++ rest in
      sym (drop_chunk w (length ys) ((f y ++ concat (map f ys)) ++ rest))
      ∙ (ap (λ all. drop (w * length ys) (drop w all)) (append_assoc (f y) (concat (map f ys)) rest)
      ∙ (ap (drop (w * length ys)) (drop_at (f y) more w a.0) ∙ drop-concat ys rest a.1))

  pub length-concat : (ys : List Y) → AllByRecursion (λ y. length (f y) ≡ w) ys → length (concat (map f ys)) ≡ w * length ys
  length-concat [] a = sym (mul-zero w)
  length-concat (y ∷ ys) a =
      let rest = length-concat ys a.1 in
      let more = mul-suc w (length ys) in
      length-append (f y) (concat (map f ys)) ∙ omega (arith, a.0)

pub mapped_back : {X Y : Type 0} (f : X → Y) (g : Y → X) (xs : List X) → AllByRecursion (λ x. g (f x) ≡ x) xs → map g (map f xs) ≡ xs
mapped_back f g [] a = refl
mapped_back f g (x ∷ xs) a = rw (a.0, mapped_back f g xs a.1)

-- the elements from place i on, one by one
abbrev pub elements : ℕ → ℕ → List ℕ → List ℕ
elements i zero xs = []
elements i (suc n) xs = get_or xs i 0 ∷ elements (suc i) n xs

pub elements_first : (i n : ℕ) (xs : List ℕ) → i + n ≤ length xs → elements i n xs ++ drop (i + n) xs ≡ drop i xs
elements_first i zero xs h = let e : i + zero ≡ i = omega arith in ap (λ k. drop k xs) e
elements_first i (suc n) xs h =
    let e : i + suc n ≡ suc i + n = omega arith in
    let s : i + 1 ≡ suc i = omega arith in
    sym (drop_more xs i 0 (omega arith) ∙ ap (λ more. get_or xs i 0 ∷ more)
    (ap (λ k. drop k xs) s ∙ sym (ap (λ k. elements (suc i) n xs ++ drop k xs) e ∙ elements_first (suc i) n xs (omega arith))))
