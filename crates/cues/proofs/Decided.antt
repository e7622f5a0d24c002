-- The law decides every answer by what is left.
use Rattle.std.proofs.Common.{◌≡◌, ◌≢◌, ℕ, Bool, true, false, leb, List, ◌∷◌, length, is_some, Some, None, Option, Ok, Err, sym, refl, ap, ◌∙◌, inl, inr, arith}
use mathlib.Core.Path.{fun_ext}
use Rattle.std.proofs.lemmas.Bool.{cases_lt}
use Rattle.std.proofs.lemmas.Bool.Decides.{nat_tests}
use Rattle.guide.specs.Told.{after}
use Rattle.memory.specs.Texts.{Texts, blocks_for, longest_text, free as free_in, is_number}
use Rattle.cues.specs.declared.answers.Answer.TheVariants as say
use Rattle.cues.specs.Calls.{Load, Call, load, clear, fetch, free, History, Reply}
use Rattle.cues.specs.Sheet.{State, answer}
use Rattle.cues.specs.Law.{IsRefused, Leaves, HoldsJust, Fits, answers_taken, OfLoad, OfClear, OfFetch, Promised, Stands, Whole, LeaveAlike, OnlyWhatIsLeftCounts}
use Rattle.cues.proofs.Laws.{Known, known, load_law}

-- Histories that leave the same texts led to the same texts.
pub same_held : (p q : History) (s u : Texts) → HoldsJust s p → HoldsJust u q → LeaveAlike p q → s ≡ u
same_held p q s u h k alike = fun_ext (λ n. by n (s n) (u n) refl refl)
  where
    by : (n : ℕ) (o o' : Option (List ℕ)) → s n ≡ o → u n ≡ o' → s n ≡ u n
    by n None None e f = e ∙ sym f
    by n (Some t) o' e f = e ∙ sym ((k n t).1 ((alike n t).0 ((h n t).0 e)))
    by n None (Some t) e f = let g = (h n t).1 ((alike n t).1 ((k n t).0 f)) in cc

pub alike_next : (p q : History) (c : Call) (r r' : Reply) → r ≡ r' → LeaveAlike p q → LeaveAlike ((c, r) ∷ p) ((c, r') ∷ q)
alike_next p q c r r' e alike n t = let k = alike n t in grind arith

-- What is promised of a call after one history leaves a single reply open: the sheet's.
module _ (blocks : ℕ) (past : History) (s : Texts) (st : Stands blocks past s) where
  pub load_is : (l : Load) (r : Reply) → OfLoad blocks past s l r → r ≡ answer blocks s (load l)
  load_is l r x = by _ _ _ _ (known blocks past s st l.number) refl refl refl refl
    where
      by : (a b c d : Bool) → Known past l.number a b → is_number l.number ≡ a → is_some (s l.number) ≡ b → leb (length l.text) longest_text ≡ c
          → leb (blocks_for (length l.text)) (free_in blocks s) ≡ d → r ≡ answer blocks s (load l)
      by false b c d k e f g h = grind arith
      by true true c d k e f g h = grind arith
      by true false false d k e f g h = grind (arith, nat_tests)
      by true false true false k e f g h = grind (arith, nat_tests)
      by true false true true k e f g h =
          let fits : Fits blocks s l.text = (grind (arith, nat_tests), grind (arith, nat_tests)) in
          let lawful = k.lawful.0 refl in
          let unused = k.unused.0 refl in
          x.decided lawful unused fits ∙ sym ((load_law blocks past s st l).decided lawful unused fits)

  pub clear_is : (n : ℕ) (r : Reply) → OfClear past n r → r ≡ answer blocks s (clear n)
  clear_is n r x = by _ _ (known blocks past s st n) refl refl
    where
      by : (a b : Bool) → Known past n a b → is_number n ≡ a → is_some (s n) ≡ b → r ≡ answer blocks s (clear n)
      by false b k e f = grind arith
      by true false k e f = grind arith
      by true true k e f = grind arith

  pub fetch_is : (n : ℕ) (b : List ℕ) (r : Reply) (b' : List ℕ) → OfFetch past n b r b' → r ≡ answer blocks s (fetch n b)
  fetch_is n b r b' x = by (is_number n) (s n) refl refl
    where
      by : (a : Bool) (o : Option (List ℕ)) → is_number n ≡ a → s n ≡ o → r ≡ answer blocks s (fetch n b)
      by false o e f = let k = known blocks past s st n in grind arith
      by true None e f = let k = known blocks past s st n in grind arith
      by true (Some t) e f =
          let h = (st.holds n t).0 f in
          elim (cases_lt (length b) (length t)) [
            | inl m ↦ let no = x.refused_short.1 (t, h, m) in grind (arith, nat_tests)
            | inr m ↦ let yes = (x.fetched (length t)).1 (t, h, refl, m) in grind (arith, nat_tests)
          ]

  pub call_is : (c : Call) (r : Reply) (b' : List ℕ) → Promised blocks past s c r b' → r ≡ answer blocks s c
  call_is (load l) r b' x = load_is l r x
  call_is (clear n) r b' x = clear_is n r x
  call_is (fetch n b) r b' x = fetch_is n b r b' x
  call_is free r b' x = x

-- What is left in the buffer too, where two histories led to the same texts.
module _ (blocks : ℕ) (p q : History) (s : Texts) (st : Stands blocks p s) (st' : Stands blocks q s) where
  fetched_alike : (n : ℕ) (b : List ℕ) (r : Reply) (c c' : List ℕ) → OfFetch p n b r c → OfFetch q n b r c' → (IsRefused r → c ≡ c') → c ≡ c'
  fetched_alike n b (Ok (say.Fetched k)) c c' x y refused =
      let w = (x.fetched k).0 refl in
      let there : Leaves q n w.0 = (st'.holds n w.0).0 ((st.holds n w.0).1 w.1) in
      x.given_back k w.0 refl w.1 ∙ sym (y.given_back k w.0 refl there)
  fetched_alike n b (Err e) c c' x y refused = refused (e, refl)
  fetched_alike n b r c c' x y refused = let e = fetch_is blocks p s st n b r c x in grind arith

  pub buffers_alike : (call : Call) (r : Reply) (found found' left left' : State) → found.buffer ≡ found'.buffer → found.held ≡ s → found'.held ≡ s
      → Whole blocks p found call r left → Whole blocks q found' call r left' → left.buffer ≡ left'.buffer
  buffers_alike call r found found' left left' same e f x y = by call (rw e at x.promised) (rw f at y.promised) x.spared y.spared
    where
      refused : IsRefused r → left.buffer ≡ left'.buffer
      refused h = (x.unchanged h).1 ∙ same ∙ sym (y.unchanged h).1

      by : (c : Call) → Promised blocks p s c r left.buffer → Promised blocks q s c r left'.buffer
          → (((n : ℕ) (b : List ℕ) → c ≢ fetch n b) → left.buffer ≡ found.buffer) → (((n : ℕ) (b : List ℕ) → c ≢ fetch n b) → left'.buffer ≡ found'.buffer)
          → left.buffer ≡ left'.buffer
      by (fetch n b) u w k k' = fetched_alike n b r left.buffer left'.buffer u w refused
      by c u w k k' = k (λ n b e. cc) ∙ same ∙ sym (k' (λ n b e. cc))

pub only_what_is_left_counts : OnlyWhatIsLeftCounts
only_what_is_left_counts blocks p q found found' call r r' left left' same told st st' alike x y =
    let e = same_held p q found.held found'.held st.holds st'.holds alike in
    let u = rw (← e) at st' in
    let d : r ≡ r' = call_is blocks p found.held st call r left.buffer x.promised ∙ ap (λ s. answer blocks s call) e ∙ sym (call_is blocks q found'.held st' call r' left'.buffer y.promised) in (
      d,
      same_held ((call, r) ∷ p) ((call, r') ∷ q) left.held left'.held x.stands.holds y.stands.holds (alike_next p q call r r' d alike),
      buffers_alike blocks p q found.held st u call r found found' left left' same refl (sym e) x (rw (← d) at y),
      x.guide ∙ ap (after (answers_taken r)) told ∙ ap (λ z. after (answers_taken z) found'.told) d ∙ sym y.guide,
    )
