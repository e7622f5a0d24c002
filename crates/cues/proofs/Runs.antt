-- A run leads to just the texts that its history leaves.
use Rattle.std.proofs.Common.{◌≡◌, ℕ, ◌≤◌, true, [], ◌∷◌, length, Some, None, Ok, refl, inl, inr, arith}
use Rattle.std.proofs.lemmas.Map.{update_here, update_apart}
use Rattle.std.proofs.lemmas.Bool.Decides.{nat_tests}
use Rattle.memory.specs.Texts.{Texts, blocks_for, no_texts, holding, without, needs, free as free_in, is_number}
use Rattle.memory.proofs.Room.{number_within, updated_needs}
use Rattle.memory.proofs.Sums.{sum_to_none}
use Rattle.cues.specs.declared.answers.Answer.TheVariants as say
use Rattle.cues.specs.Calls.{Load, Call, load, History, Reply}
use Rattle.cues.specs.Sheet.{answer, changed, next, Run, start, more}
use Rattle.cues.specs.Law.{IsLoaded, HoldsJust, Stands}

-- What an accepted load had: a lawful number with nothing under it, and room.
pub record Fresh (blocks : ℕ) (s : Texts) (l : Load) : Type 0 where
  pub unused : s l.number ≡ None
  pub numbered : is_number l.number ≡ true
  pub room : blocks_for (length l.text) ≤ free_in blocks s

module _ (blocks : ℕ) (s : Texts) where
  fresh : (c : Call) (l : Load) → c ≡ load l → IsLoaded (answer blocks s c) → Fresh blocks s l
  fresh c l e h = grind (arith, nat_tests)

  cleared_number : (c : Call) (m : ℕ) → answer blocks s c ≡ Ok (say.Cleared m) → is_number m ≡ true
  cleared_number c m e = grind arith

-- One call more, by what came back.
module _ (s : Texts) (past : History) (h : HoldsJust s past) where
  step_holds : (c : Call) (r : Reply) → ((l : Load) → c ≡ load l → IsLoaded r → s l.number ≡ None) → HoldsJust (changed s c r) ((c, r) ∷ past)
  step_holds (load l) (Ok (say.Loaded x)) f n t =
      let none = f l refl (x, refl) in
      let here : holding s l.number l.text l.number ≡ Some l.text = update_here s l.number (Some l.text) in
      let apart = update_apart s l.number (Some l.text) n in
      let k = h n t in
      grind arith
  step_holds c (Ok (say.Cleared m)) f n t =
      let here : without s m m ≡ None = update_here s m None in
      let apart = update_apart s m None n in
      let k = h n t in
      grind arith
  step_holds c r f n t = let k = h n t in grind arith

-- The texts never need more blocks than there are.
step_needs : (blocks : ℕ) (s : Texts) → needs s ≤ blocks → (c : Call) (r : Reply) → ((l : Load) → c ≡ load l → IsLoaded r → Fresh blocks s l)
    → ((m : ℕ) → r ≡ Ok (say.Cleared m) → is_number m ≡ true) → needs (changed s c r) ≤ blocks
step_needs blocks s h (load l) (Ok (say.Loaded x)) f g =
    let r = f l refl (x, refl) in
    let u = updated_needs s l.number (Some l.text) r.numbered in
    let room = r.room in
    omega arith
step_needs blocks s h c (Ok (say.Cleared m)) f g = let u = updated_needs s m None (g m refl) in omega arith
step_needs blocks s h c r f g = h

needs_none : needs no_texts ≡ 0
needs_none = sum_to_none 120

pub stands_first : (blocks : ℕ) → Stands blocks [] no_texts
stands_first blocks = record {
  holds = λ n t. (λ e. cc, λ x. elim x [ ]);
  numbered = λ n t x. elim x [ ];
  balance = (let e = needs_none in omega arith);
}

-- The sheet's own step.
pub stands_next : (blocks : ℕ) (past : History) (s : Texts) (c : Call) → Stands blocks past s → Stands blocks ((c, answer blocks s c) ∷ past) (next blocks s c)
stands_next blocks past s c st =
    let f = fresh blocks s c in
    let few : needs s ≤ blocks = (let b = st.balance in omega arith) in
    let few' : needs (next blocks s c) ≤ blocks = step_needs blocks s few c (answer blocks s c) f (cleared_number blocks s c) in
    record {
      holds = step_holds s past st.holds c (answer blocks s c) (λ l e x. (f l e x).unused);
      numbered = λ n t x. elim x [ inl p ↦ (let q = number_within p.0.number (f p.0 p.1 p.2).numbered in grind arith) | inr p ↦ st.numbered n t p.0 ];
      balance = omega arith;
    }

pub stands : {blocks : ℕ} {past : History} {s : Texts} → Run blocks past s → Stands blocks past s
stands {blocks} start = stands_first blocks
stands {blocks} (more {past} {s} c r) = stands_next blocks past s c (stands r)
