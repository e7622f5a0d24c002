-- One call after the other: what is written, and what stays.
use Rattle.std.proofs.Common.{◌≡◌, ℕ, ◌+◌, ◌-◌, ◌<◌, ◌≤◌, List, [], ◌++◌, length, take, drop, Some, sym, ap, ◌∙◌, subst, arith}
use borrow.Rule.Slice.PartMut.{put_mid}
use Rattle.std.proofs.lemmas.List.{append-nil, append_assoc, length-take, length-drop, drop-drop}
use Rattle.std.proofs.lemmas.Slice.{take-put_mid, drop-put_mid}
use Rattle.memory.specs.Texts.{Texts}
use Rattle.fekhtovi.specs.Script.{Scripted, call_of}
use Rattle.fekhtovi.specs.Replay.{held_after, room_for, left, Replays, full, goes, Replayed}

pub taken_length : {A : Type 0} (bytes : List A) (w k room : ℕ) → k ≡ room → room ≤ length bytes - w → length (take k (drop w bytes)) ≡ room
taken_length bytes w k room is fits = let l = length-take k (drop w bytes) in let d = length-drop w bytes in omega arith

-- the call is made, and the rest of the script goes on behind it
pub goes_on : (blocks : ℕ) (first held held' : Texts) (script before rest behind now place place' : List ℕ) (w k room : ℕ) (c : Scripted)
    → call_of rest ≡ Some (c, behind) → room ≡ room_for c → w + room ≤ length before → length now ≡ length before → drop w now ≡ drop w before
    → place ≡ take room (drop w now) → place' ≡ left blocks held c place → length place' ≡ room → held' ≡ held_after blocks held c (drop 80 place)
    → ((out : List ℕ) → Replays blocks held rest (drop w before) out → Replays blocks first script before (take w now ++ out))
    → (out : List ℕ) → Replays blocks held' behind (drop (w + room) before) out → Replays blocks first script before (take (w + room) (put_mid w k now place') ++ out)
goes_on blocks first held held' script before rest behind now place place' w k room c is sized fits long same taken made full' kept so_far out r =
    let room-is : take (room_for c) (drop w before) ≡ place =
    ap (λ n. take n (drop w before)) (sym sized) ∙ (ap (take room) (sym same) ∙ sym taken) in
    let texts : held_after blocks held c (drop 80 (take (room_for c) (drop w before))) ≡ held' =
    ap (λ p. held_after blocks held c (drop 80 p)) room-is ∙ sym kept in
    let behind_is : drop (room_for c) (drop w before) ≡ drop (w + room) before = ap (λ n. drop n (drop w before)) (sym sized) ∙ drop-drop room w before in
    let P : Texts → Type 0 = λ s. Replays blocks s behind (drop (w + room) before) out in
    let Q : List ℕ → Type 0 = λ bs. Replays blocks (held_after blocks held c (drop 80 (take (room_for c) (drop w before)))) behind bs out in
    let l = length-drop w before in
    let made_so = so_far (left blocks held c (take (room_for c) (drop w before)) ++ out)
    (goes is (omega arith) (subst Q (sym behind_is) (subst P (sym texts) r))) in
    let wrote : take (w + room) (put_mid w k now place') ≡ take w now ++ place' = take-put_mid w k now place' (w + room) (omega arith) (omega arith) in
    let shown : take w now ++ (left blocks held c (take (room_for c) (drop w before)) ++ out) ≡ take (w + room) (put_mid w k now place') ++ out =
    ap (λ p. take w now ++ (left blocks held c p ++ out)) room-is
    ∙ (ap (λ p. take w now ++ (p ++ out)) (sym made)
    ∙ (sym (append_assoc (take w now) place' out) ∙ ap (λ t. t ++ out) (sym wrote))) in
    let R : List ℕ → Type 0 = λ o. Replays blocks first script before o in
    subst R shown made_so

-- what is behind stays
pub stays : (before now place' : List ℕ) (w k room : ℕ) → w + room ≤ length before → length now ≡ length before → drop w now ≡ drop w before
    → k ≡ room → length place' ≡ room → drop (w + room) (put_mid w k now place') ≡ drop (w + room) before
stays before now place' w k room fits long same is sized =
    drop-put_mid w k now place' (w + room) (omega arith) (omega arith) (sized ∙ sym is)
    ∙ (sym (drop-drop room w now) ∙ (ap (drop room) same ∙ drop-drop room w before))

-- the replay stops here
pub stops : (blocks : ℕ) (first held : Texts) (script before rest now : List ℕ) (w : ℕ)
    → w ≤ length before → drop w now ≡ drop w before
    → ((out : List ℕ) → Replays blocks held rest (drop w before) out → Replays blocks first script before (take w now ++ out))
    → Replays blocks held rest (drop w before) [] → Replayed blocks first script before w now
stops blocks first held script before rest now w fits same so_far here =
    let R : List ℕ → Type 0 = λ o. Replays blocks first script before o in
    record { fits = fits; wrote = subst R (append-nil (take w now)) (so_far [] here); rest = same }

pub stops_full : (blocks : ℕ) (held : Texts) (rest behind before : List ℕ) (w n room : ℕ) (c : Scripted) → call_of rest ≡ Some (c, behind)
    → room ≡ room_for c → n ≡ length before → n - w < room → Replays blocks held rest (drop w before) []
stops_full blocks held rest behind before w n room c is sized long few = let l = length-drop w before in full is (omega arith)
