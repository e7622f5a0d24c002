-- The events of any listing are in range. (A ghost member cites it, so it stands here and not in proofs/.)
use Rattle.std.specs.Prelude.{◌≡◌, ℕ, ◌+◌, ◌-◌, ◌*◌, ◌<◌, ◌≤◌, true, ◌&&◌, List, [], ◌∷◌, length, drop, IfSome, Some, None, Option, ◌==◌, nat_le}
use Rattle.std.proofs.Common.{arith}
use Rattle.std.proofs.lemmas.Bool.{and_parts, leb-true, cond_both}
use Rattle.guide.specs.declared.Defect.TheVariants.{ListingTooLong}
use Rattle.guide.specs.declared.Event.{Event}
use Rattle.guide.specs.Told.{fault, Told, finally, EventInRange, InRange}
use Rattle.guide.specs.Listing.{Lines, unended, ended, lines, is_digit, decimal, rule_number, hex_digit, hex_pair, hex_byte, enters, reads, leaves, line_event, telling, from_lines, listing_from}

-- P holds of the value, if there is one
abbrev Any : {A : Type 0} → (A → Type 0) → Option A → Type 0
Any P o = IfSome o P

digit_most : (d : ℕ) → is_digit d ≡ true → d ≤ 57
digit_most d e = leb-true d 57 (and_parts (nat_le 48 d) (nat_le d 57) e).1

-- m, and ten times more for each digit
abbrev tens : ℕ → List ℕ → ℕ
tens m [] = m
tens m (d ∷ ds) = tens (10 * m) ds

decimal_below : (n m : ℕ) (ds : List ℕ) → n < m → Any (λ r. r < tens m ds) (decimal n ds)
decimal_below n m [] h = h
decimal_below n m (d ∷ ds) h =
    cond_both (is_digit d) (decimal (10 * n + (d - 48)) ds) None (Any (λ r. r < tens (10 * m) ds))
    (λ e. let k = digit_most d e in decimal_below (10 * n + (d - 48)) (10 * m) ds (omega arith)) (λ _. tt)

-- a sharper limit is a limit
any_wider : (o : Option ℕ) (a b : ℕ) → a ≤ b → Any (λ r. r < a) o → Any (λ r. r < b) o
any_wider None a b h k = tt
any_wider (Some r) a b h k = omega arith

tens_few : (d e : ℕ) (ds : List ℕ) → length ds ≤ 2 → tens 1 (d ∷ (e ∷ ds)) ≤ 10000
tens_few d e [] h = omega arith
tens_few d e (f ∷ []) h = omega arith
tens_few d e (f ∷ (g ∷ [])) h = omega arith
tens_few d e (f ∷ (g ∷ (k ∷ ds))) h = absurd (omega arith)

rule_below : (ds : List ℕ) → Any (λ r. r < 10000) (rule_number ds)
rule_below [] = tt
rule_below (d ∷ []) = any_wider (decimal 0 (d ∷ [])) 10 10000 (omega arith) (decimal_below 0 1 (d ∷ []) (omega arith))
rule_below (d ∷ (e ∷ ds)) =
    cond_both (d == 48) None _ (Any (λ r. r < 10000)) (λ _. tt)
    (λ _. cond_both (nat_le (length ds) 2) (decimal 0 (d ∷ (e ∷ ds))) None (Any (λ r. r < 10000))
    (λ t. any_wider (decimal 0 (d ∷ (e ∷ ds))) _ 10000 (tens_few d e ds (leb-true (length ds) 2 t)) (decimal_below 0 1 (d ∷ (e ∷ ds)) (omega arith)))
    (λ _. tt))

hex_below : (b : ℕ) → Any (λ v. v < 16) (hex_digit b)
hex_below b =
    cond_both (is_digit b) (Some (b - 48)) _ (Any (λ v. v < 16)) (λ e. let k = digit_most b e in omega arith)
    (λ _. cond_both (nat_le 97 b && nat_le b 102) (Some (b - 97 + 10)) None (Any (λ v. v < 16))
    (λ e. let k = leb-true b 102 (and_parts (nat_le 97 b) (nat_le b 102) e).1 in omega arith) (λ _. tt))

pair_below : (h l : Option ℕ) → Any (λ v. v < 16) h → Any (λ v. v < 16) l → Any (λ v. v < 256) (hex_pair h l)
pair_below None l a b = tt
pair_below (Some h) None a b = tt
pair_below (Some h) (Some l) a b = omega arith

byte_below : (ds : List ℕ) → Any (λ v. v < 256) (hex_byte ds)
byte_below [] = tt
byte_below (h ∷ []) = tt
byte_below (h ∷ (l ∷ [])) = pair_below (hex_digit h) (hex_digit l) (hex_below h) (hex_below l)
byte_below (h ∷ (l ∷ (x ∷ xs))) = tt

enters_in : (o : Option ℕ) → Any (λ r. r < 10000) o → Any EventInRange (enters o)
enters_in None h = tt
enters_in (Some r) h = omega arith

reads_in : (o : Option ℕ) → Any (λ v. v < 256) o → Any EventInRange (reads o)
reads_in None h = tt
reads_in (Some b) h = h

leaves_in : (ds : List ℕ) → Any EventInRange (leaves ds)
leaves_in [] = tt
leaves_in (x ∷ xs) = tt

line_in : (l : List ℕ) → Any EventInRange (line_event l)
line_in [] = tt
line_in (b ∷ ds) =
    cond_both (b == 40) (enters (rule_number ds)) _ (Any EventInRange) (λ _. enters_in (rule_number ds) (rule_below ds))
    (λ _. cond_both (b == 61) (reads (hex_byte ds)) _ (Any EventInRange) (λ _. reads_in (hex_byte ds) (byte_below ds))
    (λ _. cond_both (b == 41) (leaves ds) None (Any EventInRange) (λ _. leaves_in ds) (λ _. tt)))

telling_in : (o : Option Event) (at : ℕ) (g : Told) → Any EventInRange o → InRange g → InRange (telling o at g)
telling_in None at g h k = tt
telling_in (Some e) at g h k = (h, k)

lines_in : (at : ℕ) (ls : Lines) → InRange (from_lines at ls)
lines_in at (unended []) = tt
lines_in at (unended (b ∷ l)) = tt
lines_in at (ended l ls) = telling_in (line_event l) at _ (line_in l) (lines_in (at + (length l + 1)) ls)

pub listing_in_range : (bs : List ℕ) (at : ℕ) → InRange (listing_from bs at)
listing_in_range bs at =
    cond_both (nat_le (length bs) 64000) (from_lines at (lines (drop at bs))) (finally (fault ListingTooLong 0)) InRange
    (λ _. lines_in at (lines (drop at bs))) (λ _. tt)
