-- Bits of words of 32 bits that are turned, and whose bits are exchanged.
use Rattle.std.proofs.Common.{◌≡◌, ℕ, ◌+◌, ◌-◌, ◌*◌, ◌/◌, ◌%◌, ◌^◌, ◌<◌, ◌≤◌, List, [], ◌∷◌, map, get_or, min, max, bit_xor, bit_and, bit_or, refl}
use Rattle.std.proofs.Common.{sym, ap, ◌∙◌, ⊎_elim, arith}
use Rattle.std.specs.Int.{bit_at}
use Rattle.std.specs.List.{range_with_len}
use Rattle.std.proofs.lemmas.List.FromFn.{get_or-map-range_with_len}
use Rattle.std.proofs.lemmas.Nat.{shr-shr}
use Rattle.std.proofs.lemmas.Bool.{cases_lt}
use Rattle.std.proofs.lemmas.Nat.Bits.{bit_at_xor, bit_at_and, bit_at_or, bit_at-lt, bit_at-zero, bit_at_cat_low, bit_at_cat_high, bit_at_above}
use Rattle.aes_modes.specs.Sliced.{shifted_from, crossed_first, crossed_second}

pub bit_shr : (x n p : ℕ) → bit_at (x / 2 ^ n) p ≡ bit_at x (n + p)
bit_shr x n p = ap (λ (y : ℕ). y % 2) (shr-shr x n p)

mod_bit : (y p : ℕ) → p < 32 → bit_at (y % 2 ^ 32) p ≡ bit_at y p
mod_bit y p lt =
    let e : y / 2 ^ 32 * 2 ^ 32 + y % 2 ^ 32 ≡ y = omega arith in
    sym (bit_at_cat_low (y / 2 ^ 32) 32 (y % 2 ^ 32) p lt) ∙ ap (λ (z : ℕ). bit_at z p) e

plus_zero : (x : ℕ) → x ≡ x + 0
plus_zero x = omega arith

pub shl_low : (x n p : ℕ) → p < n → p < 32 → bit_at (x * 2 ^ n % 2 ^ 32) p ≡ 0
shl_low x n p lt small =
    mod_bit (x * 2 ^ n) p small ∙ ap (λ (z : ℕ). bit_at z p) (plus_zero (x * 2 ^ n)) ∙ bit_at_cat_low x n 0 p lt ∙ bit_at-zero p

pub shl_high : (x n p : ℕ) → n ≤ p → 0 < 2 ^ n → p < 32 → bit_at (x * 2 ^ n % 2 ^ 32) p ≡ bit_at x (p - n)
shl_high x n p le pos small =
    mod_bit (x * 2 ^ n) p small ∙ ap (λ (z : ℕ). bit_at z p) (plus_zero (x * 2 ^ n)) ∙ bit_at_cat_high x n 0 p pos le

-- # An exchange of the bits at a mask and those n places above

abbrev pub pick : ℕ → ℕ → ℕ → ℕ
pick x m n = bit_and (bit_xor x (x / 2 ^ n)) m

abbrev pub exchanged : ℕ → ℕ → ℕ → ℕ
exchanged x m n = bit_xor (bit_xor x (pick x m n)) (pick x m n * 2 ^ n % 2 ^ 32)

min_off : (a m t : ℕ) → t ≡ min a m → m ≡ 0 → t ≡ 0
min_off a m t et em = omega (arith, et, em)

min_on : (a m t : ℕ) → t ≡ min a m → m ≡ 1 → a < 2 → t ≡ a
min_on a m t et em la = omega (arith, et, em, la)

pub pick_off : (x m n p : ℕ) → bit_at m p ≡ 0 → bit_at (pick x m n) p ≡ 0
pick_off x m n p em = min_off (bit_at (bit_xor x (x / 2 ^ n)) p) (bit_at m p) (bit_at (pick x m n) p) (bit_at_and (bit_xor x (x / 2 ^ n)) m p) em

pub pick_on : (x m n p : ℕ) → bit_at m p ≡ 1 → bit_at (pick x m n) p ≡ (bit_at x p + bit_at x (n + p)) % 2
pick_on x m n p em =
    min_on (bit_at (bit_xor x (x / 2 ^ n)) p) (bit_at m p) (bit_at (pick x m n) p) (bit_at_and (bit_xor x (x / 2 ^ n)) m p) em
    (bit_at-lt (bit_xor x (x / 2 ^ n)) p)
    ∙ bit_at_xor x (x / 2 ^ n) p ∙ ap (λ (b : ℕ). (bit_at x p + b) % 2) (bit_shr x n p)

sum_keep : (a t s y z : ℕ) → a < 2 → t ≡ 0 → s ≡ 0 → y ≡ (a + t) % 2 → z ≡ (y + s) % 2 → z ≡ a
sum_keep a t s y z la et es ey ez = omega (arith, la, et, es, ey, ez)

sum_up : (a b t s y z : ℕ) → a < 2 → b < 2 → t ≡ (a + b) % 2 → s ≡ 0 → y ≡ (a + t) % 2 → z ≡ (y + s) % 2 → z ≡ b
sum_up a b t s y z la lb et es ey ez = omega (arith, la, lb, et, es, ey, ez)

sum_down : (a c t s y z : ℕ) → a < 2 → c < 2 → t ≡ 0 → s ≡ (c + a) % 2 → y ≡ (a + t) % 2 → z ≡ (y + s) % 2 → z ≡ c
sum_down a c t s y z la lc et es ey ez = omega (arith, la, lc, et, es, ey, ez)

abbrev moved : ℕ → ℕ → ℕ → ℕ
moved x m n = pick x m n * 2 ^ n % 2 ^ 32

pub keep_low : (x m n p : ℕ) → p < 32 → p < n → bit_at m p ≡ 0 → bit_at (exchanged x m n) p ≡ bit_at x p
keep_low x m n p lt low em =
    sum_keep (bit_at x p) (bit_at (pick x m n) p) (bit_at (moved x m n) p) (bit_at (bit_xor x (pick x m n)) p) (bit_at (exchanged x m n) p)
    (bit_at-lt x p) (pick_off x m n p em) (shl_low (pick x m n) n p low lt)
    (bit_at_xor x (pick x m n) p) (bit_at_xor (bit_xor x (pick x m n)) (moved x m n) p)

pub keep_high : (x m n p : ℕ) → p < 32 → n ≤ p → 0 < 2 ^ n → bit_at m p ≡ 0 → bit_at m (p - n) ≡ 0 → bit_at (exchanged x m n) p ≡ bit_at x p
keep_high x m n p lt le pos em ed =
    sum_keep (bit_at x p) (bit_at (pick x m n) p) (bit_at (moved x m n) p) (bit_at (bit_xor x (pick x m n)) p) (bit_at (exchanged x m n) p)
    (bit_at-lt x p) (pick_off x m n p em) (shl_high (pick x m n) n p le pos lt ∙ pick_off x m n (p - n) ed)
    (bit_at_xor x (pick x m n) p) (bit_at_xor (bit_xor x (pick x m n)) (moved x m n) p)

pub up_high : (x m n p : ℕ) → p < 32 → n ≤ p → 0 < 2 ^ n → bit_at m p ≡ 1 → bit_at m (p - n) ≡ 0 → bit_at (exchanged x m n) p ≡ bit_at x (n + p)
up_high x m n p lt le pos em ed =
    sum_up (bit_at x p) (bit_at x (n + p)) (bit_at (pick x m n) p) (bit_at (moved x m n) p) (bit_at (bit_xor x (pick x m n)) p) (bit_at (exchanged x m n) p)
    (bit_at-lt x p) (bit_at-lt x (n + p)) (pick_on x m n p em) (shl_high (pick x m n) n p le pos lt ∙ pick_off x m n (p - n) ed)
    (bit_at_xor x (pick x m n) p) (bit_at_xor (bit_xor x (pick x m n)) (moved x m n) p)

back : (n p : ℕ) → n ≤ p → n + (p - n) ≡ p
back n p le = omega arith

pub down : (x m n p : ℕ) → p < 32 → n ≤ p → 0 < 2 ^ n → bit_at m p ≡ 0 → bit_at m (p - n) ≡ 1 → bit_at (exchanged x m n) p ≡ bit_at x (p - n)
down x m n p lt le pos em ed =
    sum_down (bit_at x p) (bit_at x (p - n)) (bit_at (pick x m n) p) (bit_at (moved x m n) p) (bit_at (bit_xor x (pick x m n)) p) (bit_at (exchanged x m n) p)
    (bit_at-lt x p) (bit_at-lt x (p - n)) (pick_off x m n p em)
    (shl_high (pick x m n) n p le pos lt ∙ pick_on x m n (p - n) ed ∙ ap (λ (k : ℕ). (bit_at x (p - n) + bit_at x k) % 2) (back n p le))
    (bit_at_xor x (pick x m n) p) (bit_at_xor (bit_xor x (pick x m n)) (moved x m n) p)

-- # ShiftRows of a word

pub at_32 : (f g : ℕ → ℕ) → map f (range_with_len 0 32) ≡ map g (range_with_len 0 32) → (p : ℕ) → p < 32 → f p ≡ g p
at_32 f g same p low =
    sym (get_or-map-range_with_len f 0 32 p p 0 low (omega arith))
    ∙ ap (λ (xs : List ℕ). get_or xs p 0) same ∙ get_or-map-range_with_len g 0 32 p p 0 low (omega arith)

abbrev rows : ℕ → ℕ
rows x = exchanged (exchanged x 0x33003300 2) 0x030f0c00 4

each_row : (x : ℕ) → map (λ (p : ℕ). bit_at (rows x) p) (range_with_len 0 32) ≡ map (λ (p : ℕ). bit_at x (shifted_from p)) (range_with_len 0 32)
each_row x =
    let y = exchanged x 0x33003300 2 in
    λ i.
    (keep_low y 0x030f0c00 4 0 (omega arith) (omega arith) refl ∙ keep_low x 0x33003300 2 0 (omega arith) (omega arith) refl) i
    ∷ (keep_low y 0x030f0c00 4 1 (omega arith) (omega arith) refl ∙ keep_low x 0x33003300 2 1 (omega arith) (omega arith) refl) i
    ∷ (keep_low y 0x030f0c00 4 2 (omega arith) (omega arith) refl ∙ keep_high x 0x33003300 2 2 (omega arith) (omega arith) (omega arith) refl refl) i
    ∷ (keep_low y 0x030f0c00 4 3 (omega arith) (omega arith) refl ∙ keep_high x 0x33003300 2 3 (omega arith) (omega arith) (omega arith) refl refl) i
    ∷ (keep_high y 0x030f0c00 4 4 (omega arith) (omega arith) (omega arith) refl refl ∙ keep_high x 0x33003300 2 4 (omega arith) (omega arith) (omega
    arith) refl refl) i
    ∷ (keep_high y 0x030f0c00 4 5 (omega arith) (omega arith) (omega arith) refl refl ∙ keep_high x 0x33003300 2 5 (omega arith) (omega arith) (omega
    arith) refl refl) i
    ∷ (keep_high y 0x030f0c00 4 6 (omega arith) (omega arith) (omega arith) refl refl ∙ keep_high x 0x33003300 2 6 (omega arith) (omega arith) (omega
    arith) refl refl) i
    ∷ (keep_high y 0x030f0c00 4 7 (omega arith) (omega arith) (omega arith) refl refl ∙ keep_high x 0x33003300 2 7 (omega arith) (omega arith) (omega
    arith) refl refl) i
    ∷ (keep_high y 0x030f0c00 4 8 (omega arith) (omega arith) (omega arith) refl refl ∙ up_high x 0x33003300 2 8 (omega arith) (omega arith) (omega
    arith) refl refl) i
    ∷ (keep_high y 0x030f0c00 4 9 (omega arith) (omega arith) (omega arith) refl refl ∙ up_high x 0x33003300 2 9 (omega arith) (omega arith) (omega
    arith) refl refl) i
    ∷ (up_high y 0x030f0c00 4 10 (omega arith) (omega arith) (omega arith) refl refl ∙ down x 0x33003300 2 14 (omega arith) (omega arith) (omega
    arith) refl refl) i
    ∷ (up_high y 0x030f0c00 4 11 (omega arith) (omega arith) (omega arith) refl refl ∙ down x 0x33003300 2 15 (omega arith) (omega arith) (omega
    arith) refl refl) i
    ∷ (keep_high y 0x030f0c00 4 12 (omega arith) (omega arith) (omega arith) refl refl ∙ up_high x 0x33003300 2 12 (omega arith) (omega arith) (omega
    arith) refl refl) i
    ∷ (keep_high y 0x030f0c00 4 13 (omega arith) (omega arith) (omega arith) refl refl ∙ up_high x 0x33003300 2 13 (omega arith) (omega arith) (omega
    arith) refl refl) i
    ∷ (down y 0x030f0c00 4 14 (omega arith) (omega arith) (omega arith) refl refl ∙ down x 0x33003300 2 10 (omega arith) (omega arith) (omega arith)
    refl refl) i
    ∷ (down y 0x030f0c00 4 15 (omega arith) (omega arith) (omega arith) refl refl ∙ down x 0x33003300 2 11 (omega arith) (omega arith) (omega arith)
    refl refl) i
    ∷ (up_high y 0x030f0c00 4 16 (omega arith) (omega arith) (omega arith) refl refl ∙ keep_high x 0x33003300 2 20 (omega arith) (omega arith) (omega
    arith) refl refl) i
    ∷ (up_high y 0x030f0c00 4 17 (omega arith) (omega arith) (omega arith) refl refl ∙ keep_high x 0x33003300 2 21 (omega arith) (omega arith) (omega
    arith) refl refl) i
    ∷ (up_high y 0x030f0c00 4 18 (omega arith) (omega arith) (omega arith) refl refl ∙ keep_high x 0x33003300 2 22 (omega arith) (omega arith) (omega
    arith) refl refl) i
    ∷ (up_high y 0x030f0c00 4 19 (omega arith) (omega arith) (omega arith) refl refl ∙ keep_high x 0x33003300 2 23 (omega arith) (omega arith) (omega
    arith) refl refl) i
    ∷ (down y 0x030f0c00 4 20 (omega arith) (omega arith) (omega arith) refl refl ∙ keep_high x 0x33003300 2 16 (omega arith) (omega arith) (omega
    arith) refl refl) i
    ∷ (down y 0x030f0c00 4 21 (omega arith) (omega arith) (omega arith) refl refl ∙ keep_high x 0x33003300 2 17 (omega arith) (omega arith) (omega
    arith) refl refl) i
    ∷ (down y 0x030f0c00 4 22 (omega arith) (omega arith) (omega arith) refl refl ∙ keep_high x 0x33003300 2 18 (omega arith) (omega arith) (omega
    arith) refl refl) i
    ∷ (down y 0x030f0c00 4 23 (omega arith) (omega arith) (omega arith) refl refl ∙ keep_high x 0x33003300 2 19 (omega arith) (omega arith) (omega
    arith) refl refl) i
    ∷ (up_high y 0x030f0c00 4 24 (omega arith) (omega arith) (omega arith) refl refl ∙ up_high x 0x33003300 2 28 (omega arith) (omega arith) (omega
    arith) refl refl) i
    ∷ (up_high y 0x030f0c00 4 25 (omega arith) (omega arith) (omega arith) refl refl ∙ up_high x 0x33003300 2 29 (omega arith) (omega arith) (omega
    arith) refl refl) i
    ∷ (keep_high y 0x030f0c00 4 26 (omega arith) (omega arith) (omega arith) refl refl ∙ down x 0x33003300 2 26 (omega arith) (omega arith) (omega
    arith) refl refl) i
    ∷ (keep_high y 0x030f0c00 4 27 (omega arith) (omega arith) (omega arith) refl refl ∙ down x 0x33003300 2 27 (omega arith) (omega arith) (omega
    arith) refl refl) i
    ∷ (down y 0x030f0c00 4 28 (omega arith) (omega arith) (omega arith) refl refl ∙ up_high x 0x33003300 2 24 (omega arith) (omega arith) (omega
    arith) refl refl) i
    ∷ (down y 0x030f0c00 4 29 (omega arith) (omega arith) (omega arith) refl refl ∙ up_high x 0x33003300 2 25 (omega arith) (omega arith) (omega
    arith) refl refl) i
    ∷ (keep_high y 0x030f0c00 4 30 (omega arith) (omega arith) (omega arith) refl refl ∙ down x 0x33003300 2 30 (omega arith) (omega arith) (omega
    arith) refl refl) i
    ∷ (keep_high y 0x030f0c00 4 31 (omega arith) (omega arith) (omega arith) refl refl ∙ down x 0x33003300 2 31 (omega arith) (omega arith) (omega
    arith) refl refl) i ∷ []

pub rows_at : (x p : ℕ) → p < 32 → bit_at (rows x) p ≡ bit_at x (shifted_from p)
rows_at x p low = at_32 (λ (p : ℕ). bit_at (rows x) p) (λ (p : ℕ). bit_at x (shifted_from p)) (each_row x) p low

-- # Turning by rows

max_left : (a b z : ℕ) → z ≡ max a b → b ≡ 0 → z ≡ a
max_left a b z ez eb = omega (arith, ez, eb)

max_right : (a b z : ℕ) → z ≡ max a b → a ≡ 0 → z ≡ b
max_right a b z ez ea = omega (arith, ez, ea)

abbrev pub turned_right : ℕ → ℕ → ℕ → ℕ
turned_right x n m = bit_or (x / 2 ^ n) (x * 2 ^ m % 2 ^ 32)

pub turned_right_at : (x n m p : ℕ) → n + m ≡ 32 → 0 < 2 ^ m → x < 2 ^ 32 → p < 32 → bit_at (turned_right x n m) p ≡ bit_at x ((p + n) % 32)
turned_right_at x n m p e pos small low =
    ⊎_elim
    (λ (h : p < m).
    let k : n + p ≡ (p + n) % 32 = omega arith in
    max_left (bit_at (x / 2 ^ n) p) (bit_at (x * 2 ^ m % 2 ^ 32) p) (bit_at (turned_right x n m) p) (bit_at_or (x / 2 ^ n) (x * 2 ^ m % 2 ^ 32) p)
    (shl_low x m p h low) ∙ bit_shr x n p ∙ ap (bit_at x) k)
    (λ (h : m ≤ p).
    let k : p - m ≡ (p + n) % 32 = omega arith in
    max_right (bit_at (x / 2 ^ n) p) (bit_at (x * 2 ^ m % 2 ^ 32) p) (bit_at (turned_right x n m) p) (bit_at_or (x / 2 ^ n) (x * 2 ^ m % 2 ^ 32) p)
    (bit_shr x n p ∙ bit_at_above x 32 (n + p) small (omega arith)) ∙ shl_high x m p h pos low ∙ ap (bit_at x) k)
    (cases_lt p m)

-- # Crossing two words

abbrev pub cross_pick : ℕ → ℕ → ℕ → ℕ → ℕ
cross_pick a b m n = bit_and (bit_xor (a / 2 ^ n) b) m

abbrev pub cross_first : ℕ → ℕ → ℕ → ℕ → ℕ
cross_first a b m n = bit_xor a (cross_pick a b m n * 2 ^ n % 2 ^ 32)

abbrev pub cross_second : ℕ → ℕ → ℕ → ℕ → ℕ
cross_second a b m n = bit_xor b (cross_pick a b m n)

cross_off : (a b m n p : ℕ) → bit_at m p ≡ 0 → bit_at (cross_pick a b m n) p ≡ 0
cross_off a b m n p em = min_off (bit_at (bit_xor (a / 2 ^ n) b) p) (bit_at m p) (bit_at (cross_pick a b m n) p) (bit_at_and (bit_xor (a / 2 ^ n) b) m p) em

cross_on : (a b m n p : ℕ) → bit_at m p ≡ 1 → bit_at (cross_pick a b m n) p ≡ (bit_at a (n + p) + bit_at b p) % 2
cross_on a b m n p em =
    min_on (bit_at (bit_xor (a / 2 ^ n) b) p) (bit_at m p) (bit_at (cross_pick a b m n) p) (bit_at_and (bit_xor (a / 2 ^ n) b) m p) em
    (bit_at-lt (bit_xor (a / 2 ^ n) b) p)
    ∙ bit_at_xor (a / 2 ^ n) b p ∙ ap (λ (x : ℕ). (x + bit_at b p) % 2) (bit_shr a n p)

stay : (a t z : ℕ) → a < 2 → t ≡ 0 → z ≡ (a + t) % 2 → z ≡ a
stay a t z la et ez = omega (arith, la, et, ez)

change : (a b t z : ℕ) → a < 2 → b < 2 → t ≡ (a + b) % 2 → z ≡ (b + t) % 2 → z ≡ a
change a b t z la lb et ez = omega (arith, la, lb, et, ez)

change' : (a b t z : ℕ) → a < 2 → b < 2 → t ≡ (a + b) % 2 → z ≡ (a + t) % 2 → z ≡ b
change' a b t z la lb et ez = omega (arith, la, lb, et, ez)

s_keep : (a b m n p : ℕ) → bit_at m p ≡ 0 → bit_at (cross_second a b m n) p ≡ bit_at b p
s_keep a b m n p em =
    stay (bit_at b p) (bit_at (cross_pick a b m n) p) (bit_at (cross_second a b m n) p) (bit_at-lt b p) (cross_off a b m n p em) (bit_at_xor b
    (cross_pick a b m n) p)

s_take : (a b m n p : ℕ) → bit_at m p ≡ 1 → bit_at (cross_second a b m n) p ≡ bit_at a (n + p)
s_take a b m n p em =
    change (bit_at a (n + p)) (bit_at b p) (bit_at (cross_pick a b m n) p) (bit_at (cross_second a b m n) p) (bit_at-lt a (n + p)) (bit_at-lt b p)
    (cross_on a b m n p em) (bit_at_xor b (cross_pick a b m n) p)

abbrev cross_moved : ℕ → ℕ → ℕ → ℕ → ℕ
cross_moved a b m n = cross_pick a b m n * 2 ^ n % 2 ^ 32

f_low : (a b m n p : ℕ) → p < 32 → p < n → bit_at (cross_first a b m n) p ≡ bit_at a p
f_low a b m n p lt low =
    stay (bit_at a p) (bit_at (cross_moved a b m n) p) (bit_at (cross_first a b m n) p) (bit_at-lt a p) (shl_low (cross_pick a b m n) n p low lt)
    (bit_at_xor a (cross_moved a b m n) p)

f_keep : (a b m n p : ℕ) → p < 32 → n ≤ p → 0 < 2 ^ n → bit_at m (p - n) ≡ 0 → bit_at (cross_first a b m n) p ≡ bit_at a p
f_keep a b m n p lt le pos ed =
    stay (bit_at a p) (bit_at (cross_moved a b m n) p) (bit_at (cross_first a b m n) p) (bit_at-lt a p)
    (shl_high (cross_pick a b m n) n p le pos lt ∙ cross_off a b m n (p - n) ed) (bit_at_xor a (cross_moved a b m n) p)

f_take : (a b m n p : ℕ) → p < 32 → n ≤ p → 0 < 2 ^ n → bit_at m (p - n) ≡ 1 → bit_at (cross_first a b m n) p ≡ bit_at b (p - n)
f_take a b m n p lt le pos ed =
    change' (bit_at a p) (bit_at b (p - n)) (bit_at (cross_moved a b m n) p) (bit_at (cross_first a b m n) p) (bit_at-lt a p) (bit_at-lt b (p - n))
    (shl_high (cross_pick a b m n) n p le pos lt ∙ cross_on a b m n (p - n) ed ∙ ap (λ (k : ℕ). (bit_at a k + bit_at b (p - n)) % 2) (back n p le))
    (bit_at_xor a (cross_moved a b m n) p)

each_first_1 : (a b : ℕ) → map (λ (p : ℕ). bit_at (cross_first a b 0x55555555 1) p) (range_with_len 0 32) ≡ map (λ (p : ℕ). crossed_first 1 a b p)
    (range_with_len 0 32)
each_first_1 a b = λ i.
    f_low a b 0x55555555 1 0 (omega arith) (omega arith) i
    ∷ f_take a b 0x55555555 1 1 (omega arith) (omega arith) (omega arith) refl i
    ∷ f_keep a b 0x55555555 1 2 (omega arith) (omega arith) (omega arith) refl i
    ∷ f_take a b 0x55555555 1 3 (omega arith) (omega arith) (omega arith) refl i
    ∷ f_keep a b 0x55555555 1 4 (omega arith) (omega arith) (omega arith) refl i
    ∷ f_take a b 0x55555555 1 5 (omega arith) (omega arith) (omega arith) refl i
    ∷ f_keep a b 0x55555555 1 6 (omega arith) (omega arith) (omega arith) refl i
    ∷ f_take a b 0x55555555 1 7 (omega arith) (omega arith) (omega arith) refl i
    ∷ f_keep a b 0x55555555 1 8 (omega arith) (omega arith) (omega arith) refl i
    ∷ f_take a b 0x55555555 1 9 (omega arith) (omega arith) (omega arith) refl i
    ∷ f_keep a b 0x55555555 1 10 (omega arith) (omega arith) (omega arith) refl i
    ∷ f_take a b 0x55555555 1 11 (omega arith) (omega arith) (omega arith) refl i
    ∷ f_keep a b 0x55555555 1 12 (omega arith) (omega arith) (omega arith) refl i
    ∷ f_take a b 0x55555555 1 13 (omega arith) (omega arith) (omega arith) refl i
    ∷ f_keep a b 0x55555555 1 14 (omega arith) (omega arith) (omega arith) refl i
    ∷ f_take a b 0x55555555 1 15 (omega arith) (omega arith) (omega arith) refl i
    ∷ f_keep a b 0x55555555 1 16 (omega arith) (omega arith) (omega arith) refl i
    ∷ f_take a b 0x55555555 1 17 (omega arith) (omega arith) (omega arith) refl i
    ∷ f_keep a b 0x55555555 1 18 (omega arith) (omega arith) (omega arith) refl i
    ∷ f_take a b 0x55555555 1 19 (omega arith) (omega arith) (omega arith) refl i
    ∷ f_keep a b 0x55555555 1 20 (omega arith) (omega arith) (omega arith) refl i
    ∷ f_take a b 0x55555555 1 21 (omega arith) (omega arith) (omega arith) refl i
    ∷ f_keep a b 0x55555555 1 22 (omega arith) (omega arith) (omega arith) refl i
    ∷ f_take a b 0x55555555 1 23 (omega arith) (omega arith) (omega arith) refl i
    ∷ f_keep a b 0x55555555 1 24 (omega arith) (omega arith) (omega arith) refl i
    ∷ f_take a b 0x55555555 1 25 (omega arith) (omega arith) (omega arith) refl i
    ∷ f_keep a b 0x55555555 1 26 (omega arith) (omega arith) (omega arith) refl i
    ∷ f_take a b 0x55555555 1 27 (omega arith) (omega arith) (omega arith) refl i
    ∷ f_keep a b 0x55555555 1 28 (omega arith) (omega arith) (omega arith) refl i
    ∷ f_take a b 0x55555555 1 29 (omega arith) (omega arith) (omega arith) refl i
    ∷ f_keep a b 0x55555555 1 30 (omega arith) (omega arith) (omega arith) refl i
    ∷ f_take a b 0x55555555 1 31 (omega arith) (omega arith) (omega arith) refl i ∷ []

each_second_1 : (a b : ℕ) → map (λ (p : ℕ). bit_at (cross_second a b 0x55555555 1) p) (range_with_len 0 32) ≡ map (λ (p : ℕ). crossed_second 1 a b p)
    (range_with_len 0 32)
each_second_1 a b = λ i.
    s_take a b 0x55555555 1 0 refl i
    ∷ s_keep a b 0x55555555 1 1 refl i
    ∷ s_take a b 0x55555555 1 2 refl i
    ∷ s_keep a b 0x55555555 1 3 refl i
    ∷ s_take a b 0x55555555 1 4 refl i
    ∷ s_keep a b 0x55555555 1 5 refl i
    ∷ s_take a b 0x55555555 1 6 refl i
    ∷ s_keep a b 0x55555555 1 7 refl i
    ∷ s_take a b 0x55555555 1 8 refl i
    ∷ s_keep a b 0x55555555 1 9 refl i
    ∷ s_take a b 0x55555555 1 10 refl i
    ∷ s_keep a b 0x55555555 1 11 refl i
    ∷ s_take a b 0x55555555 1 12 refl i
    ∷ s_keep a b 0x55555555 1 13 refl i
    ∷ s_take a b 0x55555555 1 14 refl i
    ∷ s_keep a b 0x55555555 1 15 refl i
    ∷ s_take a b 0x55555555 1 16 refl i
    ∷ s_keep a b 0x55555555 1 17 refl i
    ∷ s_take a b 0x55555555 1 18 refl i
    ∷ s_keep a b 0x55555555 1 19 refl i
    ∷ s_take a b 0x55555555 1 20 refl i
    ∷ s_keep a b 0x55555555 1 21 refl i
    ∷ s_take a b 0x55555555 1 22 refl i
    ∷ s_keep a b 0x55555555 1 23 refl i
    ∷ s_take a b 0x55555555 1 24 refl i
    ∷ s_keep a b 0x55555555 1 25 refl i
    ∷ s_take a b 0x55555555 1 26 refl i
    ∷ s_keep a b 0x55555555 1 27 refl i
    ∷ s_take a b 0x55555555 1 28 refl i
    ∷ s_keep a b 0x55555555 1 29 refl i
    ∷ s_take a b 0x55555555 1 30 refl i
    ∷ s_keep a b 0x55555555 1 31 refl i ∷ []

pub first_1 : (a b p : ℕ) → p < 32 → bit_at (cross_first a b 0x55555555 1) p ≡ crossed_first 1 a b p
first_1 a b p low = at_32 (λ (p : ℕ). bit_at (cross_first a b 0x55555555 1) p) (λ (p : ℕ). crossed_first 1 a b p) (each_first_1 a b) p low

pub second_1 : (a b p : ℕ) → p < 32 → bit_at (cross_second a b 0x55555555 1) p ≡ crossed_second 1 a b p
second_1 a b p low = at_32 (λ (p : ℕ). bit_at (cross_second a b 0x55555555 1) p) (λ (p : ℕ). crossed_second 1 a b p) (each_second_1 a b) p low

each_first_2 : (a b : ℕ) → map (λ (p : ℕ). bit_at (cross_first a b 0x33333333 2) p) (range_with_len 0 32) ≡ map (λ (p : ℕ). crossed_first 2 a b p)
    (range_with_len 0 32)
each_first_2 a b = λ i.
    f_low a b 0x33333333 2 0 (omega arith) (omega arith) i
    ∷ f_low a b 0x33333333 2 1 (omega arith) (omega arith) i
    ∷ f_take a b 0x33333333 2 2 (omega arith) (omega arith) (omega arith) refl i
    ∷ f_take a b 0x33333333 2 3 (omega arith) (omega arith) (omega arith) refl i
    ∷ f_keep a b 0x33333333 2 4 (omega arith) (omega arith) (omega arith) refl i
    ∷ f_keep a b 0x33333333 2 5 (omega arith) (omega arith) (omega arith) refl i
    ∷ f_take a b 0x33333333 2 6 (omega arith) (omega arith) (omega arith) refl i
    ∷ f_take a b 0x33333333 2 7 (omega arith) (omega arith) (omega arith) refl i
    ∷ f_keep a b 0x33333333 2 8 (omega arith) (omega arith) (omega arith) refl i
    ∷ f_keep a b 0x33333333 2 9 (omega arith) (omega arith) (omega arith) refl i
    ∷ f_take a b 0x33333333 2 10 (omega arith) (omega arith) (omega arith) refl i
    ∷ f_take a b 0x33333333 2 11 (omega arith) (omega arith) (omega arith) refl i
    ∷ f_keep a b 0x33333333 2 12 (omega arith) (omega arith) (omega arith) refl i
    ∷ f_keep a b 0x33333333 2 13 (omega arith) (omega arith) (omega arith) refl i
    ∷ f_take a b 0x33333333 2 14 (omega arith) (omega arith) (omega arith) refl i
    ∷ f_take a b 0x33333333 2 15 (omega arith) (omega arith) (omega arith) refl i
    ∷ f_keep a b 0x33333333 2 16 (omega arith) (omega arith) (omega arith) refl i
    ∷ f_keep a b 0x33333333 2 17 (omega arith) (omega arith) (omega arith) refl i
    ∷ f_take a b 0x33333333 2 18 (omega arith) (omega arith) (omega arith) refl i
    ∷ f_take a b 0x33333333 2 19 (omega arith) (omega arith) (omega arith) refl i
    ∷ f_keep a b 0x33333333 2 20 (omega arith) (omega arith) (omega arith) refl i
    ∷ f_keep a b 0x33333333 2 21 (omega arith) (omega arith) (omega arith) refl i
    ∷ f_take a b 0x33333333 2 22 (omega arith) (omega arith) (omega arith) refl i
    ∷ f_take a b 0x33333333 2 23 (omega arith) (omega arith) (omega arith) refl i
    ∷ f_keep a b 0x33333333 2 24 (omega arith) (omega arith) (omega arith) refl i
    ∷ f_keep a b 0x33333333 2 25 (omega arith) (omega arith) (omega arith) refl i
    ∷ f_take a b 0x33333333 2 26 (omega arith) (omega arith) (omega arith) refl i
    ∷ f_take a b 0x33333333 2 27 (omega arith) (omega arith) (omega arith) refl i
    ∷ f_keep a b 0x33333333 2 28 (omega arith) (omega arith) (omega arith) refl i
    ∷ f_keep a b 0x33333333 2 29 (omega arith) (omega arith) (omega arith) refl i
    ∷ f_take a b 0x33333333 2 30 (omega arith) (omega arith) (omega arith) refl i
    ∷ f_take a b 0x33333333 2 31 (omega arith) (omega arith) (omega arith) refl i ∷ []

each_second_2 : (a b : ℕ) → map (λ (p : ℕ). bit_at (cross_second a b 0x33333333 2) p) (range_with_len 0 32) ≡ map (λ (p : ℕ). crossed_second 2 a b p)
    (range_with_len 0 32)
each_second_2 a b = λ i.
    s_take a b 0x33333333 2 0 refl i
    ∷ s_take a b 0x33333333 2 1 refl i
    ∷ s_keep a b 0x33333333 2 2 refl i
    ∷ s_keep a b 0x33333333 2 3 refl i
    ∷ s_take a b 0x33333333 2 4 refl i
    ∷ s_take a b 0x33333333 2 5 refl i
    ∷ s_keep a b 0x33333333 2 6 refl i
    ∷ s_keep a b 0x33333333 2 7 refl i
    ∷ s_take a b 0x33333333 2 8 refl i
    ∷ s_take a b 0x33333333 2 9 refl i
    ∷ s_keep a b 0x33333333 2 10 refl i
    ∷ s_keep a b 0x33333333 2 11 refl i
    ∷ s_take a b 0x33333333 2 12 refl i
    ∷ s_take a b 0x33333333 2 13 refl i
    ∷ s_keep a b 0x33333333 2 14 refl i
    ∷ s_keep a b 0x33333333 2 15 refl i
    ∷ s_take a b 0x33333333 2 16 refl i
    ∷ s_take a b 0x33333333 2 17 refl i
    ∷ s_keep a b 0x33333333 2 18 refl i
    ∷ s_keep a b 0x33333333 2 19 refl i
    ∷ s_take a b 0x33333333 2 20 refl i
    ∷ s_take a b 0x33333333 2 21 refl i
    ∷ s_keep a b 0x33333333 2 22 refl i
    ∷ s_keep a b 0x33333333 2 23 refl i
    ∷ s_take a b 0x33333333 2 24 refl i
    ∷ s_take a b 0x33333333 2 25 refl i
    ∷ s_keep a b 0x33333333 2 26 refl i
    ∷ s_keep a b 0x33333333 2 27 refl i
    ∷ s_take a b 0x33333333 2 28 refl i
    ∷ s_take a b 0x33333333 2 29 refl i
    ∷ s_keep a b 0x33333333 2 30 refl i
    ∷ s_keep a b 0x33333333 2 31 refl i ∷ []

pub first_2 : (a b p : ℕ) → p < 32 → bit_at (cross_first a b 0x33333333 2) p ≡ crossed_first 2 a b p
first_2 a b p low = at_32 (λ (p : ℕ). bit_at (cross_first a b 0x33333333 2) p) (λ (p : ℕ). crossed_first 2 a b p) (each_first_2 a b) p low

pub second_2 : (a b p : ℕ) → p < 32 → bit_at (cross_second a b 0x33333333 2) p ≡ crossed_second 2 a b p
second_2 a b p low = at_32 (λ (p : ℕ). bit_at (cross_second a b 0x33333333 2) p) (λ (p : ℕ). crossed_second 2 a b p) (each_second_2 a b) p low

each_first_4 : (a b : ℕ) → map (λ (p : ℕ). bit_at (cross_first a b 0x0f0f0f0f 4) p) (range_with_len 0 32) ≡ map (λ (p : ℕ). crossed_first 4 a b p)
    (range_with_len 0 32)
each_first_4 a b = λ i.
    f_low a b 0x0f0f0f0f 4 0 (omega arith) (omega arith) i
    ∷ f_low a b 0x0f0f0f0f 4 1 (omega arith) (omega arith) i
    ∷ f_low a b 0x0f0f0f0f 4 2 (omega arith) (omega arith) i
    ∷ f_low a b 0x0f0f0f0f 4 3 (omega arith) (omega arith) i
    ∷ f_take a b 0x0f0f0f0f 4 4 (omega arith) (omega arith) (omega arith) refl i
    ∷ f_take a b 0x0f0f0f0f 4 5 (omega arith) (omega arith) (omega arith) refl i
    ∷ f_take a b 0x0f0f0f0f 4 6 (omega arith) (omega arith) (omega arith) refl i
    ∷ f_take a b 0x0f0f0f0f 4 7 (omega arith) (omega arith) (omega arith) refl i
    ∷ f_keep a b 0x0f0f0f0f 4 8 (omega arith) (omega arith) (omega arith) refl i
    ∷ f_keep a b 0x0f0f0f0f 4 9 (omega arith) (omega arith) (omega arith) refl i
    ∷ f_keep a b 0x0f0f0f0f 4 10 (omega arith) (omega arith) (omega arith) refl i
    ∷ f_keep a b 0x0f0f0f0f 4 11 (omega arith) (omega arith) (omega arith) refl i
    ∷ f_take a b 0x0f0f0f0f 4 12 (omega arith) (omega arith) (omega arith) refl i
    ∷ f_take a b 0x0f0f0f0f 4 13 (omega arith) (omega arith) (omega arith) refl i
    ∷ f_take a b 0x0f0f0f0f 4 14 (omega arith) (omega arith) (omega arith) refl i
    ∷ f_take a b 0x0f0f0f0f 4 15 (omega arith) (omega arith) (omega arith) refl i
    ∷ f_keep a b 0x0f0f0f0f 4 16 (omega arith) (omega arith) (omega arith) refl i
    ∷ f_keep a b 0x0f0f0f0f 4 17 (omega arith) (omega arith) (omega arith) refl i
    ∷ f_keep a b 0x0f0f0f0f 4 18 (omega arith) (omega arith) (omega arith) refl i
    ∷ f_keep a b 0x0f0f0f0f 4 19 (omega arith) (omega arith) (omega arith) refl i
    ∷ f_take a b 0x0f0f0f0f 4 20 (omega arith) (omega arith) (omega arith) refl i
    ∷ f_take a b 0x0f0f0f0f 4 21 (omega arith) (omega arith) (omega arith) refl i
    ∷ f_take a b 0x0f0f0f0f 4 22 (omega arith) (omega arith) (omega arith) refl i
    ∷ f_take a b 0x0f0f0f0f 4 23 (omega arith) (omega arith) (omega arith) refl i
    ∷ f_keep a b 0x0f0f0f0f 4 24 (omega arith) (omega arith) (omega arith) refl i
    ∷ f_keep a b 0x0f0f0f0f 4 25 (omega arith) (omega arith) (omega arith) refl i
    ∷ f_keep a b 0x0f0f0f0f 4 26 (omega arith) (omega arith) (omega arith) refl i
    ∷ f_keep a b 0x0f0f0f0f 4 27 (omega arith) (omega arith) (omega arith) refl i
    ∷ f_take a b 0x0f0f0f0f 4 28 (omega arith) (omega arith) (omega arith) refl i
    ∷ f_take a b 0x0f0f0f0f 4 29 (omega arith) (omega arith) (omega arith) refl i
    ∷ f_take a b 0x0f0f0f0f 4 30 (omega arith) (omega arith) (omega arith) refl i
    ∷ f_take a b 0x0f0f0f0f 4 31 (omega arith) (omega arith) (omega arith) refl i ∷ []

each_second_4 : (a b : ℕ) → map (λ (p : ℕ). bit_at (cross_second a b 0x0f0f0f0f 4) p) (range_with_len 0 32) ≡ map (λ (p : ℕ). crossed_second 4 a b p)
    (range_with_len 0 32)
each_second_4 a b = λ i.
    s_take a b 0x0f0f0f0f 4 0 refl i
    ∷ s_take a b 0x0f0f0f0f 4 1 refl i
    ∷ s_take a b 0x0f0f0f0f 4 2 refl i
    ∷ s_take a b 0x0f0f0f0f 4 3 refl i
    ∷ s_keep a b 0x0f0f0f0f 4 4 refl i
    ∷ s_keep a b 0x0f0f0f0f 4 5 refl i
    ∷ s_keep a b 0x0f0f0f0f 4 6 refl i
    ∷ s_keep a b 0x0f0f0f0f 4 7 refl i
    ∷ s_take a b 0x0f0f0f0f 4 8 refl i
    ∷ s_take a b 0x0f0f0f0f 4 9 refl i
    ∷ s_take a b 0x0f0f0f0f 4 10 refl i
    ∷ s_take a b 0x0f0f0f0f 4 11 refl i
    ∷ s_keep a b 0x0f0f0f0f 4 12 refl i
    ∷ s_keep a b 0x0f0f0f0f 4 13 refl i
    ∷ s_keep a b 0x0f0f0f0f 4 14 refl i
    ∷ s_keep a b 0x0f0f0f0f 4 15 refl i
    ∷ s_take a b 0x0f0f0f0f 4 16 refl i
    ∷ s_take a b 0x0f0f0f0f 4 17 refl i
    ∷ s_take a b 0x0f0f0f0f 4 18 refl i
    ∷ s_take a b 0x0f0f0f0f 4 19 refl i
    ∷ s_keep a b 0x0f0f0f0f 4 20 refl i
    ∷ s_keep a b 0x0f0f0f0f 4 21 refl i
    ∷ s_keep a b 0x0f0f0f0f 4 22 refl i
    ∷ s_keep a b 0x0f0f0f0f 4 23 refl i
    ∷ s_take a b 0x0f0f0f0f 4 24 refl i
    ∷ s_take a b 0x0f0f0f0f 4 25 refl i
    ∷ s_take a b 0x0f0f0f0f 4 26 refl i
    ∷ s_take a b 0x0f0f0f0f 4 27 refl i
    ∷ s_keep a b 0x0f0f0f0f 4 28 refl i
    ∷ s_keep a b 0x0f0f0f0f 4 29 refl i
    ∷ s_keep a b 0x0f0f0f0f 4 30 refl i
    ∷ s_keep a b 0x0f0f0f0f 4 31 refl i ∷ []

pub first_4 : (a b p : ℕ) → p < 32 → bit_at (cross_first a b 0x0f0f0f0f 4) p ≡ crossed_first 4 a b p
first_4 a b p low = at_32 (λ (p : ℕ). bit_at (cross_first a b 0x0f0f0f0f 4) p) (λ (p : ℕ). crossed_first 4 a b p) (each_first_4 a b) p low

pub second_4 : (a b p : ℕ) → p < 32 → bit_at (cross_second a b 0x0f0f0f0f 4) p ≡ crossed_second 4 a b p
second_4 a b p low = at_32 (λ (p : ℕ). bit_at (cross_second a b 0x0f0f0f0f 4) p) (λ (p : ℕ). crossed_second 4 a b p) (each_second_4 a b) p low
