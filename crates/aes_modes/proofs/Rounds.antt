-- The steps of a round and of the key schedule, as sums and look-ups of 16 octets.
use Rattle.std.proofs.Common.{◌≡◌, ℕ, ◌+◌, ◌*◌, ◌/◌, ◌%◌, ◌<◌, List, [], ◌∷◌, ◌++◌, map, get_or, length, bit_xor, refl, sym, ap, subst, ◌∙◌, arith}
use Rattle.std.specs.List.{range_with_len}
use Rattle.std.specs.Int.Bits.{xor_zero_l, xor_zero_r, xor_assoc}
use Rattle.std.proofs.lemmas.Nat.{xor_comm, xor_shr, xor_mod, xor_of_8}
use Rattle.std.proofs.lemmas.Simd.{Each1-get_or}
use lib.Lanes.{zip2, Each1}
use Rattle.aes_modes.specs.Field.{product, inverse, s_box}
use Rattle.aes_modes.specs.Cipher.{sub_bytes, shift_rows, mixed_column, round, next_round_key}
use Rattle.aes_modes.specs.LookUps.{entry, unturned_low, unturned_high, unturned, unhidden, once, twice}
use Rattle.aes_modes.specs.Rounds.{mixed}
use Rattle.aes_modes.specs.declared.cipher.TheConstants.{OWN, ROT_WORD, BY_ONE, BY_TWO, BY_THREE}
use Rattle.aes_modes.proofs.LookUps.{at}
use Rattle.aes_modes.proofs.Written.{spelled}

pub shifted : (s : List ℕ) → map (entry s) OWN ≡ shift_rows s
shifted s = refl

-- # Sums

pub turn0 : (p q r s : ℕ) → bit_xor (bit_xor p q) (bit_xor r s) ≡ bit_xor (bit_xor (bit_xor p q) r) s
turn0 p q r s = sym (xor_assoc (bit_xor p q) r s)

pub turn3 : (p q r s : ℕ) → bit_xor (bit_xor p q) (bit_xor r s) ≡ bit_xor (bit_xor (bit_xor q r) s) p
turn3 p q r s =
    xor_assoc p q (bit_xor r s) ∙ ap (bit_xor p) (sym (xor_assoc q r s)) ∙ xor_comm p (bit_xor (bit_xor q r) s)

pub turn2 : (p q r s : ℕ) → bit_xor (bit_xor p q) (bit_xor r s) ≡ bit_xor (bit_xor (bit_xor r s) p) q
turn2 p q r s = xor_comm (bit_xor p q) (bit_xor r s) ∙ turn0 r s p q

pub turn1 : (p q r s : ℕ) → bit_xor (bit_xor p q) (bit_xor r s) ≡ bit_xor (bit_xor (bit_xor s p) q) r
turn1 p q r s = xor_comm (bit_xor p q) (bit_xor r s) ∙ turn3 r s p q

pub swapped : (p q r s : ℕ) → bit_xor (bit_xor p q) (bit_xor r s) ≡ bit_xor (bit_xor p r) (bit_xor q s)
swapped p q r s =
    xor_assoc p q (bit_xor r s)
    ∙ ap (bit_xor p) (sym (xor_assoc q r s) ∙ ap (λ (x : ℕ). bit_xor x s) (xor_comm q r) ∙ xor_assoc r q s)
    ∙ sym (xor_assoc p r (bit_xor q s))

-- # Turning back goes through sums

abbrev pairs_in : List ℕ → ℕ → ℕ
pairs_in t n = entry t (bit_xor (n / 16) (n % 16))

abbrev pairs_out : List ℕ → ℕ → ℕ
pairs_out t n = bit_xor (entry t (n / 16)) (entry t (n % 16))

sum_entry : (t : List ℕ) → map (pairs_in t) (range_with_len 0 256) ≡ map (pairs_out t) (range_with_len 0 256)
    → (i j : ℕ) → i < 16 → j < 16 → entry t (bit_xor i j) ≡ bit_xor (entry t i) (entry t j)
sum_entry t same i j li lj =
    let d : (16 * i + j) / 16 ≡ i = omega arith in
    let m : (16 * i + j) % 16 ≡ j = omega arith in
    (λ q. entry t (bit_xor (sym d q) (sym m q))) ∙ at (pairs_in t) (pairs_out t) same (16 * i + j) (omega arith)
    ∙ (λ q. bit_xor (entry t (d q)) (entry t (m q)))

sums_low : map (pairs_in unturned_low) (range_with_len 0 256) ≡ map (pairs_out unturned_low) (range_with_len 0 256)
sums_low = refl

sums_high : map (pairs_in unturned_high) (range_with_len 0 256) ≡ map (pairs_out unturned_high) (range_with_len 0 256)
sums_high = refl

back_sum : (a b : ℕ) → a < 256 → b < 256 → unturned (bit_xor a b) ≡ bit_xor (unturned a) (unturned b)
back_sum a b la lb =
    (λ q. bit_xor (entry unturned_low (xor_mod a b 4 q)) (entry unturned_high (xor_shr a b 4 q)))
    ∙ (λ q. bit_xor (sum_entry unturned_low sums_low (a % 16) (b % 16) (omega arith) (omega arith) q)
    (sum_entry unturned_high sums_high (a / 16) (b / 16) (omega arith) (omega arith) q))
    ∙ swapped (entry unturned_low (a % 16)) (entry unturned_low (b % 16)) (entry unturned_high (a / 16)) (entry unturned_high (b / 16))

-- # What an octet gives to a round

abbrev box : ℕ → ℕ
box b = s_box (unturned b)

abbrev thrice : ℕ → ℕ
thrice b = bit_xor (twice b) (once b)

abbrev once_out : ℕ → ℕ
once_out b = bit_xor (box b) 99

abbrev twice_out : ℕ → ℕ
twice_out b = bit_xor (product 2 (box b)) 198

abbrev thrice_out : ℕ → ℕ
thrice_out b = bit_xor (product 3 (box b)) 165

all_once : map (λ (b : ℕ). unturned (once b)) (range_with_len 0 256) ≡ map once_out (range_with_len 0 256)
unfolding product inverse s_box
all_once = refl

all_twice : map (λ (b : ℕ). unturned (twice b)) (range_with_len 0 256) ≡ map twice_out (range_with_len 0 256)
unfolding product inverse s_box
all_twice = refl

all_thrice : map (λ (b : ℕ). unturned (thrice b)) (range_with_len 0 256) ≡ map thrice_out (range_with_len 0 256)
unfolding product inverse s_box
all_thrice = refl

octet : (f : ℕ → ℕ) → map f (range_with_len 0 256) ≡ map (λ (b : ℕ). f b % 256) (range_with_len 0 256) → (b : ℕ) → b < 256 → f b < 256
octet f same b low = let e : f b ≡ f b % 256 = at f (λ (b : ℕ). f b % 256) same b low in omega (arith, e)

once_octet : (b : ℕ) → b < 256 → once b < 256
once_octet = octet once refl

twice_octet : (b : ℕ) → b < 256 → twice b < 256
twice_octet = octet twice refl

thrice_octet : (b : ℕ) → b < 256 → thrice b < 256
thrice_octet = octet thrice refl

-- # A round

without : (p q r s k : ℕ)
    → bit_xor (bit_xor (bit_xor (bit_xor p 198) (bit_xor q 165)) (bit_xor (bit_xor r 99) (bit_xor s 99))) k
    ≡ bit_xor (bit_xor (bit_xor p q) (bit_xor r s)) (bit_xor k 99)
without p q r s k =
    (λ i. bit_xor (bit_xor (swapped p 198 q 165 i) (swapped r 99 s 99 i)) k)
    ∙ (λ i. bit_xor (swapped (bit_xor p q) 99 (bit_xor r s) 0 i) k)
    ∙ xor_assoc (bit_xor (bit_xor p q) (bit_xor r s)) 99 k
    ∙ ap (bit_xor (bit_xor (bit_xor p q) (bit_xor r s))) (xor_comm 99 k)

lane : (a b c d k : ℕ) → a < 256 → b < 256 → c < 256 → d < 256 → k < 256
    → unturned (bit_xor (bit_xor (bit_xor (twice a) (thrice b)) (bit_xor (once c) (once d))) k)
    ≡ bit_xor (bit_xor (bit_xor (product 2 (box a)) (product 3 (box b))) (bit_xor (box c) (box d))) (unhidden k)
lane a b c d k la lb lc ld lk =
    let ta = twice_octet a la in
    let tb = thrice_octet b lb in
    let oc = once_octet c lc in
    let od = once_octet d ld in
    let left = xor_of_8 (twice a) (thrice b) ta tb in
    let right = xor_of_8 (once c) (once d) oc od in
    back_sum (bit_xor (bit_xor (twice a) (thrice b)) (bit_xor (once c) (once d))) k
    (xor_of_8 (bit_xor (twice a) (thrice b)) (bit_xor (once c) (once d)) left right) lk
    ∙ (λ i. bit_xor (back_sum (bit_xor (twice a) (thrice b)) (bit_xor (once c) (once d)) left right i) (unturned k))
    ∙ (λ i. bit_xor (bit_xor (back_sum (twice a) (thrice b) ta tb i) (back_sum (once c) (once d) oc od i)) (unturned k))
    ∙ (λ i. bit_xor
    (bit_xor
    (bit_xor (at (λ (b : ℕ). unturned (twice b)) twice_out all_twice a la i) (at (λ (b : ℕ). unturned (thrice b)) thrice_out all_thrice b lb i))
    (bit_xor (at (λ (b : ℕ). unturned (once b)) once_out all_once c lc i) (at (λ (b : ℕ). unturned (once b)) once_out all_once d ld i)))
    (unturned k))
    ∙ without (product 2 (box a)) (product 3 (box b)) (box c) (box d) (unturned k)

abbrev sum : ℕ → ℕ → ℕ → ℕ → ℕ → ℕ
sum p q r s k = unturned (bit_xor (bit_xor (bit_xor p q) (bit_xor r s)) k)

abbrev keyed : List ℕ → ℕ → ℕ → ℕ → ℕ → List ℕ
keyed (a ∷ b ∷ c ∷ d ∷ []) k l m n = bit_xor a (unhidden k) ∷ bit_xor b (unhidden l) ∷ bit_xor c (unhidden m) ∷ bit_xor d (unhidden n) ∷ []
keyed _ k l m n = []

column : (a b c d k l m n : ℕ) → a < 256 → b < 256 → c < 256 → d < 256 → k < 256 → l < 256 → m < 256 → n < 256
    → (sum (twice a) (thrice b) (once c) (once d) k ∷ sum (twice b) (thrice c) (once d) (once a) l
    ∷ sum (twice c) (thrice d) (once a) (once b) m ∷ sum (twice d) (thrice a) (once b) (once c) n ∷ [])
    ≡ keyed (mixed_column (box a) (box b) (box c) (box d)) k l m n
column a b c d k l m n la lb lc ld lk ll lm ln = λ i.
    (lane a b c d k la lb lc ld lk
    ∙ ap (λ (x : ℕ). bit_xor x (unhidden k)) (turn0 (product 2 (box a)) (product 3 (box b)) (box c) (box d))) i
    ∷ (lane b c d a l lb lc ld la ll
    ∙ ap (λ (x : ℕ). bit_xor x (unhidden l)) (turn1 (product 2 (box b)) (product 3 (box c)) (box d) (box a))) i
    ∷ (lane c d a b m lc ld la lb lm
    ∙ ap (λ (x : ℕ). bit_xor x (unhidden m)) (turn2 (product 2 (box c)) (product 3 (box d)) (box a) (box b))) i
    ∷ (lane d a b c n ld la lb lc ln
    ∙ ap (λ (x : ℕ). bit_xor x (unhidden n)) (turn3 (product 2 (box d)) (product 3 (box a)) (box b) (box c))) i ∷ []

abbrev new_state : List ℕ → List ℕ → List ℕ
new_state s k = map unturned (zip2 bit_xor (mixed (map once s) (map twice s)) k)

round_16 : (s0 s1 s2 s3 s4 s5 s6 s7 s8 s9 s10 s11 s12 s13 s14 s15 k0 k1 k2 k3 k4 k5 k6 k7 k8 k9 k10 k11 k12 k13 k14 k15 : ℕ)
    → s0 < 256 → s1 < 256 → s2 < 256 → s3 < 256 → s4 < 256 → s5 < 256 → s6 < 256 → s7 < 256 → s8 < 256 → s9 < 256 → s10 < 256 → s11 < 256 → s12 < 256
    → s13 < 256 → s14 < 256 → s15 < 256
    → k0 < 256 → k1 < 256 → k2 < 256 → k3 < 256 → k4 < 256 → k5 < 256 → k6 < 256 → k7 < 256 → k8 < 256 → k9 < 256 → k10 < 256 → k11 < 256 → k12 < 256
    → k13 < 256 → k14 < 256 → k15 < 256
    → new_state (s0 ∷ s1 ∷ s2 ∷ s3 ∷ s4 ∷ s5 ∷ s6 ∷ s7 ∷ s8 ∷ s9 ∷ s10 ∷ s11 ∷ s12 ∷ s13 ∷ s14 ∷ s15 ∷ []) (k0 ∷ k1 ∷ k2 ∷ k3 ∷ k4 ∷ k5 ∷ k6 ∷ k7 ∷
    k8 ∷ k9 ∷ k10 ∷ k11 ∷ k12 ∷ k13 ∷ k14 ∷ k15 ∷ [])
    ≡ round (map unhidden (k0 ∷ k1 ∷ k2 ∷ k3 ∷ k4 ∷ k5 ∷ k6 ∷ k7 ∷ k8 ∷ k9 ∷ k10 ∷ k11 ∷ k12 ∷ k13 ∷ k14 ∷ k15 ∷ [])) (map unturned (s0 ∷ s1 ∷ s2 ∷
    s3 ∷ s4 ∷ s5 ∷ s6 ∷ s7 ∷ s8 ∷ s9 ∷ s10 ∷ s11 ∷ s12 ∷ s13 ∷ s14 ∷ s15 ∷ []))
unfolding round
round_16 s0 s1 s2 s3 s4 s5 s6 s7 s8 s9 s10 s11 s12 s13 s14 s15 k0 k1 k2 k3 k4 k5 k6 k7 k8 k9 k10 k11 k12 k13 k14 k15 l0 l1 l2 l3 l4 l5 l6 l7 l8 l9
    l10 l11 l12 l13 l14 l15 m0 m1 m2 m3 m4 m5 m6 m7 m8 m9 m10 m11 m12 m13 m14 m15 = λ i.
    column s0 s5 s10 s15 k0 k1 k2 k3 l0 l5 l10 l15 m0 m1 m2 m3 i
    ++ column s4 s9 s14 s3 k4 k5 k6 k7 l4 l9 l14 l3 m4 m5 m6 m7 i
    ++ column s8 s13 s2 s7 k8 k9 k10 k11 l8 l13 l2 l7 m8 m9 m10 m11 i
    ++ column s12 s1 s6 s11 k12 k13 k14 k15 l12 l1 l6 l11 m12 m13 m14 m15 i

pub round_is : (s k : List ℕ) → length s ≡ 16 → Each1 (λ (b : ℕ). b < 256) s → length k ≡ 16 → Each1 (λ (b : ℕ). b < 256) k
    → new_state s k ≡ round (map unhidden k) (map unturned s)
round_is s k len low klen klow =
    let l : (i : ℕ) → i < 16 → get_or s i 0 < 256 = λ i h. Each1-get_or (λ (b : ℕ). b < 256) s i 0 (omega arith) low in
    let m : (i : ℕ) → i < 16 → get_or k i 0 < 256 = λ i h. Each1-get_or (λ (b : ℕ). b < 256) k i 0 (omega arith) klow in
    subst (λ (xs : List ℕ). new_state xs k ≡ round (map unhidden k) (map unturned xs)) (spelled 16 s len)
    (subst (λ (ys : List ℕ). new_state (get_or s 0 0 ∷ get_or s 1 0 ∷ get_or s 2 0 ∷ get_or s 3 0 ∷ get_or s 4 0 ∷ get_or s 5 0 ∷ get_or s 6 0 ∷
    get_or s 7 0 ∷ get_or s 8 0 ∷ get_or s 9 0 ∷ get_or s 10 0 ∷ get_or s 11 0 ∷ get_or s 12 0 ∷ get_or s 13 0 ∷ get_or s 14 0 ∷ get_or s 15 0 ∷ [])
    ys
    ≡ round (map unhidden ys) (map unturned (get_or s 0 0 ∷ get_or s 1 0 ∷ get_or s 2 0 ∷ get_or s 3 0 ∷ get_or s 4 0 ∷ get_or s 5 0 ∷ get_or s 6 0 ∷
    get_or s 7 0 ∷ get_or s 8 0 ∷ get_or s 9 0 ∷ get_or s 10 0 ∷ get_or s 11 0 ∷ get_or s 12 0 ∷ get_or s 13 0 ∷ get_or s 14 0 ∷ get_or s 15 0 ∷
    []))) (spelled 16 k klen)
    (round_16 (get_or s 0 0) (get_or s 1 0) (get_or s 2 0) (get_or s 3 0) (get_or s 4 0) (get_or s 5 0) (get_or s 6 0) (get_or s 7 0) (get_or s 8 0)
    (get_or s 9 0) (get_or s 10 0) (get_or s 11 0) (get_or s 12 0) (get_or s 13 0) (get_or s 14 0) (get_or s 15 0)
    (get_or k 0 0) (get_or k 1 0) (get_or k 2 0) (get_or k 3 0) (get_or k 4 0) (get_or k 5 0) (get_or k 6 0) (get_or k 7 0) (get_or k 8 0) (get_or k
    9 0) (get_or k 10 0) (get_or k 11 0) (get_or k 12 0) (get_or k 13 0) (get_or k 14 0) (get_or k 15 0)
    (l 0 (omega arith)) (l 1 (omega arith)) (l 2 (omega arith)) (l 3 (omega arith)) (l 4 (omega arith)) (l 5 (omega arith)) (l 6 (omega arith)) (l 7
    (omega arith)) (l 8 (omega arith)) (l 9 (omega arith)) (l 10 (omega arith)) (l 11 (omega arith)) (l 12 (omega arith)) (l 13 (omega arith)) (l 14
    (omega arith)) (l 15 (omega arith))
    (m 0 (omega arith)) (m 1 (omega arith)) (m 2 (omega arith)) (m 3 (omega arith)) (m 4 (omega arith)) (m 5 (omega arith)) (m 6 (omega arith)) (m 7
    (omega arith)) (m 8 (omega arith)) (m 9 (omega arith)) (m 10 (omega arith)) (m 11 (omega arith)) (m 12 (omega arith)) (m 13 (omega arith)) (m 14
    (omega arith)) (m 15 (omega arith))))

-- # The key schedule

abbrev spread : ℕ → List ℕ
spread c = c ∷ 0 ∷ 0 ∷ 0 ∷ c ∷ 0 ∷ 0 ∷ 0 ∷ c ∷ 0 ∷ 0 ∷ 0 ∷ c ∷ 0 ∷ 0 ∷ 0 ∷ []

abbrev temp : List ℕ → ℕ → List ℕ
temp k c = zip2 bit_xor (map (entry (map s_box k)) ROT_WORD) (spread c)

abbrev next : List ℕ → ℕ → List ℕ
next k c =
    zip2 bit_xor k
    (zip2 bit_xor (map (entry k) BY_ONE) (zip2 bit_xor (map (entry k) BY_TWO) (zip2 bit_xor (map (entry k) BY_THREE) (temp k c))))

zeros1 : (t u : ℕ) → t ≡ u → bit_xor 0 t ≡ u
zeros1 t u e = xor_zero_l t ∙ e

zeros2 : (t u : ℕ) → t ≡ u → bit_xor 0 (bit_xor 0 t) ≡ u
zeros2 t u e = zeros1 (bit_xor 0 t) u (zeros1 t u e)

zeros3 : (t u : ℕ) → t ≡ u → bit_xor 0 (bit_xor 0 (bit_xor 0 t)) ≡ u
zeros3 t u e = zeros1 (bit_xor 0 (bit_xor 0 t)) u (zeros2 t u e)

next_16 : (s0 s1 s2 s3 s4 s5 s6 s7 s8 s9 s10 s11 s12 s13 s14 s15 c : ℕ)
    → next (s0 ∷ s1 ∷ s2 ∷ s3 ∷ s4 ∷ s5 ∷ s6 ∷ s7 ∷ s8 ∷ s9 ∷ s10 ∷ s11 ∷ s12 ∷ s13 ∷ s14 ∷ s15 ∷ []) c ≡ next_round_key c (s0 ∷ s1 ∷ s2 ∷ s3 ∷ s4 ∷
    s5 ∷ s6 ∷ s7 ∷ s8 ∷ s9 ∷ s10 ∷ s11 ∷ s12 ∷ s13 ∷ s14 ∷ s15 ∷ [])
unfolding next_round_key
next_16 s0 s1 s2 s3 s4 s5 s6 s7 s8 s9 s10 s11 s12 s13 s14 s15 c =
    let e0 : bit_xor (s_box s13) c ≡ bit_xor (s_box s13) c = refl in
    let e1 : bit_xor (s_box s14) 0 ≡ s_box s14 = xor_zero_r (s_box s14) in
    let e2 : bit_xor (s_box s15) 0 ≡ s_box s15 = xor_zero_r (s_box s15) in
    let e3 : bit_xor (s_box s12) 0 ≡ s_box s12 = xor_zero_r (s_box s12) in
    λ i.
    bit_xor s0 (zeros3 (bit_xor (s_box s13) c) (bit_xor (s_box s13) c) e0 i)
    ∷ bit_xor s1 (zeros3 (bit_xor (s_box s14) 0) (s_box s14) e1 i)
    ∷ bit_xor s2 (zeros3 (bit_xor (s_box s15) 0) (s_box s15) e2 i)
    ∷ bit_xor s3 (zeros3 (bit_xor (s_box s12) 0) (s_box s12) e3 i)
    ∷ bit_xor s4 (bit_xor s0 (zeros2 (bit_xor (s_box s13) c) (bit_xor (s_box s13) c) e0 i))
    ∷ bit_xor s5 (bit_xor s1 (zeros2 (bit_xor (s_box s14) 0) (s_box s14) e1 i))
    ∷ bit_xor s6 (bit_xor s2 (zeros2 (bit_xor (s_box s15) 0) (s_box s15) e2 i))
    ∷ bit_xor s7 (bit_xor s3 (zeros2 (bit_xor (s_box s12) 0) (s_box s12) e3 i))
    ∷ bit_xor s8 (bit_xor s4 (bit_xor s0 (zeros1 (bit_xor (s_box s13) c) (bit_xor (s_box s13) c) e0 i)))
    ∷ bit_xor s9 (bit_xor s5 (bit_xor s1 (zeros1 (bit_xor (s_box s14) 0) (s_box s14) e1 i)))
    ∷ bit_xor s10 (bit_xor s6 (bit_xor s2 (zeros1 (bit_xor (s_box s15) 0) (s_box s15) e2 i)))
    ∷ bit_xor s11 (bit_xor s7 (bit_xor s3 (zeros1 (bit_xor (s_box s12) 0) (s_box s12) e3 i)))
    ∷ bit_xor s12 (bit_xor s8 (bit_xor s4 (bit_xor s0 (e0 i))))
    ∷ bit_xor s13 (bit_xor s9 (bit_xor s5 (bit_xor s1 (e1 i))))
    ∷ bit_xor s14 (bit_xor s10 (bit_xor s6 (bit_xor s2 (e2 i))))
    ∷ bit_xor s15 (bit_xor s11 (bit_xor s7 (bit_xor s3 (e3 i)))) ∷ []

pub next_is : (k : List ℕ) (c : ℕ) → length k ≡ 16 → next k c ≡ next_round_key c k
next_is k c len =
    subst (λ (xs : List ℕ). next xs c ≡ next_round_key c xs) (spelled 16 k len)
    (next_16 (get_or k 0 0) (get_or k 1 0) (get_or k 2 0) (get_or k 3 0) (get_or k 4 0) (get_or k 5 0) (get_or k 6 0) (get_or k 7 0) (get_or k 8 0)
    (get_or k 9 0) (get_or k 10 0) (get_or k 11 0) (get_or k 12 0) (get_or k 13 0) (get_or k 14 0) (get_or k 15 0) c)

-- from its steps
pub next_of : (k boxes turned temporary one two three x y z r : List ℕ) (c : ℕ) → length k ≡ 16
    → boxes ≡ sub_bytes k → turned ≡ map (entry boxes) ROT_WORD
    → temporary ≡ zip2 bit_xor turned (spread c)
    → one ≡ map (entry k) BY_ONE → two ≡ map (entry k) BY_TWO → three ≡ map (entry k) BY_THREE
    → x ≡ zip2 bit_xor three temporary → y ≡ zip2 bit_xor two x → z ≡ zip2 bit_xor one y → r ≡ zip2 bit_xor k z
    → r ≡ next_round_key c k
next_of k boxes turned temporary one two three x y z r c len eb et ep e1 e2 e3 ex ey ez er =
    let ht : turned ≡ map (entry (map s_box k)) ROT_WORD = et ∙ (λ i. map (entry (eb i)) ROT_WORD) in
    let hp : temporary ≡ temp k c =
    ep ∙ (λ i. zip2 bit_xor (ht i) (spread c)) in
    let hx : x ≡ zip2 bit_xor (map (entry k) BY_THREE) (temp k c) = ex ∙ (λ i. zip2 bit_xor (e3 i) (hp i)) in
    let hy : y ≡ zip2 bit_xor (map (entry k) BY_TWO) (zip2 bit_xor (map (entry k) BY_THREE) (temp k c)) = ey ∙ (λ i. zip2 bit_xor (e2 i) (hx i)) in
    er ∙ (λ i. zip2 bit_xor k ((ez ∙ (λ j. zip2 bit_xor (e1 j) (hy j))) i)) ∙ next_is k c len
