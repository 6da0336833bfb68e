-- The octets of digits by look-ups.
use Rattle.std.proofs.Common.{◌≡◌, ℕ, ◌+◌, ◌*◌, ◌/◌, ◌%◌, ◌<◌, ◌≤◌, ◌-◌, Bool, true, false, List, [], ◌∷◌, ◌++◌, length, map, take, drop}
use Rattle.std.proofs.Common.{replicate, get_or, Option, Some, None}
use Rattle.std.proofs.Common.{zero, suc, ◌^◌, Result, Ok, Err, inl, inr, nat_eq, nat_le, not, ◌||◌, refl, sym, ap, subst, ◌∙◌, arith}
use Rattle.std.specs.List.{range_with_len}
use Rattle.std.specs.Option.{option_map}
use Rattle.std.specs.Result.{result_ok}
use Rattle.std.specs.Simd.{first_chunks}
use Rattle.std.proofs.lemmas.Bool.{cases_lt, cond-true, cond-false, leb-true, leb-false, lt-ltb, le-ltb, or_parts, both_ways, eq-eqb, ne_eqb}
use Rattle.std.proofs.lemmas.List.{append_assoc, drop-drop, take-append-drop, take-append-le, take_all, length-drop, length-take-le}
use Rattle.std.proofs.lemmas.List.FromFn.{get_or-map-range_with_len}
use Rattle.std.proofs.lemmas.Simd.{pick_l_whole}
use lib.Dec.{leb, ltb}
use lib.Lanes.{Each1, mask_l, pick_l, zip2}
use mathlib.Core.Bool.{cond}
use Rattle.hex.specs.Hex.{decode_of, decode_pairs, digit_or_error, hex_digit_value, pair_value, ◌>>=◌}
use Rattle.hex.specs.declared.error.FromHexError.{FromHexError}
use Rattle.hex.proofs.HexLemmas.{decode_of-even}
use Rattle.line_script.specs.Digits.{digit_value, has_mark, lane_octet, lane_sum}

-- # The octets of digits, wherever they stand

-- the octet of two values
abbrev pub joined : Option ℕ → Option ℕ → Option ℕ
joined None b = None
joined (Some v) None = None
joined (Some v) (Some w) = Some (v * 16 + w)

-- an octet before others
abbrev pub more : Option ℕ → Option (List ℕ) → Option (List ℕ)
more None r = None
more (Some v) None = None
more (Some v) (Some xs) = Some (v ∷ xs)

-- octets, and others after them
abbrev pub both : Option (List ℕ) → Option (List ℕ) → Option (List ℕ)
both None r = None
both (Some xs) None = None
both (Some xs) (Some ys) = Some (xs ++ ys)

abbrev pub octets_of : List ℕ → Option (List ℕ)
octets_of [] = Some []
octets_of (a ∷ []) = None
octets_of (a ∷ b ∷ s) = more (joined (hex_digit_value a) (hex_digit_value b)) (octets_of s)

pair_joined : (a b : Option ℕ) (c d i : ℕ) → result_ok (digit_or_error c i a >>= λ h. digit_or_error d (i + 1) b >>= λ l. Ok (h * 16 + l)) ≡ joined a b
pair_joined None b c d i = refl
pair_joined (Some v) None c d i = refl
pair_joined (Some v) (Some w) c d i = refl

then_more : (p : Result ℕ FromHexError) (r : Result (List ℕ) FromHexError)
    → result_ok (p >>= λ v. r >>= λ xs. Ok (v ∷ xs)) ≡ more (result_ok p) (result_ok r)
then_more (Ok v) (Ok xs) = refl
then_more (Ok v) (Err e) = refl
then_more (Err e) r = refl

octets_are : (i : ℕ) (s : List ℕ) → result_ok (decode_pairs i s) ≡ octets_of s
unfolding decode_pairs
octets_are i [] = refl
octets_are i (a ∷ []) = refl
octets_are i (a ∷ b ∷ s) =
    then_more (pair_value a b i) (decode_pairs (i + 2) s)
    ∙ (λ k. more (pair_joined (hex_digit_value a) (hex_digit_value b) a b i k) (octets_are (i + 2) s k))

pub decoded : (s : List ℕ) → length s % 2 ≡ 0 → result_ok (decode_of s) ≡ octets_of s
decoded s even = ap result_ok (decode_of-even s even) ∙ octets_are 0 s

more_both : (j : Option ℕ) (r t : Option (List ℕ)) → more j (both r t) ≡ both (more j r) t
more_both None r t = refl
more_both (Some v) None t = refl
more_both (Some v) (Some xs) None = refl
more_both (Some v) (Some xs) (Some ys) = refl

after_none : (r : Option (List ℕ)) → r ≡ both (Some []) r
after_none None = refl
after_none (Some ys) = refl

pub octets_append : (c s : List ℕ) → length c % 2 ≡ 0 → octets_of (c ++ s) ≡ both (octets_of c) (octets_of s)
octets_append [] s even = after_none (octets_of s)
octets_append (a ∷ []) s even = absurd (omega (arith, even))
octets_append (a ∷ b ∷ c) s even =
    ap (more (joined (hex_digit_value a) (hex_digit_value b))) (octets_append c s (omega (arith, even)))
    ∙ more_both (joined (hex_digit_value a) (hex_digit_value b)) (octets_of c) (octets_of s)

-- # The value of a digit

abbrev value_of : ℕ → Option ℕ
value_of d = cond (ltb d 16) (Some d) None

values : map hex_digit_value (range_with_len 0 256) ≡ map (λ (c : ℕ). value_of (digit_value c)) (range_with_len 0 256)
values = refl

value_is : (c : ℕ) → c < 256 → hex_digit_value c ≡ value_of (digit_value c)
value_is c low =
    sym (get_or-map-range_with_len hex_digit_value 0 256 c c None low (omega arith))
    ∙ ap (λ (xs : List (Option ℕ)). get_or xs c None) values
    ∙ get_or-map-range_with_len (λ (c : ℕ). value_of (digit_value c)) 0 256 c c None low (omega arith)

abbrev holds : (ℕ → Bool) → Type 0
holds f = map f (range_with_len 0 256) ≡ map (λ (c : ℕ). true) (range_with_len 0 256)

holds_at : (f : ℕ → Bool) → holds f → (c : ℕ) → c < 256 → f c ≡ true
holds_at f all c low =
    sym (get_or-map-range_with_len f 0 256 c c false low (omega arith))
    ∙ ap (λ (xs : List Bool). get_or xs c false) all
    ∙ get_or-map-range_with_len (λ (c : ℕ). true) 0 256 c c false low (omega arith)

-- no value lies between 15 and 32, and none is over 64
gap : (c : ℕ) → c < 256 → 16 ≤ digit_value c → 32 ≤ digit_value c
gap c low from =
    leb-true 32 (digit_value c) (
    sym (cond-false (ltb (digit_value c) 16) true (leb 32 (digit_value c)) (le-ltb (digit_value c) 16 from))
    ∙ holds_at (λ (c : ℕ). cond (ltb (digit_value c) 16) true (leb 32 (digit_value c))) refl c low)

most : (c : ℕ) → c < 256 → digit_value c ≤ 64
most c low = leb-true (digit_value c) 64 (holds_at (λ (c : ℕ). leb (digit_value c) 64) refl c low)

-- what two lanes give
abbrev pub sum_of : ℕ → ℕ → ℕ
sum_of a b = lane_sum (digit_value a) (digit_value b)

abbrev pub octet_of : ℕ → ℕ → ℕ
octet_of a b = lane_octet (digit_value a) (digit_value b)

valued : (a : ℕ) → a < 256 → digit_value a < 16 → hex_digit_value a ≡ Some (digit_value a)
valued a low small = value_is a low ∙ cond-true (ltb (digit_value a) 16) (Some (digit_value a)) None (lt-ltb (digit_value a) 16 small)

not_valued : (a : ℕ) → a < 256 → 16 ≤ digit_value a → hex_digit_value a ≡ None
not_valued a low big = value_is a low ∙ cond-false (ltb (digit_value a) 16) (Some (digit_value a)) None (le-ltb (digit_value a) 16 big)

joined_none : (j : Option ℕ) → joined j None ≡ None
joined_none None = refl
joined_none (Some v) = refl

small_parts : (a b : ℕ) → a < 256 → b < 256 → sum_of a b < 32 → (digit_value a < 16) × (digit_value b < 16)
small_parts a b la lb e =
    elim (cases_lt (digit_value a) 16) [
      | inl p ↦
          elim (cases_lt (digit_value b) 16) [
            | inl q ↦ (p, q)
            | inr q ↦ absurd (omega (arith, e, p, gap b lb q, most b lb))
          ]
      | inr p ↦ absurd (omega (arith, e, gap a la p, most a la, most b lb))
    ]

lanes_join : (a b : ℕ) → a < 256 → b < 256 → nat_le 32 (sum_of a b) ≡ false → joined (hex_digit_value a) (hex_digit_value b) ≡ Some (octet_of a b)
lanes_join a b la lb e =
    let small = small_parts a b la lb (leb-false 32 (sum_of a b) e) in
    (λ i. joined (valued a la small.0 i) (valued b lb small.1 i))
    ∙ ap Some (omega (arith, small.0, small.1))

lanes_fail : (a b : ℕ) → a < 256 → b < 256 → nat_le 32 (sum_of a b) ≡ true → joined (hex_digit_value a) (hex_digit_value b) ≡ None
lanes_fail a b la lb e =
    elim (cases_lt (digit_value a) 16) [
      | inl p ↦
          elim (cases_lt (digit_value b) 16) [
            | inl q ↦ absurd (omega (arith, leb-true 32 (sum_of a b) e, p, q))
            | inr q ↦ ap (joined (hex_digit_value a)) (not_valued b lb q) ∙ joined_none (hex_digit_value a)
          ]
      | inr p ↦ ap (λ (j : Option ℕ). joined j (hex_digit_value b)) (not_valued a la p)
    ]

-- # The lanes

abbrev pub sums_of : List ℕ → List ℕ
sums_of [] = []
sums_of (a ∷ []) = []
sums_of (a ∷ b ∷ s) = sum_of a b ∷ sums_of s

abbrev pub lanes_of : List ℕ → List ℕ
lanes_of [] = []
lanes_of (a ∷ []) = []
lanes_of (a ∷ b ∷ s) = octet_of a b ∷ lanes_of s

-- where no lane is marked the lanes are the octets
pub lanes_are : (s : List ℕ) → length s % 2 ≡ 0 → Each1 (λ (b : ℕ). b < 256) s → has_mark (sums_of s) ≡ false → octets_of s ≡ Some (lanes_of s)
lanes_are [] even low e = refl
lanes_are (a ∷ []) even low e = absurd (omega (arith, even))
lanes_are (a ∷ b ∷ s) even low e =
    let none = or_parts (nat_le 32 (sum_of a b)) (has_mark (sums_of s)) e in
    (λ i. more (lanes_join a b low.0 low.1.0 none.0 i) (lanes_are s (omega (arith, even)) low.1.1 none.1 i))

marks_by : (t m : Bool) (j : Option ℕ) (r : Option (List ℕ)) → (t ≡ true → j ≡ None) → ((ys : List ℕ) → r ≡ Some ys → m ≡ false)
    → (xs : List ℕ) → more j r ≡ Some xs → (t || m) ≡ false
marks_by t m None r f g xs e = absurd (cc)
marks_by t m (Some v) None f g xs e = absurd (cc)
marks_by true m (Some v) (Some ys) f g xs e = let none : Some v ≡ None = f refl in absurd (cc)
marks_by false m (Some v) (Some ys) f g xs e = g ys refl

-- digits that have octets mark no lane
no_marks : (s : List ℕ) → Each1 (λ (b : ℕ). b < 256) s → (xs : List ℕ) → octets_of s ≡ Some xs → has_mark (sums_of s) ≡ false
no_marks [] low xs e = refl
no_marks (a ∷ []) low xs e = refl
no_marks (a ∷ b ∷ s) low xs e =
    marks_by (nat_le 32 (sum_of a b)) (has_mark (sums_of s)) (joined (hex_digit_value a) (hex_digit_value b)) (octets_of s)
    (λ t. lanes_fail a b low.0 low.1.0 t) (λ ys r. no_marks s low.1.1 ys r) xs e

none_by : (r : Option (List ℕ)) → ((xs : List ℕ) → r ≡ Some xs → ⊥) → None ≡ r
none_by None f = refl
none_by (Some xs) f = absurd (f xs refl)

-- where a lane is marked the digits have no octets
pub marked : (s : List ℕ) → Each1 (λ (b : ℕ). b < 256) s → has_mark (sums_of s) ≡ true → None ≡ octets_of s
marked s low t = none_by (octets_of s) (λ xs e. both_ways (has_mark (sums_of s)) (no_marks s low xs e) t)

abbrev pub firsts : List ℕ → List ℕ
firsts ds = map digit_value (pick_l 0 (ds ++ ds) (0 ∷ 2 ∷ 4 ∷ 6 ∷ 8 ∷ 10 ∷ 12 ∷ 14 ∷ 16 ∷ 18 ∷ 20 ∷ 22 ∷ 24 ∷ 26 ∷ 28 ∷ 30 ∷ []))

abbrev pub seconds : List ℕ → List ℕ
seconds ds = map digit_value (pick_l 0 (ds ++ ds) (1 ∷ 3 ∷ 5 ∷ 7 ∷ 9 ∷ 11 ∷ 13 ∷ 15 ∷ 17 ∷ 19 ∷ 21 ∷ 23 ∷ 25 ∷ 27 ∷ 29 ∷ 31 ∷ []))

pub sums_are : (ds : List ℕ) → length ds ≡ 32 → zip2 lane_sum (firsts ds) (seconds ds) ≡ sums_of ds
sums_are ds e = subst (λ (ys : List ℕ). zip2 lane_sum (firsts ys) (seconds ys) ≡ sums_of ys) (pick_l_whole 0 ds 32 e) refl

pub octets_lie : (ds : List ℕ) → length ds ≡ 32 → zip2 lane_octet (firsts ds) (seconds ds) ≡ lanes_of ds
octets_lie ds e = subst (λ (ys : List ℕ). zip2 lane_octet (firsts ys) (seconds ys) ≡ lanes_of ys) (pick_l_whole 0 ds 32 e) refl

-- # What single operations give

same_zero : (k m : ℕ) → k ≡ 2 * m → nat_eq k 0 ≡ nat_eq m 0
same_zero k zero e = eq-eqb k 0 (omega (arith, e))
same_zero k (suc m) e = ne_eqb k 0 (λ z. omega (arith, e, z)) ∙ sym (ne_eqb (suc m) 0 (λ z. omega (arith, z)))

mask_by : (t b : Bool) (m : ℕ) → not (nat_eq m 0) ≡ b → not (nat_eq (cond t 1 0 + 2 * m) 0) ≡ (t || b)
mask_by true b m e = ap not (ne_eqb (1 + 2 * m) 0 (λ z. omega (arith, z)))
mask_by false b m e = ap not (same_zero (0 + 2 * m) m (omega arith)) ∙ e

pub mask_marks : (xs : List ℕ) → not (nat_eq (mask_l (map (λ (x : ℕ). nat_le 32 x) xs)) 0) ≡ has_mark xs
mask_marks [] = refl
mask_marks (x ∷ xs) = mask_by (nat_le 32 x) (has_mark xs) (mask_l (map (λ (x : ℕ). nat_le 32 x) xs)) (mask_marks xs)

pub joins : (n : ℕ) (xs ys : List ℕ) → length xs ≡ n
    → zip2 lane_sum (zip2 (λ (a b : ℕ). a * 2 ^ b % 256) xs (replicate n 4)) ys ≡ zip2 lane_octet xs ys
joins zero [] ys e = refl
joins zero (x ∷ xs) ys e = absurd (omega arith)
joins (suc n) [] ys e = absurd (omega arith)
joins (suc n) (x ∷ xs) [] e = refl
joins (suc n) (x ∷ xs) (y ∷ ys) e = λ i. lane_octet x y ∷ joins n xs ys (omega (arith, e)) i

-- # Fewer than 32 digits, and zeros after them

zeros_have : (n : ℕ) → octets_of (replicate (n + n) 48) ≡ Some (replicate n 0)
zeros_have zero = refl
zeros_have (suc n) =
    let two : suc n + suc n ≡ suc (suc (n + n)) = omega arith in
    ap (λ (k : ℕ). octets_of (replicate k 48)) two ∙ ap (more (Some 0)) (zeros_have n)

abbrev list_of : Option (List ℕ) → List ℕ
list_of None = []
list_of (Some xs) = xs

counted_by : (j : Option ℕ) (r : Option (List ℕ)) (n : ℕ) → ((ys : List ℕ) → r ≡ Some ys → length ys ≡ n) → (xs : List ℕ)
    → more j r ≡ Some xs → length xs ≡ suc n
counted_by None r n f xs e = absurd (cc)
counted_by (Some v) None n f xs e = absurd (cc)
counted_by (Some v) (Some ys) n f xs e = ap length (sym (ap list_of e)) ∙ ap suc (f ys refl)

-- digits have an octet a pair
pub counted : (s xs : List ℕ) → octets_of s ≡ Some xs → length xs ≡ length s / 2
counted [] xs e = ap length (sym (ap list_of e))
counted (a ∷ []) xs e = absurd (cc)
counted (a ∷ b ∷ s) xs e =
    counted_by (joined (hex_digit_value a) (hex_digit_value b)) (octets_of s) (length s / 2) (λ ys r. counted s ys r) xs e ∙ omega arith

front_of : (o : Option (List ℕ)) (k : ℕ) (zs : List ℕ) → ((xs : List ℕ) → o ≡ Some xs → length xs ≡ k)
    → option_map (take k) (both o (Some zs)) ≡ o
front_of None k zs f = refl
front_of (Some xs) k zs f =
    let long : length xs ≡ k = f xs refl in
    ap Some (take-append-le k xs zs (omega (arith, long)) ∙ take_all k xs (omega (arith, long)))

pub few_are : (s : List ℕ) (r : Option (List ℕ)) → length s < 32 → length s % 2 ≡ 0 → r ≡ octets_of (s ++ replicate (32 - length s) 48)
    → option_map (take (length s / 2)) r ≡ octets_of s
few_are s r few even e =
    let half : ℕ = 16 - length s / 2 in
    let two : 32 - length s ≡ half + half = omega (arith, few, even) in
    ap (option_map (take (length s / 2)))
    (e ∙ octets_append s (replicate (32 - length s) 48) even
    ∙ ap (both (octets_of s)) (ap (λ (k : ℕ). octets_of (replicate k 48)) two ∙ zeros_have half))
    ∙ front_of (octets_of s) (length s / 2) (replicate half 0) (counted s)

-- # Some digits after others

both_both : (xs ys : List ℕ) (r : Option (List ℕ)) → both (Some xs) (both (Some ys) r) ≡ both (Some (xs ++ ys)) r
both_both xs ys None = refl
both_both xs ys (Some zs) = ap Some (sym (append_assoc xs ys zs))

pub none_after : (xs : List ℕ) → (r : Option (List ℕ)) → None ≡ r → None ≡ both (Some xs) r
none_after xs None e = refl
none_after xs (Some ys) e = absurd (cc)

part_of : (n k : ℕ) (xs : List ℕ) → k < n → get_or (first_chunks 32 n xs) k [] ≡ take 32 (drop (32 * k) xs)
part_of zero k xs h = absurd (omega (arith, h))
part_of (suc n) zero xs h = refl
part_of (suc n) (suc k) xs h =
    let next : 32 + 32 * k ≡ 32 * suc k = omega arith in
    part_of n k (drop 32 xs) (omega (arith, h)) ∙ ap (take 32) (drop-drop (32 * k) 32 xs ∙ ap (λ (m : ℕ). drop m xs) next)

-- a part has 32 digits
part_long : (n k : ℕ) (xs part : List ℕ) → k < n → 32 * n ≤ length xs → part ≡ get_or (first_chunks 32 n xs) k [] → length part ≡ 32
part_long n k xs part h fits e =
    ap length (e ∙ part_of n k xs h) ∙ length-take-le 32 (drop (32 * k) xs) (omega (arith, h, fits, length-drop (32 * k) xs))

pub part_even : (n k : ℕ) (xs part : List ℕ) → k < n → 32 * n ≤ length xs → part ≡ get_or (first_chunks 32 n xs) k [] → length part % 2 ≡ 0
part_even n k xs part h fits e = ap (λ (m : ℕ). m % 2) (part_long n k xs part h fits e)

-- the digits from a part of 32 on
from_part : (n k : ℕ) (xs part : List ℕ) → k < n → 32 * n ≤ length xs → part ≡ get_or (first_chunks 32 n xs) k []
    → octets_of (drop (32 * k) xs) ≡ both (octets_of part) (octets_of (drop (32 * (k + 1)) xs))
from_part n k xs part h fits e =
    let next : 32 * k + 32 ≡ 32 * (k + 1) = omega arith in
    let whole : drop (32 * k) xs ≡ part ++ drop (32 * (k + 1)) xs =
    sym (take-append-drop 32 (drop (32 * k) xs))
    ∙ (λ i. sym (e ∙ part_of n k xs h) i ++ (drop-drop 32 (32 * k) xs ∙ ap (λ (m : ℕ). drop m xs) next) i) in
    ap octets_of whole ∙ octets_append part (drop (32 * (k + 1)) xs) (part_even n k xs part h fits e)

-- one part more is read
pub one_part : (digits old new part got : List ℕ) (n k : ℕ) → k < n → 32 * n ≤ length digits → part ≡ get_or (first_chunks 32 n digits) k []
    → octets_of part ≡ Some got → take (16 * (k + 1)) new ≡ take (16 * k) old ++ got
    → octets_of digits ≡ both (Some (take (16 * k) old)) (octets_of (drop (32 * k) digits))
    → octets_of digits ≡ both (Some (take (16 * (k + 1)) new)) (octets_of (drop (32 * (k + 1)) digits))
one_part digits old new part got n k h fits ep eg en inv =
    let rest : Option (List ℕ) = octets_of (drop (32 * (k + 1)) digits) in
    inv ∙ ap (both (Some (take (16 * k) old))) (from_part n k digits part h fits ep ∙ ap (λ (o : Option (List ℕ)). both o rest) eg)
    ∙ both_both (take (16 * k) old) got rest ∙ ap (λ (xs : List ℕ). both (Some xs) rest) (sym en)

-- digits that have no octets end it
pub no_more : (digits old rest : List ℕ) → octets_of rest ≡ None → octets_of digits ≡ both (Some old) (octets_of rest) → None ≡ octets_of digits
no_more digits old rest none inv = none_after old (octets_of rest) (sym none) ∙ sym inv

pub no_part : (digits old part : List ℕ) (n k : ℕ) → k < n → 32 * n ≤ length digits → part ≡ get_or (first_chunks 32 n digits) k []
    → octets_of part ≡ None
    → octets_of digits ≡ both (Some (take (16 * k) old)) (octets_of (drop (32 * k) digits))
    → None ≡ octets_of digits
no_part digits old part n k h fits ep eg inv =
    no_more digits (take (16 * k) old) (drop (32 * k) digits)
    (from_part n k digits part h fits ep ∙ ap (λ (o : Option (List ℕ)). both o (octets_of (drop (32 * (k + 1)) digits))) eg) inv

-- the last digits
none_taken : (k : ℕ) (r o : Option (List ℕ)) → r ≡ None → option_map (take k) r ≡ o → o ≡ None
none_taken k r o e f = sym f ∙ ap (option_map (take k)) e

pub last_none : (digits old rest : List ℕ) (k : ℕ) (r : Option (List ℕ)) → r ≡ None → option_map (take k) r ≡ octets_of rest
    → octets_of digits ≡ both (Some old) (octets_of rest) → None ≡ octets_of digits
last_none digits old rest k r e f inv = no_more digits old rest (none_taken k r (octets_of rest) e f) inv

pub last_some : (digits old rest last : List ℕ) (k : ℕ) (r : Option (List ℕ)) → r ≡ Some last → option_map (take k) r ≡ octets_of rest
    → octets_of digits ≡ both (Some old) (octets_of rest) → octets_of digits ≡ Some (old ++ take k last)
last_some digits old rest last k r e f inv = inv ∙ ap (both (Some old)) (sym f ∙ ap (option_map (take k)) e)
