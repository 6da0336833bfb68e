-- What stands at a place, and what a spelling has there.
use Rattle.std.proofs.Common.{◌≡◌, ℕ, ◌+◌, ◌-◌, ◌/◌, ◌%◌, ◌^◌, ◌<◌, ◌≤◌, List, [], ◌∷◌, ◌++◌, length, All, take, drop, slice_index, refl, sym, ap, ◌∙◌, arith}
use Rattle.std.proofs.Math.Seq.{drop-append_seam, take-append_seam}
use Rattle.std.proofs.Math.ListN.{drop_of_length-le}
use Rattle.std.proofs.lemmas.List.{take-append-drop, length-take-le, drop-drop, length-drop, length-append, get_or-drop, get_or-append-add, drop_more}
use Rattle.std.proofs.lemmas.List.{get_or_default}
use Rattle.std.proofs.lemmas.List.Elements.{All-take, All-drop}
use Rattle.byteorder.specs.Endian.{big_bytes, big_number, little_bytes, little_number}
use Rattle.byteorder.specs.Numbers.{big_number-reads_back, big_from-take, little_number-reads_back, little_from-take, length-bytes_high_first}
use Rattle.byteorder.specs.Numbers.{length-bytes_low_first}
use Rattle.plc_base.specs.Fields.{AreOctets, after, octet, two, four, little_two, little_four, part, Stands}
use Rattle.plc_base.specs.OctetLaws.{EachOctetFits}
use Rattle.plc_base.proofs.NumbersOfOctets.{below, bytes_high_first-big_from, bytes_low_first-little_from}

pub octet_stands : (at : ℕ) (octets : List ℕ) → at + 1 ≤ length octets
    → (slice_index octets at ≡ octet at octets) × Stands (slice_index octets at ∷ []) at octets
unfolding octet after
octet_stands at octets h = (refl, record { within = h; parts = drop_more octets at 0 (omega arith) })

-- octets as their type has them
pub octets_all : (octets : List ℕ) → ((k : ℕ) → slice_index octets k < 256) → All (λ x. x < 256) octets
octets_all octets h = λ k d within. omega (arith, h k, get_or_default octets k d 0 within)

-- the octets of the number that is read are those that stand there
big_again : (n : ℕ) (octets : List ℕ) → n ≤ length octets → All (λ x. x < 256) octets → octets ≡ big_bytes n (big_number n octets) ++ drop n octets
big_again n octets h fits =
    let front : big_bytes n (big_number n (take n octets))
    ≡ take n octets = bytes_high_first-big_from n (take n octets) (length-take-le n octets h) (All-take (λ x. x < 256) n octets fits) in
    let same : big_number n (take n octets) ≡ big_number n octets = big_from-take 0 n n octets (omega arith) in
    sym (take-append-drop n octets) ∙ ap (λ (xs : List ℕ). xs ++ drop n octets) (sym front ∙ ap (λ (x : ℕ). big_bytes n x) same)

little_again : (n : ℕ) (octets : List ℕ) → n ≤ length octets → All (λ x. x < 256) octets → octets ≡ little_bytes n (little_number n octets) ++ drop n octets
little_again n octets h fits =
    let front : little_bytes n (little_number n (take n octets))
    ≡ take n octets = bytes_low_first-little_from n (take n octets) (length-take-le n octets h) (All-take (λ x. x < 256) n octets fits) in
    let same : little_number n (take n octets) ≡ little_number n octets = little_from-take 0 n n octets (omega arith) in
    sym (take-append-drop n octets) ∙ ap (λ (xs : List ℕ). xs ++ drop n octets) (sym front ∙ ap (λ (x : ℕ). little_bytes n x) same)

-- a number of n octets that is read of the slice from a place on stands there
pub big_stands : (n at x : ℕ) (octets : List ℕ) → at + n ≤ length octets → All (λ x. x < 256) octets
    → x ≡ big_number n (take (length octets - at) (drop at octets)) → (x ≡ big_number n (drop at octets)) × Stands (big_bytes n x) at octets
unfolding after
big_stands n at x octets h fits is =
    let len : length (big_bytes n x) ≡ n = length-bytes_high_first n x in
    let same : x ≡ big_number n (drop at octets) = is ∙ big_from-take 0 n (length octets - at) (drop at octets) (omega arith) in
    let whole = big_again n (drop at octets) (omega (arith, length-drop at octets)) (All-drop (λ x. x < 256) at octets fits) in
    let parts : drop at octets ≡ big_bytes n x ++ drop (at + n) octets =
    whole ∙ ap (λ (xs : List ℕ). big_bytes n (big_number n (drop at octets)) ++ xs) (drop-drop n at octets)
    ∙ ap (λ (y : ℕ). big_bytes n y ++ drop (at + n) octets) (sym same) in
    (same, record { within = omega arith; parts = parts ∙ ap (λ (m : ℕ). big_bytes n x ++ drop (at + m) octets) (sym len) })

pub little_stands : (n at x : ℕ) (octets : List ℕ) → at + n ≤ length octets → All (λ x. x < 256) octets
    → x ≡ little_number n (take (length octets - at) (drop at octets)) → (x ≡ little_number n (drop at octets)) × Stands (little_bytes n x) at octets
unfolding after
little_stands n at x octets h fits is =
    let len : length (little_bytes n x) ≡ n = length-bytes_low_first 0 n x in
    let same : x ≡ little_number n (drop at octets) = is ∙ little_from-take 0 n (length octets - at) (drop at octets) (omega arith) in
    let whole = little_again n (drop at octets) (omega (arith, length-drop at octets)) (All-drop (λ x. x < 256) at octets fits) in
    let parts : drop at octets ≡ little_bytes n x ++ drop (at + n) octets =
    whole ∙ ap (λ (xs : List ℕ). little_bytes n (little_number n (drop at octets)) ++ xs) (drop-drop n at octets)
    ∙ ap (λ (y : ℕ). little_bytes n y ++ drop (at + n) octets) (sym same) in
    (same, record { within = omega arith; parts = parts ∙ ap (λ (m : ℕ). little_bytes n x ++ drop (at + m) octets) (sym len) })

-- the high octet of a number of two octets stands first
pub two_high : (at x : ℕ) (octets : List ℕ) → All (λ x. x < 256) octets → x ≡ big_number 2 (drop at octets) → x / 256 ≡ octet at octets
unfolding octet
two_high at x octets fits is =
    let first : slice_index (drop at octets) 0 ≡ slice_index octets at = get_or-drop at octets 0 0 ∙ ap (λ (k : ℕ). slice_index octets k) (omega arith) in
    let second : slice_index (drop at octets) 1 < 256 = below (drop at octets) (All-drop (λ x. x < 256) at octets fits) 1 in
    omega arith

-- the n octets from a place on stand there
pub part_stands : (at n : ℕ) (octets : List ℕ) → at + n ≤ length octets → Stands (part at n octets) at octets
unfolding part after
part_stands at n octets h =
    let len : length (take n (drop at octets)) ≡ n = length-take-le n (drop at octets) (omega (arith, length-drop at octets)) in
    let parts : drop at octets ≡ take n (drop at octets) ++ drop (at + n) octets =
    sym (take-append-drop n (drop at octets)) ∙ ap (λ (xs : List ℕ). take n (drop at octets) ++ xs) (drop-drop n at octets) in
    record { within = omega arith; parts = parts ∙ ap (λ (m : ℕ). take n (drop at octets) ++ drop (at + m) octets) (sym len) }

-- nothing is before the first place, and nothing after the last
pub after_none : (octets : List ℕ) → after 0 octets ≡ octets
unfolding after
after_none octets = refl

pub after_all : (at : ℕ) (octets : List ℕ) → length octets ≤ at → after at octets ≡ []
unfolding after
after_all at octets h = drop_of_length-le octets h

-- what is spelled after other octets is read there
pub octet_behind : (front : List ℕ) (x : ℕ) (rest : List ℕ) → octet (length front) (front ++ x ∷ rest) ≡ x
unfolding octet
octet_behind [] x rest = refl
octet_behind (y ∷ front) x rest = octet_behind front x rest

pub two_behind : (front : List ℕ) (x : ℕ) (rest : List ℕ) → x < 65536 → two (length front) (front ++ (big_bytes 2 x ++ rest)) ≡ x
unfolding two
two_behind front x rest h = ap (big_number 2) (drop-append_seam front (big_bytes 2 x ++ rest)) ∙ big_number-reads_back 2 x rest h

pub four_behind : (front : List ℕ) (x : ℕ) (rest : List ℕ) → x < 2 ^ 32 → four (length front) (front ++ (big_bytes 4 x ++ rest)) ≡ x
unfolding four
four_behind front x rest h = ap (big_number 4) (drop-append_seam front (big_bytes 4 x ++ rest)) ∙ big_number-reads_back 4 x rest h

pub little_two_behind : (front : List ℕ) (x : ℕ) (rest : List ℕ) → x < 65536 → little_two (length front) (front ++ (little_bytes 2 x ++ rest)) ≡ x
unfolding little_two
little_two_behind front x rest h = ap (little_number 2) (drop-append_seam front (little_bytes 2 x ++ rest)) ∙ little_number-reads_back 2 x rest h

pub little_four_behind : (front : List ℕ) (x : ℕ) (rest : List ℕ) → x < 2 ^ 32 → little_four (length front) (front ++ (little_bytes 4 x ++ rest)) ≡ x
unfolding little_four
little_four_behind front x rest h = ap (little_number 4) (drop-append_seam front (little_bytes 4 x ++ rest)) ∙ little_number-reads_back 4 x rest h

pub after_behind : (front rest : List ℕ) → after (length front) (front ++ rest) ≡ rest
unfolding after
after_behind front rest = drop-append_seam front rest

pub two_within : (front : List ℕ) (x : ℕ) (rest : List ℕ) → length front + 2 ≤ length (front ++ (big_bytes 2 x ++ rest))
two_within front x rest = omega (arith, length-append front (big_bytes 2 x ++ rest))

-- two numbers of the same two octets are one
pub two_same : (x y : ℕ) → x < 65536 → y < 65536 → x / 256 % 256 ≡ y / 256 % 256 → x % 256 ≡ y % 256 → x ≡ y
two_same x y hx hy high low = omega arith

-- octets that are there have a first
pub first_is : (octets : List ℕ) → 0 < length octets → octets ≡ slice_index octets 0 ∷ after 1 octets
unfolding after
first_is [] h = absurd (omega arith)
first_is (x ∷ octets) h = refl

-- what stands after other octets
pub octet_past : (front rest : List ℕ) (k : ℕ) → octet (length front + k) (front ++ rest) ≡ octet k rest
unfolding octet
octet_past front rest k = get_or-append-add front rest k 0

-- two fronts of one length are the same where the wholes are, and so is what stands after them
pub fronts_same : (a b x y : List ℕ) → length a ≡ length b → a ++ x ≡ b ++ y → (a ≡ b) × (x ≡ y)
fronts_same a b x y len e =
    let front : a ≡ b =
    sym (take-append_seam a x) ∙ ap (λ (xs : List ℕ). take (length a) xs) e ∙ ap (λ (n : ℕ). take n (b ++ y)) len ∙ take-append_seam b y in
    let back : x ≡ y =
    sym (drop-append_seam a x) ∙ ap (λ (xs : List ℕ). drop (length a) xs) e ∙ ap (λ (n : ℕ). drop n (b ++ y)) len ∙ drop-append_seam b y in
    (front, back)

-- A field of octets that are octets stands where it is read, if it is whole.

pub number_stands : (n at : ℕ) (octets : List ℕ) → at + n ≤ length octets → AreOctets octets → Stands (big_bytes n (big_number n (drop at octets))) at octets
unfolding after
number_stands n at octets h fits =
    let len : length (big_bytes n (big_number n (drop at octets))) ≡ n = length-bytes_high_first n _ in
    let whole = big_again n (drop at octets) (omega (arith, length-drop at octets)) (All-drop (λ x. x < 256) at octets fits) in
    record {
      within = omega arith;
      parts = whole ∙ ap (λ (xs : List ℕ). big_bytes n (big_number n (drop at octets)) ++ xs) (drop-drop n at octets)
          ∙ ap (λ (m : ℕ). big_bytes n (big_number n (drop at octets)) ++ drop (at + m) octets) (sym len);
    }

pub two_stands : (at : ℕ) (octets : List ℕ) → at + 2 ≤ length octets → AreOctets octets → Stands (big_bytes 2 (two at octets)) at octets
unfolding two
two_stands at octets h fits = number_stands 2 at octets h fits

-- a number of two octets is below 65,536
pub two_low : (at : ℕ) (octets : List ℕ) → AreOctets octets → two at octets < 65536
unfolding two
two_low at octets fits =
    let a : slice_index (drop at octets) 0 < 256 = below (drop at octets) (All-drop (λ x. x < 256) at octets fits) 0 in
    let b : slice_index (drop at octets) 1 < 256 = below (drop at octets) (All-drop (λ x. x < 256) at octets fits) 1 in
    omega arith

pub octet_low : EachOctetFits
unfolding octet
octet_low at octets fits = below octets fits at

-- what stands further on after other octets
pub after_past : (front rest : List ℕ) (k : ℕ) → after (length front + k) (front ++ rest) ≡ after k rest
unfolding after
after_past front rest k = sym (drop-drop k (length front) (front ++ rest)) ∙ ap (drop k) (drop-append_seam front rest)

pub two_past : (front rest : List ℕ) (k : ℕ) → two (length front + k) (front ++ rest) ≡ two k rest
unfolding two
two_past front rest k = ap (big_number 2) (sym (drop-drop k (length front) (front ++ rest)) ∙ ap (drop k) (drop-append_seam front rest))

-- a field and what follows it, where it is whole
pub one_then : (at : ℕ) (octets : List ℕ) → at + 1 ≤ length octets → after at octets ≡ octet at octets ∷ after (at + 1) octets
unfolding octet
one_then at octets whole = (octet_stands at octets whole).1.parts

pub two_then : (at : ℕ) (octets : List ℕ) → AreOctets octets → at + 2 ≤ length octets → after at octets ≡ big_bytes 2 (two at octets) ++ after (at + 2) octets
two_then at octets fits whole = (two_stands at octets whole fits).parts

pub length-part : (at n : ℕ) (octets : List ℕ) → at + n ≤ length octets → length (part at n octets) ≡ n
unfolding part
length-part at n octets whole = length-take-le n (drop at octets) (omega (arith, length-drop at octets))

pub part_then : (at n : ℕ) (octets : List ℕ) → at + n ≤ length octets → after at octets ≡ part at n octets ++ after (at + n) octets
part_then at n octets whole = (part_stands at n octets whole).parts ∙ ap (λ (m : ℕ). part at n octets ++ after (at + m) octets) (length-part at n octets whole)

pub length-after : (at : ℕ) (octets : List ℕ) → length (after at octets) ≡ length octets - at
unfolding after
length-after at octets = length-drop at octets

-- an octet that stands further on
pub octet_after : (at k : ℕ) (octets : List ℕ) → slice_index (after at octets) k ≡ octet (at + k) octets
unfolding octet after
octet_after at k octets = get_or-drop at octets k 0
