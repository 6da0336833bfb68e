-- Octets in hexadecimal, 16 at a time.
use Rattle.std.proofs.Common.{◌≡◌, ℕ, zero, suc, ◌*◌, ◌/◌, ◌%◌, ◌<◌, List, [], ◌∷◌, ◌++◌, length, map, take, drop, slice_index, OnOk, Result, Ok, Err}
use Rattle.std.proofs.Common.{refl, sym, ap, subst, ◌∙◌, arith}
use Rattle.std.specs.Str.{IsAscii}
use Rattle.std.proofs.lemmas.List.{append_assoc, drop-drop, take-append-drop}
use Rattle.std.proofs.lemmas.Simd.{pick_l_whole}
use Rattle.std.proofs.lemmas.Str.Ascii.{IsAscii-nil, IsAscii-cons}
use Rattle.std.specs.Simd.{first_chunks}
use lib.Lanes.{Each1, pick_l}
use Rattle.hex.specs.Hex.{encode_lower, encode_with, lower_digits}
use Rattle.aes_modes.proofs.LookUps.{at}
use Rattle.line_script.specs.Digits.{all_digits, high_digit, low_digit}

-- the digits in their order, of those of the high halves and then those of the low ones
abbrev pub in_order : List ℕ
in_order =
    0 ∷ 16 ∷ 1 ∷ 17 ∷ 2 ∷ 18 ∷ 3 ∷ 19 ∷ 4 ∷ 20 ∷ 5 ∷ 21 ∷ 6 ∷ 22 ∷ 7 ∷ 23 ∷ 8 ∷ 24 ∷ 9 ∷ 25 ∷ 10 ∷ 26 ∷ 11 ∷ 27
    ∷ 12 ∷ 28 ∷ 13 ∷ 29 ∷ 14 ∷ 30 ∷ 15 ∷ 31 ∷ []

-- what two functions make of each octet, in turn
abbrev pub woven : (ℕ → ℕ) → (ℕ → ℕ) → List ℕ → List ℕ
woven f g [] = []
woven f g (x ∷ xs) = f x ∷ g x ∷ woven f g xs

woven_lanes : (f g : ℕ → ℕ) (xs : List ℕ) → length xs ≡ 16 → pick_l 0 (map f xs ++ map g xs) in_order ≡ woven f g xs
woven_lanes f g xs e =
    subst (λ (ys : List ℕ). pick_l 0 (map f ys ++ map g ys) in_order ≡ woven f g ys) (pick_l_whole 0 xs 16 e) refl

woven_digits : (xs : List ℕ) → Each1 (λ (b : ℕ). b < 256) xs → woven high_digit low_digit xs ≡ encode_with lower_digits xs
unfolding encode_with
woven_digits [] h = refl
woven_digits (x ∷ xs) (p, ps) = λ i.
    at high_digit (λ (b : ℕ). slice_index lower_digits (b / 16)) refl x p i
    ∷ at low_digit (λ (b : ℕ). slice_index lower_digits (b % 16)) refl x p i ∷ woven_digits xs ps i

-- the digits of 16 octets
pub lanes_encode : (xs h l : List ℕ) → length xs ≡ 16 → Each1 (λ (b : ℕ). b < 256) xs → h ≡ map high_digit xs → l ≡ map low_digit xs
    → pick_l 0 (h ++ l) in_order ≡ encode_lower xs
lanes_encode xs h l e below eh el =
    (λ i. pick_l 0 (eh i ++ el i) in_order) ∙ woven_lanes high_digit low_digit xs e ∙ woven_digits xs below

encode_append : (t xs ys : List ℕ) → encode_with t (xs ++ ys) ≡ encode_with t xs ++ encode_with t ys
unfolding encode_with
encode_append t [] ys = refl
encode_append t (x ∷ xs) ys = λ i. slice_index t (x / 16) ∷ slice_index t (x % 16) ∷ encode_append t xs ys i

-- the digits of some parts of 16, and those of what is left
pub by_parts : (n : ℕ) (xs : List ℕ) → all_digits (first_chunks 16 n xs) ++ encode_lower (drop (n * 16) xs) ≡ encode_lower xs
by_parts zero xs = refl
by_parts (suc n) xs =
    let head : List ℕ = encode_lower (take 16 xs) in
    let left : drop (suc n * 16) xs ≡ drop (n * 16) (drop 16 xs) = ap (λ (k : ℕ). drop k xs) (omega arith) ∙ sym (drop-drop (n * 16) 16 xs) in
    ap (λ (r : List ℕ). (head ++ all_digits (first_chunks 16 n (drop 16 xs))) ++ encode_lower r) left
    ∙ append_assoc head (all_digits (first_chunks 16 n (drop 16 xs))) (encode_lower (drop (n * 16) (drop 16 xs)))
    ∙ ap (λ (r : List ℕ). head ++ r) (by_parts n (drop 16 xs))
    ∙ sym (encode_append lower_digits (take 16 xs) (drop 16 xs))
    ∙ ap encode_lower (take-append-drop 16 xs)

-- digits are ASCII
abbrev from : ℕ → List ℕ
from n = drop n lower_digits

pub ascii : IsAscii lower_digits
ascii =
    IsAscii-cons 48 (from 1) (omega arith) (IsAscii-cons 49 (from 2) (omega arith) (IsAscii-cons 50 (from 3) (omega arith) (
    IsAscii-cons 51 (from 4) (omega arith) (IsAscii-cons 52 (from 5) (omega arith) (IsAscii-cons 53 (from 6) (omega arith) (
    IsAscii-cons 54 (from 7) (omega arith) (IsAscii-cons 55 (from 8) (omega arith) (IsAscii-cons 56 (from 9) (omega arith) (
    IsAscii-cons 57 (from 10) (omega arith) (IsAscii-cons 97 (from 11) (omega arith) (IsAscii-cons 98 (from 12) (omega arith) (
    IsAscii-cons 99 (from 13) (omega arith) (IsAscii-cons 100 (from 14) (omega arith) (IsAscii-cons 101 (from 15) (omega arith) (
    IsAscii-cons 102 (from 16) (omega arith) IsAscii-nil)))))))))))))))

-- what follows from a statement on Ok holds on Ok
pub on_ok : {A E : Type 0} (P Q : Type 0) (r : Result A E) → (P → Q) → OnOk r P → OnOk r Q
on_ok P Q (Ok v) f h = f h
on_ok P Q (Err x) f h = tt

-- whole parts of 16 and what is left, one after the other
pub whole_and_rest : (xs old mid new : List ℕ) (n : ℕ) (chunks : List (List ℕ)) (rest : List ℕ)
    → chunks ≡ first_chunks 16 n xs → rest ≡ drop (n * 16) xs → mid ≡ old ++ all_digits chunks → new ≡ mid ++ encode_lower rest
    → new ≡ old ++ encode_lower xs
whole_and_rest xs old mid new n chunks rest ec er em en =
    en ∙ (λ i. em i ++ encode_lower rest) ∙ append_assoc old (all_digits chunks) (encode_lower rest)
    ∙ (λ i. old ++ (all_digits (ec i) ++ encode_lower (er i))) ∙ ap (λ (r : List ℕ). old ++ r) (by_parts n xs)
