-- Strings in one vector, by the places where they end.
use Rattle.std.proofs.Common.{◌≡◌, ℕ, ◌-◌, ◌<◌, ◌≤◌, zero, suc, List, [], ◌∷◌, ◌++◌, length, take, drop, Some, refl, ap, ◌∙◌, arith, length-append, length-drop}
use Rattle.std.specs.Prelude.{slice_get, slice_index, slice_range}
use Rattle.std.proofs.Math.Seq.{drop-append_seam}
use Rattle.std.proofs.lemmas.List.{take-append-le, take_all, drop-append-le}
use Rattle.octet_log.specs.LogChains.{strings_of, AreEnds}

pub length_strings : (octets : List ℕ) (start : ℕ) (ends : List ℕ) → length (strings_of octets start ends) ≡ length ends
length_strings octets start [] = refl
length_strings octets start (end ∷ ends) = ap suc (length_strings octets end ends)

start_within : (start : ℕ) (ends : List ℕ) (count : ℕ) → AreEnds start ends count → start ≤ count
start_within start [] count are = omega (arith, are)
start_within start (end ∷ ends) count are = omega (arith, are.0, start_within end ends count are.1)

pub end_within : (start : ℕ) (ends : List ℕ) (count i : ℕ) → AreEnds start ends count → i < length ends
    → (slice_index (start ∷ ends) i ≤ slice_index ends i) × (slice_index ends i ≤ count)
end_within start [] count i are inside = absurd (omega (arith, inside))
end_within start (end ∷ ends) count zero are inside = (are.0, start_within end ends count are.1)
end_within start (end ∷ ends) count (suc i) are inside = end_within end ends count i are.1 (omega (arith, inside))

pub string_at : (octets : List ℕ) (start : ℕ) (ends : List ℕ) (i : ℕ) → i < length ends
    → slice_get (strings_of octets start ends) i ≡ Some (slice_range octets (slice_index (start ∷ ends) i) (slice_index ends i))
string_at octets start [] i inside = absurd (omega (arith, inside))
string_at octets start (end ∷ ends) zero inside = refl
string_at octets start (end ∷ ends) (suc i) inside = string_at octets end ends i (omega (arith, inside))

pub ends_push : (start : ℕ) (ends : List ℕ) (count more : ℕ) → AreEnds start ends count → count ≤ more → AreEnds start (ends ++ more ∷ []) more
ends_push start [] count more are order = (omega (arith, are, order), refl)
ends_push start (end ∷ ends) count more are order = (are.0, ends_push end ends count more are.1 order)

-- a part that stands before what is appended
part_before : (xs ys : List ℕ) (i j : ℕ) → i ≤ j → j ≤ length xs → slice_range (xs ++ ys) i j ≡ slice_range xs i j
part_before xs ys i j order within =
    ap (take (j - i)) (drop-append-le i xs ys (omega (arith, order, within)))
    ∙ take-append-le (j - i) (drop i xs) ys (omega (arith, length-drop i xs, order, within))

last_part : (xs ys : List ℕ) → slice_range (xs ++ ys) (length xs) (length (xs ++ ys)) ≡ ys
last_part xs ys =
    let count : length (xs ++ ys) - length xs ≡ length ys = omega (arith, length-append xs ys) in
    ap (λ n. take n (drop (length xs) (xs ++ ys))) count ∙ ap (take (length ys)) (drop-append_seam xs ys) ∙ take_all (length ys) ys (omega arith)

pub strings_push : (octets more : List ℕ) (start : ℕ) (ends : List ℕ) → AreEnds start ends (length octets)
    → strings_of (octets ++ more) start (ends ++ length (octets ++ more) ∷ []) ≡ strings_of octets start ends ++ more ∷ []
strings_push octets more start [] are =
    ap (λ n. slice_range (octets ++ more) n (length (octets ++ more)) ∷ []) are ∙ ap (λ (part : List ℕ). part ∷ []) (last_part octets more)
strings_push octets more start (end ∷ ends) are =
    let part = part_before octets more start end are.0 (start_within end ends (length octets) are.1) in
    let rest = strings_push octets more end ends are.1 in
    λ i. part i ∷ rest i
