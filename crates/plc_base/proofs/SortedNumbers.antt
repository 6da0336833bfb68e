-- There is one way to sort numbers, and ordering a list by a number sorts its numbers.
use Rattle.std.proofs.Common.{◌≡◌, ◌⊎◌, inl, inr, ℕ, suc, ◌+◌, ◌<◌, ◌≤◌, Bool, true, false, cond, List, [], ◌∷◌, length, map, get_or, refl, sym, ap, ◌∙◌, arith}
use Rattle.std.specs.Prelude.{◌==◌, nat_lt, if◌then◌else◌, IsSorted, IsPermutation}
use Rattle.std.specs.List.{sum_by}
use Rattle.std.specs.Ordering.{nat_cmp}
use Rattle.std.specs.List.Sorted.{IsNonDecreasingBy}
use Rattle.std.proofs.lemmas.Bool.{cases_lt}
use Rattle.std.proofs.lemmas.Bool.Decides.{nat_tests}
use Rattle.std.proofs.lemmas.List.Sums.{sum_by-cons}
use Rattle.std.proofs.lemmas.List.Sorted.{IsNonDecreasingBy-from_sort, sum_by-IsPermutation}
use Rattle.plc_base.specs.Orders.{placed_by, ordered_by}

-- # How often a number stands in a list

once : ℕ → ℕ → ℕ
once v x = cond (x == v) 1 0

count : ℕ → List ℕ → ℕ
count v [] = 0
count v (x ∷ xs) = once v x + count v xs

once_here : (x : ℕ) → once x x ≡ 1
unfolding once
once_here x = grind (arith, nat_tests)

once_other : (v x : ℕ) → v < x → once v x ≡ 0
unfolding once
once_other v x h = grind (arith, nat_tests)

count-sum : (v : ℕ) (xs : List ℕ) → count v xs ≡ sum_by (once v) xs
unfolding count
count-sum v [] = refl
count-sum v (x ∷ xs) = ap (λ n. once v x + n) (count-sum v xs) ∙ sym (sum_by-cons (once v) x xs)

-- # Numbers that do not fall

IsLeast : ℕ → List ℕ → Type 0
IsLeast n [] = Unit {0}
IsLeast n (x ∷ xs) = (n ≤ x) × IsLeast n xs

Rises : List ℕ → Type 0
Rises [] = Unit {0}
Rises (x ∷ xs) = IsLeast x xs × Rises xs

least_from : (n : ℕ) (xs : List ℕ) → ((k d : ℕ) → k < length xs → n ≤ get_or xs k d) → IsLeast n xs
unfolding IsLeast
least_from n [] h = tt
least_from n (x ∷ xs) h = (h 0 x (omega arith), least_from n xs (λ k d lt. h (suc k) d (omega arith)))

rises_from : (xs : List ℕ) → IsNonDecreasingBy (λ x. x) xs → Rises xs
unfolding Rises
rises_from [] h = tt
rises_from (x ∷ xs) h =
    (least_from x xs (λ k d lt. h 0 (suc k) d (omega arith) (omega arith)), rises_from xs (λ i j d le lt. h (suc i) (suc j) d (omega arith) (omega arith)))

-- a number below all does not stand in the list
count_below : (v n : ℕ) (xs : List ℕ) → v < n → IsLeast n xs → count v xs ≡ 0
unfolding IsLeast count
count_below v n [] h least = refl
count_below v n (x ∷ xs) h least = let here = once_other v x (omega (arith, least.0)) in let more = count_below v n xs h least.1 in omega arith

-- lists that rise with the same numbers are the same
same_rising : (xs ys : List ℕ) → Rises xs → Rises ys → ((v : ℕ) → count v xs ≡ count v ys) → xs ≡ ys
unfolding Rises count
same_rising [] [] p q same = refl
same_rising [] (y ∷ ys) p q same = let here = once_here y in let k = same y in absurd (omega arith)
same_rising (x ∷ xs) [] p q same = let here = once_here x in let k = same x in absurd (omega arith)
same_rising (x ∷ xs) (y ∷ ys) p q same =
    let e = heads (cases_lt x y) (cases_lt y x) in
    ap (λ k. k ∷ xs) e ∙ ap (λ k. y ∷ k) (same_rising xs ys p.1 q.1 (λ v. rest v (ap (once v) e) (same v)))
  where
    low : (a b : ℕ) (us vs : List ℕ) → a < b → IsLeast b vs → once a a + count a us ≡ once a b + count a vs → ⊥
    low a b us vs lt least h =
        let here = once_here a in
        let none = once_other a b lt in
        let more = count_below a b vs lt least in
        omega arith

    heads : (x < y) ⊎ (y ≤ x) → (y < x) ⊎ (x ≤ y) → x ≡ y
    heads (inl lt) other = absurd (low x y xs ys lt q.0 (same x))
    heads (inr le) (inl lt) = absurd (low y x ys xs lt p.0 (sym (same y)))
    heads (inr le) (inr ge) = omega arith

    rest : (v : ℕ) → once v x ≡ once v y → once v x + count v xs ≡ once v y + count v ys → count v xs ≡ count v ys
    rest v e h = omega arith

same_counts : (xs ys : List ℕ) → IsPermutation xs ys → (v : ℕ) → count v xs ≡ count v ys
same_counts xs ys p v = count-sum v xs ∙ sym (sum_by-IsPermutation (once v) xs ys p) ∙ sym (count-sum v ys)

sorted_rises : (xs : List ℕ) → IsSorted nat_cmp xs → Rises xs
sorted_rises xs h = rises_from xs (IsNonDecreasingBy-from_sort (λ x. x) xs h)

pub one_sorted : (xs ys : List ℕ) → IsSorted nat_cmp xs → IsSorted nat_cmp ys → IsPermutation xs ys → xs ≡ ys
one_sorted xs ys p q same = same_rising xs ys (sorted_rises xs p) (sorted_rises ys q) (same_counts xs ys same)

-- # A list in the order of a number

module _ {A : Type 0} (number : A → ℕ) where
  placed_count : (v : ℕ) (x : A) (ys : List A) → count v (map number (placed_by number x ys)) ≡ once v (number x) + count v (map number ys)
  unfolding count
  placed_count v x [] = refl
  placed_count v x (y ∷ ys) = by_test (nat_lt (number x) (number y)) (placed_count v x ys)
    where
      by_test : (b : Bool) → count v (map number (placed_by number x ys)) ≡ once v (number x) + count v (map number ys)
          → count v (map number (if b then x ∷ (y ∷ ys) else y ∷ placed_by number x ys)) ≡ once v (number x) + (once v (number y) + count v (map number ys))
      by_test true more = refl
      by_test false more = omega arith

  ordered_count : (v : ℕ) (xs : List A) → count v (map number (ordered_by number xs)) ≡ count v (map number xs)
  unfolding count
  ordered_count v [] = refl
  ordered_count v (x ∷ xs) = placed_count v x (ordered_by number xs) ∙ ap (λ n. once v (number x) + n) (ordered_count v xs)

  lower : (m n : ℕ) (xs : List ℕ) → m ≤ n → IsLeast n xs → IsLeast m xs
  unfolding IsLeast
  lower m n [] h least = tt
  lower m n (x ∷ xs) h least = (omega (arith, least.0), lower m n xs h least.1)

  placed_least : (n : ℕ) (x : A) (ys : List A) → n ≤ number x → IsLeast n (map number ys) → IsLeast n (map number (placed_by number x ys))
  unfolding IsLeast
  placed_least n x [] h least = (h, tt)
  placed_least n x (y ∷ ys) h least = by_test (nat_lt (number x) (number y)) (placed_least n x ys h least.1)
    where
      by_test : (b : Bool) → IsLeast n (map number (placed_by number x ys)) → IsLeast n (map number (if b then x ∷ (y ∷ ys) else y ∷ placed_by number x ys))
      by_test true more = (h, least)
      by_test false more = (least.0, more)

  placed_rises : (x : A) (ys : List A) → Rises (map number ys) → Rises (map number (placed_by number x ys))
  unfolding Rises IsLeast
  placed_rises x [] h = (tt, tt)
  placed_rises x (y ∷ ys) h = by_test (nat_lt (number x) (number y)) refl (placed_rises x ys h.1)
    where
      by_test : (b : Bool) → nat_lt (number x) (number y) ≡ b → Rises (map number (placed_by number x ys))
          → Rises (map number (if b then x ∷ (y ∷ ys) else y ∷ placed_by number x ys))
      by_test true e more =
          let below : number x < number y = grind (arith, nat_tests) in
          ((omega arith, lower (number x) (number y) (map number ys) (omega arith) h.0), (h.0, h.1))
      by_test false e more =
          let above : number y ≤ number x = grind (arith, nat_tests) in
          (placed_least (number y) x ys above h.0, more)

  ordered_rises : (xs : List A) → Rises (map number (ordered_by number xs))
  unfolding Rises
  ordered_rises [] = tt
  ordered_rises (x ∷ xs) = placed_rises x (ordered_by number xs) (ordered_rises xs)

  pub sorted_numbers : (xs : List A) (sorted : List ℕ) → IsPermutation (map number xs) sorted → IsSorted nat_cmp sorted
      → sorted ≡ map number (ordered_by number xs)
  sorted_numbers xs sorted same up =
      same_rising sorted (map number (ordered_by number xs)) (sorted_rises sorted up) (ordered_rises xs)
      (λ v. sym (same_counts (map number xs) sorted same v) ∙ sym (ordered_count v xs))
