-- A part of a list, read or written at once.
use Rattle.std.proofs.Common.{◌≡◌, ℕ, ◌+◌, ◌-◌, ◌<◌, ◌≤◌, inl, inr, List, ◌++◌, length, get_or, take, drop, ap, ◌∙◌, arith, length-take, length-drop}
use Rattle.std.proofs.lemmas.Bool.{cases_lt}
use Rattle.std.proofs.lemmas.List.{get_or_append_left, get_or-append_right, get_or-take, get_or-drop}
use borrow.Rule.Slice.PartMut.{mid_of, put_mid}

module _ {X : Type 0} where
  -- the i-th of the n that begin at a
  pub get_or-mid_of : (a n i : ℕ) (xs : List X) (d : X) → i < n → get_or (mid_of a n xs) i d ≡ get_or xs (a + i) d
  get_or-mid_of a n i xs d lt = get_or-take n (drop a xs) i d lt ∙ get_or-drop a xs i d

  pub length-mid_of : (a n : ℕ) (xs : List X) → a + n ≤ length xs → length (mid_of a n xs) ≡ n
  length-mid_of a n xs fits = omega (arith, length-take n (drop a xs), length-drop a xs)

  module _ (a n : ℕ) (xs ys : List X) (d : X) (fits : a + n ≤ length xs) (long : length ys ≡ n) where
    -- the written part is seen
    pub get_or-put_mid : (i : ℕ) → i < n → get_or (put_mid a n xs ys) (a + i) d ≡ get_or ys i d
    get_or-put_mid i lt =
        let j : a + i - a ≡ i = omega arith in
        get_or-append_right (take a xs) (ys ++ drop n (drop a xs)) a (a + i) d (omega (arith, length-take a xs)) (omega arith)
        ∙ ap (λ k. get_or (ys ++ drop n (drop a xs)) k d) j ∙ get_or_append_left ys (drop n (drop a xs)) d i (omega (arith, long))

    -- and nothing else
    pub get_or-put_mid_other : (j : ℕ) → (a ≤ j → j < a + n → ⊥) → get_or (put_mid a n xs ys) j d ≡ get_or xs j d
    get_or-put_mid_other j apart = elim (cases_lt j a) as (λ _. get_or (put_mid a n xs ys) j d ≡ get_or xs j d) [
      | inl less ↦ get_or_append_left (take a xs) (ys ++ drop n (drop a xs)) d j (omega (arith, length-take a xs)) ∙ get_or-take a xs j d less
      | inr more ↦ elim (cases_lt j (a + n)) as (λ _. get_or (put_mid a n xs ys) j d ≡ get_or xs j d) [
        | inl in_part ↦ absurd (apart more in_part)
        | inr past ↦
            let i : a + (n + (j - a - n)) ≡ j = omega arith in
            get_or-append_right (take a xs) (ys ++ drop n (drop a xs)) a j d (omega (arith, length-take a xs)) more
            ∙ get_or-append_right ys (drop n (drop a xs)) n (j - a) d long (omega arith)
            ∙ get_or-drop n (drop a xs) (j - a - n) d ∙ get_or-drop a xs (n + (j - a - n)) d ∙ ap (λ k. get_or xs k d) i
      ]
    ]
