-- Parts of lists of octets, and tests over mapped lists.
use Rattle.std.proofs.Common.{◌≡◌, ℕ, ◌+◌, ◌-◌, ◌<◌, ◌≤◌, ◌⊎◌, inl, inr, Bool, ◌||◌, List, [], ◌∷◌, length, map, get_or, drop, Some, None, refl, sym, ap, ◌∙◌}
use Rattle.std.proofs.Common.{arith, length-take, length-drop}
use Rattle.std.proofs.lemmas.List.{get_or-take, get_or-drop, same_lists}
use Rattle.std.proofs.lemmas.Option.{slice_get-get_or, slice_get_past}
use Rattle.std.proofs.lemmas.List.Elements.{All-head, All-tail}
use Rattle.std.specs.List.{list_any, slice_get, slice_range, All}
use Rattle.block_pool.specs.Pool.{overwrite}
use Rattle.block_pool.proofs.Overwrites.{overwrite_before, overwrite_within, overwrite_after, length-overwrite}

-- # Parts

pub length-slice : (os : List ℕ) (a n : ℕ) → a + n ≤ length os → length (slice_range os a (a + n)) ≡ n
length-slice os a n le = omega (arith, length-take (a + n - a) (drop a os), length-drop a os)

get_or-slice : (os : List ℕ) (a n k d : ℕ) → k < n → get_or (slice_range os a (a + n)) k d ≡ get_or os (a + k) d
get_or-slice os a n k d lt = get_or-take (a + n - a) (drop a os) k d (omega arith) ∙ get_or-drop a os k d

-- what is written beside a part leaves it
pub slice_apart : (os : List ℕ) (at : ℕ) (piece : List ℕ) (a n : ℕ) → a + n ≤ length os → at + length piece ≤ length os → (a + n ≤ at) ⊎ (at + length piece ≤ a)
    → slice_range (overwrite os at piece) a (a + n) ≡ slice_range os a (a + n)
slice_apart os at piece a n le fits apart =
    let long = length-overwrite os at piece fits in
    let new = length-slice (overwrite os at piece) a n (omega (arith, long)) in
    same_lists _ _ (new ∙ sym (length-slice os a n le)) (λ k d lt.
    let less : k < n = omega (arith, new) in
    get_or-slice (overwrite os at piece) a n k d less
    ∙ elim apart [
      | inl before ↦ overwrite_before os at (a + k) piece d (omega arith) (omega arith)
      | inr after ↦ overwrite_after os at (a + k) piece d (omega arith) (omega arith)
    ]
    ∙ sym (get_or-slice os a n k d less))

-- what is written stands there
pub slice_written : (os : List ℕ) (at : ℕ) (piece : List ℕ) → at + length piece ≤ length os → slice_range (overwrite os at piece) at (at + length piece) ≡ piece
slice_written os at piece fits =
    let long = length-overwrite os at piece fits in
    let new = length-slice (overwrite os at piece) at (length piece) (omega (arith, long)) in
    same_lists _ _ new (λ k d lt.
    let less : k < length piece = omega (arith, new) in
    get_or-slice (overwrite os at piece) at (length piece) k d less ∙ overwrite_within os at k piece d less (omega arith))

-- # Reading at a position

pub get-slice : (os : List ℕ) (i a n : ℕ) → a ≤ i → i < a + n → a + n ≤ length os → slice_get (slice_range os a (a + n)) (i - a) ≡ slice_get os i
get-slice os i a n le lt fits =
    let back : a + (i - a) ≡ i = omega arith in
    slice_get-get_or _ (i - a) 0 (omega (arith, length-slice os a n fits))
    ∙ ap Some (get_or-slice os a n (i - a) 0 (omega arith) ∙ ap (λ k. get_or os k 0) back) ∙ sym (slice_get-get_or os i 0 (omega arith))

pub get-past : (os : List ℕ) (a n j : ℕ) → n ≤ j → slice_get (slice_range os a (a + n)) j ≡ None
get-past os a n j le = slice_get_past _ j (omega (arith, length-take (a + n - a) (drop a os)))

-- # Tests

module _ {X Y : Type 0} where
  pub list_any-map : (t : Y → Bool) (u : X → Bool) (f : X → Y) (xs : List X) → All (λ x. t (f x) ≡ u x) xs → list_any t (map f xs) ≡ list_any u xs
  list_any-map t u f [] h = refl
  list_any-map t u f (x ∷ xs) h =
      ap (λ b. b || list_any t (map f xs)) (All-head (λ x. t (f x) ≡ u x) x xs h)
      ∙ ap (λ b. u x || b) (list_any-map t u f xs (All-tail (λ x. t (f x) ≡ u x) x xs h))

  pub map_same : (f g : X → Y) (xs : List X) → All (λ x. f x ≡ g x) xs → map f xs ≡ map g xs
  map_same f g [] h = refl
  map_same f g (x ∷ xs) h = ap (λ y. y ∷ map f xs) (All-head (λ x. f x ≡ g x) x xs h) ∙ ap (λ ys. g x ∷ ys) (map_same f g xs (All-tail (λ x. f x ≡ g x) x xs h))
