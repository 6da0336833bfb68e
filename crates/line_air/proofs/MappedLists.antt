-- A list whose first elements were mapped, one after the other.
use Rattle.std.proofs.Common.{◌≡◌, ℕ, zero, suc, ◌+◌, ◌<◌, List, [], ◌∷◌, length, map, get_or, set, refl, sym, ap, subst, ◌∙◌, arith}
use Rattle.std.proofs.Math.Numerals.{add-one}

abbrev pub mapped : {A : Type 0} → (A → A) → ℕ → List A → List A
mapped f zero xs = xs
mapped f (suc i) [] = []
mapped f (suc i) (x ∷ xs) = f x ∷ mapped f i xs

next : {A : Type 0} (f : A → A) (i : ℕ) (xs : List A) (y : A) → i < length (mapped f i xs) → y ≡ get_or (mapped f i xs) i y →
    set (mapped f i xs) i (f y) ≡ mapped f (suc i) xs
next f zero [] y h e = absurd (omega arith)
next f (suc i) [] y h e = absurd (omega arith)
next f zero (x ∷ xs) y h e = ap (λ z. f z ∷ xs) e
next f (suc i) (x ∷ xs) y h e = ap (λ ys. f x ∷ ys) (next f i xs y (omega arith) e)

pub one_more : {A : Type 0} (f : A → A) (i : ℕ) (xs ys : List A) (y : A) → ys ≡ mapped f i xs → i < length ys → y ≡ get_or ys i y →
    set ys i (f y) ≡ mapped f (i + 1) xs
one_more f i xs ys y same h e =
    ap (λ zs. set zs i (f y)) same
    ∙ next f i xs y (subst (λ zs. i < length zs) same h) (subst (λ zs. y ≡ get_or zs i y) same e)
    ∙ ap (λ n. mapped f n xs) (sym (add-one i))

next_at : {A : Type 0} (f : A → A) (i : ℕ) (xs : List A) (d : A) → i < length (mapped f i xs) →
    set (mapped f i xs) i (f (get_or (mapped f i xs) i d)) ≡ mapped f (suc i) xs
next_at f zero [] d h = absurd (omega arith)
next_at f (suc i) [] d h = absurd (omega arith)
next_at f zero (x ∷ xs) d h = refl
next_at f (suc i) (x ∷ xs) d h = ap (λ ys. f x ∷ ys) (next_at f i xs d (omega arith))

pub one_more_at : {A : Type 0} (f : A → A) (i : ℕ) (xs ys : List A) (d : A) → ys ≡ mapped f i xs → i < length ys →
    set ys i (f (get_or ys i d)) ≡ mapped f (i + 1) xs
one_more_at f i xs ys d same h =
    ap (λ zs. set zs i (f (get_or zs i d))) same
    ∙ next_at f i xs d (subst (λ zs. i < length zs) same h)
    ∙ ap (λ n. mapped f n xs) (sym (add-one i))

pub all_mapped : {A : Type 0} (f : A → A) (i : ℕ) (xs : List A) → i ≡ length xs → mapped f i xs ≡ map f xs
all_mapped f zero [] e = refl
all_mapped f (suc i) [] e = refl
all_mapped f zero (x ∷ xs) e = absurd (omega arith)
all_mapped f (suc i) (x ∷ xs) e = ap (λ ys. f x ∷ ys) (all_mapped f i xs (omega arith))

pub ruleset mapping = (one_more, all_mapped)
