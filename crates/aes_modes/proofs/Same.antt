-- The mask of the places where two lists differ: it is 0 for a list and itself alone.
use Rattle.std.proofs.Common.{◌≡◌, ◌↔◌, IsTrue, ℕ, ◌+◌, ◌-◌, ◌*◌, ◌%◌, ◌^◌, Bool, true, false, nat_eq, List, [], ◌∷◌, length, map, refl, sym, ap, ◌∙◌, arith}
use Rattle.std.proofs.Common.{w8}
use Rattle.std.proofs.lemmas.Bool.{false≢true, eqb-true, eq-eqb}
use Rattle.std.proofs.lemmas.Simd.{tops_compared, mask_l-mod, length-zip2}
use lib.Dec.{eqb}
use lib.Lanes.{zip2, mask_l, top}
use mathlib.Core.Bool.{cond, not}

abbrev pub differs : ℕ → ℕ → Bool
differs x y = not (eqb x y)

lowest : (b : Bool) (m : ℕ) → cond b 1 0 + 2 * m ≡ 0 → b ≡ false
lowest true m e = absurd (omega (arith, e))
lowest false m e = refl

others : (b : Bool) (m : ℕ) → cond b 1 0 + 2 * m ≡ 0 → m ≡ 0
others true m e = absurd (omega (arith, e))
others false m e = omega (arith, e)

un_not : (b : Bool) → not b ≡ false → b ≡ true
un_not true e = refl
un_not false e = absurd (false≢true (sym e))

none_differ : (xs ys : List ℕ) → length xs ≡ length ys → mask_l (zip2 differs xs ys) ≡ 0 → xs ≡ ys
none_differ [] [] len e = refl
none_differ [] (y ∷ ys) len e = absurd (omega (arith, len))
none_differ (x ∷ xs) [] len e = absurd (omega (arith, len))
none_differ (x ∷ xs) (y ∷ ys) len e = λ i.
    eqb-true x y (un_not (eqb x y) (lowest (differs x y) (mask_l (zip2 differs xs ys)) e)) i
    ∷ none_differ xs ys (omega (arith, len)) (others (differs x y) (mask_l (zip2 differs xs ys)) e) i

none_with_itself : (xs : List ℕ) → mask_l (zip2 differs xs xs) ≡ 0
none_with_itself [] = refl
none_with_itself (x ∷ xs) = λ i. cond (not (eq-eqb x x refl i)) 1 0 + 2 * none_with_itself xs i

abbrev pub mask : List ℕ → List ℕ → ℕ
mask a b = mask_l (map (top 7) (zip2 (λ x y. cond (differs x y) (2 ^ 8 - 1) 0) a b)) % 2 ^ 64

mask_is : (a b : List ℕ) → length a ≡ 16 → length b ≡ 16 → mask a b ≡ mask_l (zip2 differs a b)
mask_is a b la lb =
    ap (λ (ms : List Bool). mask_l ms % 2 ^ 64) (tops_compared w8 differs a b)
    ∙ mask_l-mod (zip2 differs a b) 64 (omega (arith, length-zip2 differs a b (la ∙ sym lb)))

pub same_by_mask : (a b : List ℕ) → length a ≡ 16 → length b ≡ 16 → IsTrue (nat_eq (mask a b) 0) ↔ (a ≡ b)
same_by_mask a b la lb = (
  λ h. none_differ a b (la ∙ sym lb) (sym (mask_is a b la lb) ∙ eqb-true (mask a b) 0 h),
  λ e. eq-eqb (mask a b) 0 (mask_is a b la lb ∙ (λ i. mask_l (zip2 differs (e i) b)) ∙ none_with_itself b),
)
