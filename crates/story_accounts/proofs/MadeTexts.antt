-- A text that was made, by another name.
use Rattle.std.proofs.Common.{◌≡◌, ◌∙◌, ap, List, ℕ, IfOk, OnOk, ◌++◌, Result, append_assoc, subst}

-- a text of its own
pub says : {S E : Type 0} (bytes : S → List ℕ) (r : Result S E) {x y : List ℕ} → x ≡ y → IfOk r (λ (t : S). bytes t ≡ x) → IfOk r (λ (t : S). bytes t ≡ y)
says {S} bytes r e h = subst (λ (z : List ℕ). IfOk r (λ (t : S). bytes t ≡ z)) e h

-- a text that is appended
pub appends : {T E : Type 0} (r : Result T E) (old new : List ℕ) {x y : List ℕ} → x ≡ y → OnOk r (new ≡ old ++ x) → OnOk r (new ≡ old ++ y)
appends r old new e h = subst (λ (z : List ℕ). OnOk r (new ≡ old ++ z)) e h

-- a text that is appended after another one
pub follows : {T E : Type 0} (r : Result T E) (old between new before x : List ℕ) → between ≡ old ++ before → OnOk r (new ≡ between ++ x)
    → OnOk r (new ≡ old ++ (before ++ x))
follows r old between new before x e h =
    subst (λ (z : List ℕ). OnOk r (new ≡ z)) (ap (λ (l : List ℕ). l ++ x) e ∙ append_assoc old before x) h
