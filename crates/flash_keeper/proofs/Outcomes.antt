-- A fact behind the outcome of a call.
use Rattle.std.proofs.Common.{◌≡◌, true, false, Result, Ok, Err, OnOk, OnErr, IfOk, IfErr, is_ok, refl}

pub on_ok_of : {T E P : Type 0} (r : Result T E) → (is_ok r ≡ true → P) → OnOk r P
on_ok_of (Ok x) f = f refl
on_ok_of (Err e) f = tt

pub on_err_of : {T E P : Type 0} (r : Result T E) → (is_ok r ≡ false → P) → OnErr r P
on_err_of (Ok x) f = tt
on_err_of (Err e) f = f refl

pub of_both : {T E P : Type 0} (r : Result T E) → OnOk r P → OnErr r P → P
of_both (Ok x) p q = p
of_both (Err e) p q = q

pub on_ok : {T E P : Type 0} (r : Result T E) → P → OnOk r P
on_ok (Ok x) p = p
on_ok (Err e) p = tt

pub on_err : {T E P : Type 0} (r : Result T E) → P → OnErr r P
on_err (Ok x) p = tt
on_err (Err e) p = p

pub one_ok : {T E P R : Type 0} (r : Result T E) → (P → R) → OnOk r P → OnOk r R
one_ok (Ok x) f p = f p
one_ok (Err e) f p = tt

pub both_ok : {T E P Q R : Type 0} (r : Result T E) → (P → Q → R) → OnOk r P → OnOk r Q → OnOk r R
both_ok (Ok x) f p q = f p q
both_ok (Err e) f p q = tt

pub one_err : {T E P R : Type 0} (r : Result T E) → (P → R) → OnErr r P → OnErr r R
one_err (Ok x) f p = tt
one_err (Err e) f p = f p

pub both_err : {T E P Q R : Type 0} (r : Result T E) → (P → Q → R) → OnErr r P → OnErr r Q → OnErr r R
both_err (Ok x) f p q = tt
both_err (Err e) f p q = f p q

pub if_ok : {T E : Type 0} {P : T → Type 0} (r : Result T E) → ((x : T) → P x) → IfOk r P
if_ok (Ok x) f = f x
if_ok (Err e) f = tt

pub one_if_ok : {T E : Type 0} {P Q : T → Type 0} (r : Result T E) → ((x : T) → P x → Q x) → IfOk r P → IfOk r Q
one_if_ok (Ok x) f p = f x p
one_if_ok (Err e) f p = tt

pub both_if_ok : {T E : Type 0} {P Q R : T → Type 0} (r : Result T E) → ((x : T) → P x → Q x → R x) → IfOk r P → IfOk r Q → IfOk r R
both_if_ok (Ok x) f p q = f x p q
both_if_ok (Err e) f p q = tt

pub one_if_err : {T E : Type 0} {P Q : E → Type 0} (r : Result T E) → ((e : E) → P e → Q e) → IfErr r P → IfErr r Q
one_if_err (Ok x) f p = tt
one_if_err (Err e) f p = f e p

pub under : {T E A : Type 0} (P : T → Type 0) (r : Result T E) → (A → IfOk r P) → IfOk r (λ x. A → P x)
under P (Ok x) f = f
under P (Err e) f = tt

pub four_err : {T E P Q R S U : Type 0} (r : Result T E) → (P → Q → R → S → U) → OnErr r P → OnErr r Q → OnErr r R → OnErr r S → OnErr r U
four_err (Ok x) f p q s u = tt
four_err (Err e) f p q s u = f p q s u
