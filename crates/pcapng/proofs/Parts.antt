-- What stands at the front of octets is read from there.
use Rattle.std.proofs.Common.{◌≡◌, ◌≤◌, ◌<◌, ◌^◌, ℕ, Bool, true, false, ◌+◌, List, ◌++◌, length, take, drop, Option, Some, refl, subst}
use Rattle.std.proofs.Common.{arith, length-append, nat_le}
use Rattle.std.proofs.Math.Seq.{drop-append_seam, take-append_seam}
use Rattle.std.proofs.lemmas.Grind.{common_steps}
use Rattle.byteorder.specs.Endian.{little_bytes, little_number}
use Rattle.byteorder.specs.Numbers.{little_number-reads_back, length-bytes_low_first}
use Rattle.pcapng.specs.Reader.{number_then, part_then, where_true, choose, and_then}

pub leb_true : (m n : ℕ) → m ≤ n → nat_le m n ≡ true
leb_true m n h = grind (arith, common_steps)

pub part_behind : {B : Type 0} → (n : ℕ) (part rest : List ℕ) (next : List ℕ → List ℕ → Option B) → length part ≡ n
    → part_then n (part ++ rest) next ≡ next part rest
unfolding part_then
part_behind n part rest next e =
    let fits : nat_le n (length (part ++ rest)) ≡ true = leb_true n (length (part ++ rest)) (omega (arith, length-append part rest, e)) in
    let front : take n (part ++ rest) ≡ part = subst (λ (k : ℕ). take k (part ++ rest) ≡ part) e (take-append_seam part rest) in
    let back : drop n (part ++ rest) ≡ rest = subst (λ (k : ℕ). drop k (part ++ rest) ≡ rest) e (drop-append_seam part rest) in
    rw (fits, front, back) refl

pub number_behind : {B : Type 0} → (n x : ℕ) (rest : List ℕ) (next : ℕ → List ℕ → Option B) → x < 256 ^ n
    → number_then n (little_bytes n x ++ rest) next ≡ next x rest
unfolding number_then
number_behind n x rest next h =
    let size : length (little_bytes n x) ≡ n = length-bytes_low_first 0 n x in
    let fits : nat_le n (length (little_bytes n x ++ rest))
    ≡ true = leb_true n (length (little_bytes n x ++ rest)) (omega (arith, length-append (little_bytes n x) rest, size)) in
    let number : little_number n (little_bytes n x ++ rest) ≡ x = little_number-reads_back n x rest h in
    let back : drop n (little_bytes n x ++ rest)
    ≡ rest = subst (λ (k : ℕ). drop k (little_bytes n x ++ rest) ≡ rest) size (drop-append_seam (little_bytes n x) rest) in
    rw (fits, number, back) refl

pub where_behind : {B : Type 0} → (b : Bool) (r : Option B) → b ≡ true → where_true b r ≡ r
unfolding where_true
where_behind b r e = rw e refl

pub choose_no : {B : Type 0} → (b : Bool) (one other : Option B) → b ≡ false → choose b one other ≡ other
unfolding choose
choose_no b one other e = rw e refl

pub and_behind : {A B : Type 0} → (r : Option A) (x : A) (next : A → Option B) → r ≡ Some x → and_then r next ≡ next x
unfolding and_then
and_behind r x next e = rw e refl
