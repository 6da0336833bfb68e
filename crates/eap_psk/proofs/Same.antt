-- When octets are the same.
use Rattle.std.proofs.Common.{◌≡◌, Bool, true, List, ℕ}
use Rattle.std.specs.Prelude.{◌↔◌, IsTrue}
use Rattle.std.proofs.lemmas.Slice.Eq.{bytes_eq-Decides}
use Rattle.std.specs.Bool.{one_answer, Decides}
use Rattle.eap_psk.specs.Faults.{same}

pub same_Decides : (a b : List ℕ) → Decides (same a b) (a ≡ b)
unfolding same
same_Decides a b = bytes_eq-Decides a b

pub same_from : (r : Bool) (a b : List ℕ) → (IsTrue r ↔ (a ≡ b)) → r ≡ same a b
same_from r a b h = one_answer r (same a b) (h.0, h.1) (same_Decides a b)

pub same_true : (a b : List ℕ) → a ≡ b → same a b ≡ true
same_true a b e = (same_Decides a b).1 e

pub same_is : (a b : List ℕ) → same a b ≡ true → a ≡ b
same_is a b e = (same_Decides a b).0 e
