-- A check shows each change within one octet: the residue is another one from there on, since 256 and 2^32 have inverses modulo a prime.
use Rattle.std.proofs.Common.{◌≡◌, ℕ, ◌*◌, ◌%◌, ◌<◌, List, [], ◌∷◌, ◌++◌, arith}
use Rattle.std.specs.List.{fold}
use Rattle.flash_keeper.specs.declared.check.TheConstants.{MODULUS}
use Rattle.flash_keeper.specs.Check.{next_residue, check_of, ChangedOctetIsSeen, ChangedSlotIsSeen}

next_less : (r o : ℕ) → next_residue r o < MODULUS
next_less r o = omega arith

same_before : (r s o : ℕ) → r < MODULUS → s < MODULUS → next_residue r o ≡ next_residue s o → r ≡ s
same_before r s o a b e = omega (arith, a, b, e)

same_octet : (r o p : ℕ) → o < 256 → p < 256 → next_residue r o ≡ next_residue r p → o ≡ p
same_octet r o p a b e = omega (arith, a, b, e)

same_residue : (r s : ℕ) → r < MODULUS → s < MODULUS → (r * 0x100000000) % MODULUS ≡ (s * 0x100000000) % MODULUS → r ≡ s
same_residue r s a b e = omega (arith, a, b, e)

fold_less : (octets : List ℕ) (r : ℕ) → r < MODULUS → fold next_residue r octets < MODULUS
fold_less [] r a = a
fold_less (o ∷ octets) r a = fold_less octets (next_residue r o) (next_less r o)

same_start : (octets : List ℕ) (r s : ℕ) → r < MODULUS → s < MODULUS → fold next_residue r octets ≡ fold next_residue s octets → r ≡ s
same_start [] r s a b e = e
same_start (o ∷ octets) r s a b e =
    same_before r s o a b (same_start octets (next_residue r o) (next_residue s o) (next_less r o) (next_less s o) e)

more_less : (front back : List ℕ) (r o : ℕ) → fold next_residue r (front ++ o ∷ back) < MODULUS
more_less [] back r o = fold_less back (next_residue r o) (next_less r o)
more_less (x ∷ front) back r o = more_less front back (next_residue r x) o

same_within : (front back : List ℕ) (r o p : ℕ) → o < 256 → p < 256
    → fold next_residue r (front ++ o ∷ back) ≡ fold next_residue r (front ++ p ∷ back) → o ≡ p
same_within [] back r o p a b e =
    same_octet r o p a b (same_start back (next_residue r o) (next_residue r p) (next_less r o) (next_less r p) e)
same_within (x ∷ front) back r o p a b e = same_within front back (next_residue r x) o p a b e

pub changed_octet_is_seen : ChangedOctetIsSeen
unfolding check_of
changed_octet_is_seen low front back octet other a b e =
    same_within front back low octet other a b (same_residue _ _ (more_less front back low octet) (more_less front back low other) e)

pub changed_slot_is_seen : ChangedSlotIsSeen
unfolding check_of
changed_slot_is_seen low other octet octets a b e =
    same_start (octet ∷ octets) low other a b (same_residue _ _ (fold_less (octet ∷ octets) low a) (fold_less (octet ∷ octets) other b) e)
