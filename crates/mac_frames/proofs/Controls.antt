-- The octets of a frame control, from their bits.
use Rattle.std.proofs.Common.{◌≡◌, ℕ, ◌<◌, ◌≤◌, List, length, None, eqb, arith, inl, inr}
use Rattle.std.proofs.lemmas.Bool.{cases_eq, eq-eqb, ne_eqb}
use Rattle.mac_frames.specs.Grammar.{low_control}
use Rattle.std.proofs.lemmas.Grind.{common_steps}
use Rattle.plc_base.specs.Fields.{octet}
use Rattle.plc_base.specs.Faults.{cut_off}
use Rattle.mac_frames.specs.Faults.{bits, low_fault}

pub low_is : (x : ℕ) → x < 256 → bits 0 3 x ≡ 1 → bits 4 1 x ≡ 0 → bits 7 1 x ≡ 0 → bits 6 1 x ≡ 1
    → low_control (eqb (bits 3 1 x) 1) (eqb (bits 5 1 x) 1) ≡ x
low_is x small type four seven six =
    elim (cases_eq (bits 3 1 x) 1) [
      | inl sealed ↦ elim (cases_eq (bits 5 1 x) 1) [
        | inl ack ↦ rw (eq-eqb (bits 3 1 x) 1 sealed, eq-eqb (bits 5 1 x) 1 ack) (omega arith)
        | inr none ↦ rw (eq-eqb (bits 3 1 x) 1 sealed, ne_eqb (bits 5 1 x) 1 none) (omega arith)
      ]
      | inr plain ↦ elim (cases_eq (bits 5 1 x) 1) [
        | inl ack ↦ rw (ne_eqb (bits 3 1 x) 1 plain, eq-eqb (bits 5 1 x) 1 ack) (omega arith)
        | inr none ↦ rw (ne_eqb (bits 3 1 x) 1 plain, ne_eqb (bits 5 1 x) 1 none) (omega arith)
      ]
    ]

-- a first octet that is as it should be has no fault
pub low_none : (x : ℕ) (octets : List ℕ) → 1 ≤ length octets → octet 0 octets ≡ x → bits 0 3 x ≡ 1 → bits 4 1 x ≡ 0 → bits 7 1 x ≡ 0 → bits 6 1 x ≡ 1
    → low_fault octets ≡ None
unfolding low_fault cut_off
low_none x octets some is type four seven six = grind (arith, common_steps)
