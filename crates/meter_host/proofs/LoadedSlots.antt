-- What the slots of the records that are taken in have to do with each other.
use Rattle.std.proofs.Common.{◌≡◌, ◌⊎◌, inl, inr, ℕ, ◌+◌, ◌-◌, ◌<◌, List, ap, arith}
use Rattle.plc_base.specs.Keeper.{Store, IsSlot}
use Rattle.host_calls.specs.declared.status.Status.{Status}
use Rattle.host_calls.specs.declared.status.Status.TheVariants.{Done, Refused, Halted, BadStore, Malformed, Memory}
use Rattle.meter_host.specs.LoadedRecords.{IsLoaded}

-- the slot before another one of a table of a meter
pub slot_before : (first slot : ℕ) → (first ≡ 0x0100) ⊎ (first ≡ 0x0200) → first < slot → slot < first + 64 → IsSlot (slot - 1)
slot_before first slot (inl e) after within = inr (inl (omega arith, omega arith))
slot_before first slot (inr e) after within = inr (inr (inl (omega arith, omega arith)))

-- whatever becomes of a record, the list is as before
pub same_list : (octets : List ℕ) (old : Store) (status : Status) (new : Store) → IsLoaded octets old status new → new.listed ≡ old.listed
same_list octets old Done new h = ap (λ (s : Store). s.listed) h.1
same_list octets old Malformed new h = ap (λ (s : Store). s.listed) h.1
same_list octets old (Refused reason) new h = absurd h
same_list octets old Halted new h = absurd h
same_list octets old BadStore new h = absurd h
same_list octets old Memory new h = absurd h
