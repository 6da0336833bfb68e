-- The records that are taken in before a meter is opened.
use Rattle.std.specs.Prelude.{◌≡◌, ℕ, ◌<◌, ◌≤◌, ◌+◌, ◌-◌, List, length, drop, IsSome}
use Rattle.std.specs.FinMap.{get, insert}
use Rattle.plc_base.specs.Keeper.{Records, Store, IsSlot}
use Rattle.host_calls.specs.Calls.{number_at}
use Rattle.host_calls.specs.declared.status.Status.{Status}
use Rattle.host_calls.specs.declared.status.Status.TheVariants.{Done, Malformed}

-- A slot of a table of 64 slots that begins at the first one here, and is not that, comes after one that has a record.
pub record Follows (first : ℕ) (records : Records) (slot : ℕ) : Type 0 where
  pub after : first < slot → slot < first + 64 → IsSome (get records (slot - 1))

-- Octets are a slot in four octets and a record for it, which leaves no gap in a table.
pub record IsRecord (octets : List ℕ) (records : Records) : Type 0 where
  pub long : 4 ≤ length octets
  pub fits : length octets ≤ 68
  pub slot : IsSlot (number_at 4 0 octets)
  pub marks : Follows 0x0100 records (number_at 4 0 octets)
  pub ranks : Follows 0x0200 records (number_at 4 0 octets)

-- the record was taken in, or it is none that may be, and nothing has changed
abbrev pub IsLoaded : List ℕ → Store → Status → Store → Type 0
IsLoaded octets old Done new = IsRecord octets old.records × (new ≡ record old { records = insert old.records (number_at 4 0 octets) (drop 4 octets) })
IsLoaded octets old Malformed new = (IsRecord octets old.records → ⊥) × (new ≡ old)
IsLoaded octets old status new = ⊥
