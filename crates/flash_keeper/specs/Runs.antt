-- Puts, losses of power and openings one after another, and what a store then holds.
use Rattle.std.specs.Prelude.{◌≡◌, ◌⊎◌, ℕ, Bool, true, false, List, [], ◌∷◌, Option, Some, None}
use Rattle.std.specs.FinMap.{get, insert, empty}
use Rattle.flash_keeper.specs.Log.{Choice}
use Rattle.flash_keeper.specs.Banks.{FlashStore, IsLeftBy, IsLeftOpen, IsOpened}

-- What happens to a store. A put that failed may have lost power at any moment of it; an opening that lost power changes nothing that a
-- later one may find, so it is no event. A reopening is one also where it failed: its keeper goes on.
pub data Event : Type 0 where
  Put : ℕ → List ℕ → Bool → Event
  Open : Event
  Reopen : Event

-- The newest event stands first. Each step is what the contracts of the keeper's calls say.
unfoldable pub IsRun : List Event → FlashStore → Type 0
IsRun [] now = (now.store.records ≡ empty) × (now.left ≡ empty)
IsRun (Put slot octets true ∷ events) now =
    (before : FlashStore) × IsRun events before × (now.store.records ≡ insert before.store.records slot octets) × IsLeftBy before slot octets true now
IsRun (Put slot octets false ∷ events) now =
    (before : FlashStore) × IsRun events before × (now.store.records ≡ before.store.records) × IsLeftBy before slot octets false now
IsRun (Open ∷ events) now =
    (before : FlashStore) × IsRun events before × ((now.store.records ≡ before.store.records) ⊎ (now.store.records ≡ before.left))
    × (now.left ≡ now.store.records)
IsRun (Reopen ∷ events) now = (before : FlashStore) × IsRun events before × IsLeftOpen before now

-- what the next opening may find at a slot besides: the records of puts that failed since the last one
unfoldable pub Leaves : List Event → ℕ → Option (List ℕ) → Type 0
Leaves [] slot found = ⊥
Leaves (Put at octets true ∷ events) slot found = ⊥
Leaves (Put at octets false ∷ events) slot found = Leaves events slot found ⊎ ((at ≡ slot) × (found ≡ Some octets))
Leaves (Open ∷ events) slot found = ⊥
Leaves (Reopen ∷ events) slot found = Leaves events slot found

-- what a get of a slot may answer: the last record that was put, or that of a failed put after it, where it was opened since
unfoldable pub Holds : List Event → ℕ → Option (List ℕ) → Type 0
Holds [] slot found = found ≡ None
Holds (Put at octets true ∷ events) slot found = ((at ≡ slot) × (found ≡ Some octets)) ⊎ ((at ≡ slot → ⊥) × Holds events slot found)
Holds (Put at octets false ∷ events) slot found = Holds events slot found
Holds (Open ∷ events) slot found = Holds events slot found ⊎ Leaves events slot found
Holds (Reopen ∷ events) slot found = Holds events slot found ⊎ Leaves events slot found

-- whatever happened, a slot has the record of one of its puts: the last one that succeeded, or a later one that failed
abbrev pub HoldsWhatWasPut : Type 0
HoldsWhatWasPut = (events : List Event) (now : FlashStore) → IsRun events now → (slot : ℕ) → Holds events slot (get now.store.records slot)

-- an opening holds what the opening before it held, where nothing was put between them
abbrev pub EachOpeningIsTheSame : Type 0
EachOpeningIsTheSame =
    (choice : Choice) (first second : FlashStore) → IsOpened choice first → IsOpened (record { old = first.store.records; new = first.left }) second
    → second.store.records ≡ first.store.records
