-- A table whose entries stand in a row of slots, read from the first slot to the first empty one, behind which no record may
-- stand.
use Rattle.std.specs.Prelude.{◌≡◌, ◌≢◌, ◌⊎◌, ℕ, zero, suc, ◌+◌, ◌-◌, ◌<◌, ◌≤◌, ◌==◌, Bool, List, [], ◌∷◌, ◌++◌, length, map, slice_get, position, is_some}
use Rattle.std.specs.Prelude.{true, false, if◌then◌else◌, AllPairs, Option, Some, None, Result, Ok, Err, IfSome, IsSome}
use Rattle.std.specs.Option.{option_map, option_map_or, option_and_then}
use Rattle.std.specs.FinMap.{get}
use Rattle.plc_base.specs.declared.keeper.BadStore.{BadStore}
use Rattle.plc_base.specs.Keeper.{Records, Write}
use Rattle.store_tables.specs.SlotOrders.{IsOrder}
use Rattle.store_tables.specs.declared.open_fault.OpenFault.{OpenFault}
use Rattle.store_tables.specs.OpenFaults.{IsOpened}

-- How a table of entries is stored.
pub record Layout (A : Type 0) : Type 0 where
  -- the first slot, and how many there are
  pub first : ℕ
  pub slots : ℕ
  -- the entry that the record at a place gives, if it has a reading
  pub read : ℕ → List ℕ → Option A
  -- the record of an entry at a place, and whether an entry has one that is read back
  pub octets : ℕ → A → List ℕ
  pub storable : A → Bool
  -- the entry as a new start finds it
  pub rest : A → A
  -- the number that names an entry: no two entries of a table have the same
  pub key : A → ℕ

-- the slot of a place
abbrev pub slot_of : {A : Type 0} → Layout A → ℕ → ℕ
slot_of layout place = layout.first + place

-- the last slot
abbrev pub last_of : {A : Type 0} → Layout A → ℕ
last_of layout = layout.first + layout.slots - 1

-- the place of the entry with a key
abbrev pub place_of : {A : Type 0} → Layout A → List A → ℕ → Option ℕ
place_of layout table key = position (λ entry. layout.key entry == key) table

-- the entry with a key
abbrev pub entry_of : {A : Type 0} → Layout A → List A → ℕ → Option A
entry_of layout table key = option_and_then (slice_get table) (place_of layout table key)

-- the keys, place by place
abbrev pub keys_of : {A : Type 0} → Layout A → List A → List ℕ
keys_of layout table = map layout.key table

-- the put of an entry at a place
abbrev pub entry_write : {A : Type 0} → Layout A → ℕ → A → Write
entry_write layout place entry = record { slot = slot_of layout place; octets = layout.octets place entry }

-- No two entries have one key, and each has a slot.
pub record IsTable {A : Type 0} (layout : Layout A) (table : List A) : Type 0 where
  pub distinct : AllPairs (λ a b. layout.key a ≢ layout.key b) table
  pub short : length table ≤ layout.slots

-- no other place has an entry with this key
abbrev pub IsFree : {A : Type 0} → Layout A → List A → ℕ → ℕ → Type 0
IsFree layout table place key =
    (q : ℕ) → q < length table → q ≢ place → IfSome (slice_get table q) (λ entry. layout.key entry ≢ key)

-- What the table holds as stored is what the records give, no record stands after them, and each entry has a slot.
pub record IsStored {A : Type 0} (layout : Layout A) (table : List A) (records : Records) : Type 0 where
  pub short : length table ≤ layout.slots
  pub each : (place : ℕ) → place < layout.slots
      → option_map (layout.read place) (get records (slot_of layout place))
      ≡ option_map (λ entry. Some (layout.rest entry)) (slice_get table place)

-- no record stands after the first empty slot
abbrev pub IsGapless : {A : Type 0} → Layout A → Records → Type 0
IsGapless layout records =
    (i j : ℕ) → i < j → j < layout.slots → get records (slot_of layout i) ≡ None
    → get records (slot_of layout j) ≡ None

-- # Opening

-- the table with the entry of one more record, unless that has no reading or its key stands in the table
abbrev pub with_record : {A : Type 0} → Layout A → ℕ → List A → List ℕ → Option (List A)
with_record layout place table octets =
    option_map_or (λ entry. if is_some (place_of layout table (layout.key entry))
    then None else Some (table ++ entry ∷ []))
    (layout.read place octets) None

-- whether no record stands at this many slots from a place on
unfoldable pub is_empty_from : {A : Type 0} → Layout A → ℕ → ℕ → Records → Bool
is_empty_from layout zero place records = true
is_empty_from layout (suc left) place records =
    option_map_or (λ _. false) (get records (slot_of layout place)) (is_empty_from layout left (place + 1) records)

-- What the records give from a place on, up to the first empty slot, after the table so far. Where a record stands behind
-- that slot, the slot's own record was lost.
unfoldable pub opened_from : {A : Type 0} → Layout A → ℕ → ℕ → Records → List A → Result (List A) BadStore
opened_from layout zero place records table = Ok table
opened_from layout (suc left) place records table =
    option_map_or
    (λ octets. option_map_or (λ next. opened_from layout left (place + 1) records next)
    (with_record layout place table octets) (Err (record { slot = slot_of layout place })))
    (get records (slot_of layout place))
    (if is_empty_from layout left (place + 1) records then Ok table else Err (record { slot = slot_of layout place }))

-- the table that the records give
abbrev pub opened : {A : Type 0} → Layout A → Records → Result (List A) BadStore
opened layout records = opened_from layout layout.slots 0 records []

-- what was read into a value, or why it could not be
abbrev pub read_into : {A : Type 0} → Result (Unit {0}) BadStore → A → Result A BadStore
read_into (Ok _) value = Ok value
read_into (Err bad) value = Err bad

-- a table that was stored is opened again, each entry at rest, unless there is no memory for it
abbrev pub Reopens : {A : Type 0} → Layout A → Records → Result (List A) OpenFault → Type 0
Reopens {A} layout records result =
    (table : List A) → IsTable layout table → IsStored layout table records → IsOpened result (Ok (map layout.rest table))

-- so it is read into a table that there is
abbrev pub ReopensInto : {A : Type 0} → Layout A → Records → Result (Unit {0}) BadStore → List A → Type 0
ReopensInto {A} layout records result new =
    (table : List A) → IsTable layout table → IsStored layout table records
    → (result ≡ Ok tt) × (new ≡ map layout.rest table)

-- The same, where every slot has room in the table, and the places are known in the order of their keys.
pub record IsTableOf {A : Type 0} (layout : Layout A) (room : ℕ) (table : List A) (places : List ℕ) : Type 0 where
  pub sound : IsTable layout table
  pub whole : room ≡ layout.slots
  pub order : IsOrder (keys_of layout table) places

-- # What opening says of the records

-- the entry that the record at a place gives, if one is there and has a reading
abbrev pub entry_at : {A : Type 0} → Layout A → Records → ℕ → Option A
entry_at layout records place = option_and_then (layout.read place) (get records (slot_of layout place))

-- The table has the entry of each record, and no record stands after them.
pub record IsReading {A : Type 0} (layout : Layout A) (table : List A) (records : Records) : Type 0 where
  pub sound : IsTable layout table
  pub each : (place : ℕ) → place < length table → entry_at layout records place ≡ slice_get table place
  pub ended : (place : ℕ) → length table ≤ place → place < layout.slots → get records (slot_of layout place) ≡ None

-- a record before this one gives an entry of the same key
pub record IsSecond {A : Type 0} (layout : Layout A) (records : Records) (place : ℕ) : Type 0 where
  pub earlier : ℕ
  pub before : earlier < place
  pub there : IsSome (entry_at layout records place)
  pub same : option_map layout.key (entry_at layout records earlier)
      ≡ option_map layout.key (entry_at layout records place)

-- the record at a place has no reading, or is a second one of a key
pub record IsDamaged {A : Type 0} (layout : Layout A) (records : Records) (place : ℕ) : Type 0 where
  pub there : IsSome (get records (slot_of layout place))
  pub why : (entry_at layout records place ≡ None) ⊎ IsSecond layout records place

-- the slot of a place is empty, and a record stands behind it
pub record IsLost {A : Type 0} (layout : Layout A) (records : Records) (place : ℕ) : Type 0 where
  pub empty : get records (slot_of layout place) ≡ None
  pub later : ℕ
  pub after : place < later
  pub within : later < layout.slots
  pub behind : IsSome (get records (slot_of layout later))

-- The record at a slot has no reading, is a second one of a key, or was lost; and no empty slot stands before it.
pub record IsBad {A : Type 0} (layout : Layout A) (records : Records) (slot : ℕ) : Type 0 where
  pub place : ℕ
  pub within : place < layout.slots
  pub here : slot ≡ slot_of layout place
  pub reached : (q : ℕ) → q < place → IsSome (get records (slot_of layout q))
  pub wrong : IsDamaged layout records place ⊎ IsLost layout records place
