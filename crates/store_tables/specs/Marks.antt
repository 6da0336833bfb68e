-- A table of marks by address: the number that was last admitted of each address, with a higher one stored ahead of it.
use Rattle.std.specs.Prelude.{◌≡◌, ℕ, ◌+◌, ◌-◌, ◌<◌, ◌≤◌, ◌^◌, min, Bool, true, false, ◌==◌, ◌&&◌, nat_lt, nat_le, if◌then◌else◌, List, [], ◌∷◌, ◌++◌, length}
use Rattle.std.specs.Prelude.{drop, set, get_or, All, Option, Some, None, Result, Ok, Err, refl}
use Rattle.std.specs.Option.{option_map, option_map_or}
use Rattle.std.specs.Coded.{Coded, code_by, coded×, coded_ℕ, coded_list}
use Rattle.byteorder.specs.Endian.{big_number, big_bytes}
use Rattle.plc_base.specs.Keeper.{Records, Write}
use Rattle.store_tables.specs.Writes.{puts_of}
use Rattle.store_tables.specs.SlotTables as slots
use Rattle.store_tables.specs.LeadingPuts.{PutsLead}
use Rattle.store_tables.specs.declared.marks.Mark.{Mark}
use Rattle.store_tables.specs.declared.marks.TheConstants.{MARKS_AHEAD}

-- How many slots for marks follow one another from this one on: those of the peers end at 013F, those of the broadcasts
-- at 031F.
abbrev pub slots_from : ℕ → ℕ
slots_from first =
    if nat_le 0x0100 first && nat_le first 0x0140
    then 0x0140 - first
    else (if nat_le 0x0300 first && nat_le first 0x0320 then 0x0320 - first else 0)

-- how many marks a table of this many slots has
abbrev pub slots_of : ℕ → ℕ → ℕ
slots_of first count = min count (slots_from first)

-- what an admission answers, where there is room or not: this fault where its put failed; done says that none did
abbrev pub admission_answer : {F : Type 0} → F → Bool → Result (Unit {0}) F → Result (Unit {0}) F
admission_answer store done (Ok u) = if done then Ok tt else Err store
admission_answer store done (Err fault) = Err fault

-- one thing where there is room, and else another
abbrev pub where_room : {F A : Type 0} → Result (Unit {0}) F → A → A → A
where_room (Ok u) a b = a
where_room (Err fault) a b = b

-- The tables whose marks stand from a first slot on, in this many slots.
module _ (first count : ℕ) where
  -- the entries in the order of their slots
  abbrev pub Table : Type 0
  Table = List (Mark first count)

  -- a table is kept as the list of its entries' fields
  abbrev pub table_code : Coded Table
  table_code =
      coded_list (code_by (ℕ × (ℕ × ℕ)) (coded× coded_ℕ (coded× coded_ℕ coded_ℕ))
      (λ m. (m.address, (m.mark, m.stored))) (λ t. record { address = t.0; mark = t.1.0; stored = t.1.1 }) (λ _. refl))

  -- the entry of an address and a mark, which is the stored one
  abbrev pub mark_with : ℕ → ℕ → Option (Mark first count)
  mark_with address stored =
      if nat_lt address 0xFFFE
      then Some (record { address = address; mark = stored; stored = stored })
      else None

  -- the entry that a record gives: an address in 2 octets and the stored mark in 4
  abbrev pub mark_in : List ℕ → Option (Mark first count)
  mark_in octets = if length octets == 6 then mark_with (big_number 2 octets) (big_number 4 (drop 2 octets)) else None

  -- the record of an entry
  abbrev pub octets_of : Mark first count → List ℕ
  octets_of entry = big_bytes 2 entry.address ++ big_bytes 4 entry.stored

  -- an entry as a new start finds it
  abbrev pub at_rest : Mark first count → Mark first count
  at_rest entry = record entry { mark = entry.stored }

  -- how the entries are stored
  abbrev pub layout : slots.Layout (Mark first count)
  layout = record {
    first = first;
    slots = slots_of first count;
    read = λ _ octets. mark_in octets;
    octets = λ _ entry. octets_of entry;
    storable = λ _. true;
    rest = at_rest;
    key = λ entry. entry.address;
  }

  -- no mark is above the stored one
  abbrev pub IsCovered : Table → Type 0
  IsCovered table = All (λ entry. entry.mark ≤ entry.stored) table

  -- What the table holds as stored is what the records give, and no record stands after them.
  abbrev pub AgreesWith : Table → Records → Type 0
  AgreesWith table records = slots.IsStored layout table records

  -- the place of an address in the table
  abbrev pub place_of : Table → ℕ → Option ℕ
  place_of table address = slots.place_of layout table address

  -- the entry at a place of the table
  abbrev pub mark_at : Table → ℕ → Mark first count
  mark_at table place = get_or table place (record { address = 0; mark = 0; stored = 0 })

  -- the mark of an address, if it is held
  abbrev pub mark_of : Table → ℕ → Option ℕ
  mark_of table address = option_map (λ place. (mark_at table place).mark) (place_of table address)

  -- whether a number is admitted: of a held address it is to be above the mark, and a new one needs a slot
  abbrev pub has_room : Table → ℕ → ℕ → Bool
  has_room table address number =
      option_map_or (λ place. nat_lt (mark_at table place).mark number) (place_of table address)
      (nat_lt (length table) (slots_of first count))

  -- the same with the reason why not: a number that is too low, or a full table
  abbrev pub room_for : {F : Type 0} → F → F → Table → ℕ → ℕ → Result (Unit {0}) F
  room_for low full table address number =
      option_map_or (λ place. if nat_le number (mark_at table place).mark then Err low else Ok tt)
      (place_of table address) (if length table == slots_of first count then Err full else Ok tt)

  -- an entry whose mark is stored anew, ahead of the number
  abbrev pub mark_ahead : ℕ → ℕ → Mark first count
  mark_ahead address number = record { address = address; mark = number; stored = min (number + MARKS_AHEAD) 4294967295 }

  -- the entry at a place with a higher mark
  abbrev pub advanced : Mark first count → ℕ → ℕ → Mark first count
  advanced entry address number =
      if nat_le number entry.stored then record entry { mark = number } else mark_ahead address number

  -- what is stored before a number is kept: nothing, where it is not above the stored mark
  abbrev pub keep_write : Table → ℕ → ℕ → Option Write
  keep_write table address number =
      option_map_or
      (λ place. if nat_le number (mark_at table place).stored
      then None
      else Some (slots.entry_write layout place (mark_ahead address number)))
      (place_of table address) (Some (slots.entry_write layout (length table) (mark_ahead address number)))

  -- the table after a number was kept
  abbrev pub kept_after : Table → ℕ → ℕ → Table
  kept_after table address number =
      option_map_or (λ place. set table place (advanced (mark_at table place) address number))
      (place_of table address) (table ++ mark_ahead address number ∷ [])

  -- Marks are what the records give, each address at one place.
  pub record AreMarksIn (table : Table) (records : Records) : Type 0 where
    pub kept : AgreesWith table records
    pub sound : slots.IsTable layout table

  -- Whatever becomes of the put for an admitted number, some marks are what the records give.
  abbrev pub AdmissionsLead : Type 0
  AdmissionsLead =
      (table : Table) (address number : ℕ) → has_room table address number ≡ true → address < 0xFFFE → number < 2 ^ 32
      → PutsLead AreMarksIn table (puts_of (keep_write table address number)) (kept_after table address number)

  -- what a record gives rests already
  pub mark_in-rests : (octets : List ℕ) (entry : Mark first count) → mark_in octets ≡ Some entry
      → at_rest entry ≡ entry
  mark_in-rests octets entry e = by_length (length octets == 6) e
    where
      by_address : (b : Bool) (address stored : ℕ)
          → (if b then Some (record { address = address; mark = stored; stored = stored }) else None) ≡ Some entry
          → at_rest entry ≡ entry
      by_address true address stored h = cc
      by_address false address stored h = cc

      by_length : (b : Bool)
          → (if b then mark_with (big_number 2 octets) (big_number 4 (drop 2 octets)) else None) ≡ Some entry
          → at_rest entry ≡ entry
      by_length true h = by_address _ _ _ h
      by_length false h = cc
