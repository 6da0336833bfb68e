-- What holds of puts that a call makes one after another, whatever becomes of them; and of the keys of a table.
use Rattle.std.specs.Prelude.{◌≡◌, ◌≢◌, ℕ, Bool, true, false, List, [], ◌++◌, All, Option, Some, map, IsSorted, IsPermutation}
use Rattle.std.specs.Ordering.{nat_cmp}
use Rattle.std.specs.FinMap.{get, insert}
use Rattle.plc_base.specs.declared.keeper.Cut.{Cut}
use Rattle.plc_base.specs.Keeper.{Store, Records, Write, SameOutside}
use Rattle.store_tables.specs.Writes.{Wrote, write}
use Rattle.store_tables.specs.LeadingPuts.{all_put}
use Rattle.plc_base.specs.Orders.{ordered_by}
use Rattle.store_tables.specs.SlotTables.{Layout, IsTable, entry_of}

-- The puts of one list after those of another are those of both.
abbrev pub WritesCompose : Type 0
WritesCompose =
    (s m t : Store) (first then : List Write) (done : Bool) → Wrote s first true m → Wrote m then done t
    → Wrote s (first ++ then) done t

-- Where one of the first list failed, none of the second is made.
abbrev pub WritesStop : Type 0
WritesStop = (s t : Store) (first then : List Write) → Wrote s first false t → Wrote s (first ++ then) false t

-- The puts that were made are a prefix of those that were to be made: all of them, if none failed.
pub record IsPrefixWritten (puts : List Write) (cut : Option Cut) (records : Records) : Type 0 where
  pub made : List Write
  pub rest : List Write
  pub split : puts ≡ made ++ rest
  pub left : (write puts cut records).records ≡ all_put made records
  pub all : (write puts cut records).whole ≡ true → rest ≡ []

abbrev pub APrefixIsWritten : Type 0
APrefixIsWritten = (puts : List Write) (cut : Option Cut) (records : Records) → IsPrefixWritten puts cut records

-- these puts go to other slots
abbrev pub AreElsewhere : ℕ → List Write → Type 0
AreElsewhere slot puts = All (λ (w : Write). w.slot ≢ slot) puts

-- Puts at other slots leave the record of a slot, whatever becomes of them.
abbrev pub OtherSlotsStay : Type 0
OtherSlotsStay =
    (slot : ℕ) (puts : List Write) (cut : Option Cut) (records : Records) → AreElsewhere slot puts
    → get (write puts cut records).records slot ≡ get records slot

-- A put changes no slot but its own.
abbrev pub APutStaysInItsSlot : Type 0
APutStaysInItsSlot =
    (records : Records) (slot : ℕ) (octets : List ℕ) → SameOutside slot slot records (insert records slot octets)

-- The sorted keys of a table, looked up one by one, give its entries in the order of their keys.
abbrev pub SortedKeysFindAll : Type 0 → Type 0
SortedKeysFindAll A =
    (layout : Layout A) (table : List A) (sorted : List ℕ) → IsTable layout table
    → IsPermutation (map layout.key table) sorted → IsSorted nat_cmp sorted
    → map (entry_of layout table) sorted ≡ map Some (ordered_by layout.key table)
