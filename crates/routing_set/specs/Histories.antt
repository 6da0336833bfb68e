-- What a node knew of ways, over offers, failed puts, routes that ended and new starts.
use Rattle.std.specs.Prelude.{◌≡◌, ◌⊎◌, ℕ, ◌<◌, Bool, true, false, length, Option, Some, None, Ok}
use Rattle.std.specs.FinMap.{get}
use Rattle.plc_base.specs.Keeper.{Records}
use Rattle.store_tables.specs.SlotTables.{IsTable, slot_of}
use Rattle.routing_set.specs.declared.rank.Rank.{Rank}
use Rattle.routing_set.specs.declared.entry.RoutingEntry.{RoutingEntry}
use Rattle.routing_set.specs.RoutingSet.{Routing, ranks, AgreesWith, floor_slot, opened, is_better, is_full, offered, half_offered, ended}

-- No two entries have one address, each has a slot, and there are 16 floors.
pub record IsRouting (routing : Routing) : Type 0 where
  pub entries : IsTable ranks routing.entries
  pub sixteen : length routing.floors ≡ 16

-- From what was known first to what is known now, none where a put failed and it was not opened again, and to the records.
pub data Leads (first : Routing) : Option Routing → Records → Type 0 where
  begins : (records : Records) → IsRouting first → AgreesWith first records → Leads first (Some first) records
  offers : (now : Routing) (dest : ℕ) (rank : Rank) (next at : ℕ) (old new : Records) → Leads first (Some now) old
      → is_better now dest rank ≡ true → is_full now dest at ≡ false → AgreesWith (offered now dest rank next at) new
      → Leads first (Some (offered now dest rank next at)) new
  fails : (now : Routing) (dest : ℕ) (rank : Rank) (next at : ℕ) (old new : Records) → Leads first (Some now) old
      → is_better now dest rank ≡ true → is_full now dest at ≡ false
      → AgreesWith now new ⊎ AgreesWith (half_offered now dest at) new ⊎ AgreesWith (offered now dest rank next at) new
      → Leads first None new
  ends : (now : Routing) (records : Records) (test : RoutingEntry → Bool) → Leads first (Some now) records
      → Leads first (Some (ended test now)) records
  restarts : (was : Option Routing) (now : Routing) (records : Records) → Leads first was records
      → opened records ≡ Ok now
      → Leads first (Some now) records
  elsewhere : (was : Option Routing) (old new : Records) → Leads first was old → get new floor_slot ≡ get old floor_slot
      → ((place : ℕ) → place < 64 → get new (slot_of ranks place) ≡ get old (slot_of ranks place)) → Leads first was new
