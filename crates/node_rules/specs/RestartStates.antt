-- What a node is after a restart: what its store gives, and nothing else.
use Rattle.std.specs.Prelude.{[], map, Some, None, Result, Ok, Err}
use Rattle.std.specs.FinMap.{get}
use Rattle.std.specs.List.{range_with_len}
use Rattle.plc_base.specs.Keeper.{Records}
use Rattle.store_tables.specs.SlotTables as slots
use Rattle.plc_base.specs.Grant.{Granted}
use Rattle.plc_base.specs.declared.key.Key.{Key}
use Rattle.plc_base.specs.declared.keeper.BadStore.{BadStore}
use Rattle.frame_counters.specs.SendCounter as counter
use Rattle.frame_counters.specs.PeerMarks as marks
use Rattle.group_keys.specs.KeyRing as ring
use Rattle.group_keys.specs.KeyBook as book
use Rattle.routing_set.specs.RoutingSet as routing
use Rattle.routing_set.specs.OwnNumber as own_number
use Rattle.node_rules.specs.Memory.{StationMemory, Memory, Role, Coordinator, Meter}
pub use Rattle.fragment_buffers.specs.NextTag.{tag_in}
use Rattle.fragment_buffers.specs.NextTag.{tag_slot}

-- what goes on with a part that was read, if it has a reading
abbrev pub reading : {A B : Type 0} → Result A BadStore → (A → Result B BadStore) → Result B BadStore
reading (Ok a) rest = rest a
reading (Err bad) rest = Err bad

-- # A node on the line

-- what the records give of it
unfoldable pub station_of : Records → Result StationMemory BadStore
station_of records =
    reading (ring.opened records) (λ r.
    reading (counter.opened records) (λ c.
    reading (own_number.opened records) (λ n.
    reading (tag_in (get records tag_slot)) (λ tag.
    reading (routing.opened records) (λ t.
    reading (slots.opened marks.peers records) (λ m.
    Ok (record {
      ring = r;
      counter = c;
      marks = m;
      routing = t;
      own_number = n;
      next_tag = tag;
      reassemblies = [];
      waiting = [];
    })))))))

-- # A meter and the coordinator

-- the memory after a restart: no random value is left, and no session
abbrev pub remembering : StationMemory → book.Book → Memory
remembering l b = record { station = l; randoms = []; session = None; sessions = []; book = b }

-- what the records give of a node of this role: the coordinator's book belongs to it
abbrev pub memory_of : Role → Records → Result Memory BadStore
memory_of (Meter psk) records = reading (station_of records) (λ l. Ok (remembering l []))
memory_of Coordinator records =
    reading (station_of records) (λ l. reading (slots.opened book.entries records) (λ b. Ok (remembering l b)))

-- no rank, and every floor 0
abbrev pub blank_routing : routing.Routing
blank_routing = record { entries = []; floors = map (λ _. 0) (range_with_len 0 16) }

-- what a node holds on the line whose store has no record
abbrev pub blank_station : StationMemory
blank_station = record {
  ring = None;
  counter = counter.counting_at 0;
  marks = [];
  routing = blank_routing;
  own_number = own_number.numbering_at 1;
  next_tag = 0;
  reassemblies = [];
  waiting = [];
}

-- the ring that the coordinator begins with: address 0000 and its key under index 0, active
abbrev pub first_grant : Key → Granted
first_grant key = record { address = 0; active = 0; key0 = Some key; key1 = None }
