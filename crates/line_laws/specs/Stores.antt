-- What a node holds in memory is what its records give, and each record has a reading.
use Rattle.std.specs.Prelude.{◌≡◌, ℕ, ◌<◌, ◌≤◌, ◌^◌, [], length, get_or, All, Option, Ok, IfSome}
use Rattle.std.specs.FinMap.{get}
use Rattle.plc_base.specs.Fields.{AreOctets}
use Rattle.plc_base.specs.Keeper.{Records}
use Rattle.plc_base.specs.declared.address.Eui.{Eui}
use Rattle.plc_base.specs.declared.key.Key.{Key}
use Rattle.plc_base.specs.Grant.{Granted, IsGrant}
use Rattle.store_tables.specs.SlotTables as slots
use Rattle.frame_counters.specs.SendCounter as counter
use Rattle.frame_counters.specs.PeerMarks as marks
use Rattle.group_keys.specs.Fields.{held_octets}
use Rattle.group_keys.specs.declared.key_book.BookEntry.{BookEntry}
use Rattle.group_keys.specs.KeyRing as ring
use Rattle.group_keys.specs.KeyBook as book
use Rattle.routing_set.specs.declared.entry.RoutingEntry.{RoutingEntry}
use Rattle.routing_set.specs.RoutingSet as routing
use Rattle.routing_set.specs.Histories.{IsRouting}
use Rattle.routing_set.specs.OwnNumber as own_number
use Rattle.node_rules.specs.Memory.{StationMemory, Memory, Role, Coordinator, Meter, CoordinatorSession}
use Rattle.node_rules.specs.Drafts.{tag_slot}
use Rattle.node_rules.specs.RestartStates.{tag_in}

-- the record of a key that may be held is 17 octets
abbrev pub IsHeld : Option Key → Type 0
IsHeld key = (length (held_octets key) ≡ 17) × AreOctets (held_octets key)

-- A grant whose record is read back.
pub record IsReadable (g : Granted) : Type 0 where
  pub grant : IsGrant g
  pub address : g.address < 0xFFFE
  pub key0 : IsHeld g.key0
  pub key1 : IsHeld g.key1

-- the rank of an entry has a number and a cost of two octets each
abbrev pub HasShortRank : RoutingEntry → Type 0
HasShortRank e = (e.rank.number < 2 ^ 16) × (e.rank.cost < 2 ^ 16)

-- What a node holds on the line is in its ranges.
pub record IsInRange (l : StationMemory) : Type 0 where
  pub ring : IfSome l.ring IsReadable
  pub counter : l.counter.limit < 2 ^ 32
  pub number : (1 ≤ l.own_number.limit) × (l.own_number.limit < 2 ^ 16)
  pub tag : l.next_tag < 2 ^ 16
  pub routing : IsRouting l.routing
  pub floors : (class : ℕ) → get_or l.routing.floors class 0 < 2 ^ 16
  pub ranks : All HasShortRank l.routing.entries
  pub marks : slots.IsTable marks.peers l.marks

-- It is what the records give.
pub record IsStationKept (l : StationMemory) (records : Records) : Type 0 where
  pub range : IsInRange l
  pub ring : ring.AgreesWith l.ring records
  pub counter : counter.AgreesWith l.counter records
  pub number : own_number.AgreesWith l.own_number records
  pub tag : tag_in (get records tag_slot) ≡ Ok l.next_tag
  pub routing : routing.AgreesWith l.routing records
  pub marks : marks.AgreesWith l.marks records

-- an EUI of 8 octets
abbrev pub HasEui : Eui → Type 0
HasEui eui = (length eui.0 ≡ 8) × AreOctets eui.0

-- a pair key of 16 octets
abbrev pub IsPair : Key → Type 0
IsPair psk = (length psk.0 ≡ 16) × AreOctets psk.0

-- An entry of the book whose record is read back.
pub record IsReadableEntry (e : BookEntry) : Type 0 where
  pub eui : HasEui e.eui
  pub psk : IsPair e.psk
  pub key0 : IsHeld e.issued0
  pub key1 : IsHeld e.issued1

-- What the book holds is what the records give.
pub record IsBookKept (b : book.Book) (records : Records) : Type 0 where
  pub table : slots.IsTable book.entries b
  pub each : All IsReadableEntry b
  pub stored : book.AgreesWith b records

-- the coordinator's book belongs to what its records give; a meter has none, and its pair key is octets
abbrev pub BookKept : Role → book.Book → Records → Type 0
BookKept Coordinator b records = IsBookKept b records
BookKept (Meter psk) b records = (b ≡ []) × AreOctets psk.0

-- the meter of a session has an EUI of 8 octets
abbrev pub IsNamed : CoordinatorSession → Type 0
IsNamed s = HasEui s.server.eui

-- What a node of this role holds is what the records give.
pub record IsKept (role : Role) (m : Memory) (records : Records) : Type 0 where
  pub station : IsStationKept m.station records
  pub book : BookKept role m.book records
  pub sessions : All IsNamed m.sessions
