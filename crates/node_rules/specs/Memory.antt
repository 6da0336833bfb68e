-- What a node is and holds.
use Rattle.std.specs.Prelude.{ℕ, List, Option}
use Rattle.std.specs.Option.{option_map, option_and_then}
use Rattle.plc_base.specs.declared.address.Eui.{Eui}
use Rattle.plc_base.specs.declared.key.Key.{Key}
use Rattle.plc_base.specs.declared.key.RandomOctets.{RandomOctets}
use Rattle.plc_base.specs.declared.keeper.Cut.{Cut}
use Rattle.plc_base.specs.Keeper.{Records}
use Rattle.frame_counters.specs.SendCounter as counter
use Rattle.frame_counters.specs.PeerMarks as marks
use Rattle.group_keys.specs.KeyRing as ring
use Rattle.group_keys.specs.KeyBook as book
use Rattle.routing_set.specs.RoutingSet as routing
use Rattle.routing_set.specs.OwnNumber as own_number
use Rattle.fragment_buffers.specs.Reassembly as reassembly
pub use Rattle.fragment_buffers.specs.Loads.{Load, Datagram, Command, load_octets}
pub use Rattle.fragment_buffers.specs.WaitingBodies.{Body}
use Rattle.eap_psk.specs.declared.server.Server.{Server}
use Rattle.eap_psk.specs.declared.peer.Peer.{Peer}
use Rattle.node_rules.specs.declared.heard.Way.{Way}

-- # What a node on the line holds in memory

-- What a node holds on the line.
pub record StationMemory : Type 0 where
  -- the grant that it joined with, with its later changes
  pub ring : ring.Ring
  -- the counter of the next sealed frame
  pub counter : counter.Counting
  -- the mark of each sender
  pub marks : marks.Table
  -- kept ranks, floors and valid routes
  pub routing : routing.Routing
  -- the last own number, which route messages that it begins have
  pub own_number : own_number.Numbering
  -- the tag of the next datagram that is cut into pieces
  pub next_tag : ℕ
  -- the datagrams that are gathered from pieces, in order
  pub reassemblies : List reassembly.Reassembly
  -- the bodies that wait for a route, in the order of their arrival
  pub waiting : List Body

-- the address of a node is its ring's
abbrev pub address_of : StationMemory → Option ℕ
address_of l = option_map (λ g. g.address) l.ring

-- the next hop of the valid route to an address
unfoldable pub next_hop : StationMemory → ℕ → Option ℕ
next_hop l dest = routing.next_of l.routing dest

-- # Sessions of a joining

-- how a meter's session runs: by an agent over the air, or in commands over the mesh
pub data SessionWay : Type 0 where
  ByAgent : (agent : ℕ) → SessionWay
  ByCommand : SessionWay

-- A meter's end of a joining. With a peer it awaits the third message, and else the first.
pub record MeterSession : Type 0 where
  pub session_way : SessionWay
  pub peer : Option Peer
  pub since : ℕ

-- The coordinator's end of a joining with the server's meter, whose answers go this way.
pub record CoordinatorSession : Type 0 where
  pub server : Server
  pub way : Way
  pub since : ℕ

-- # A node

-- What a node that is not halted holds in memory. A meter has no session of the coordinator and no book, the coordinator no
-- session of a meter.
pub record Memory : Type 0 where
  pub station : StationMemory
  -- the random values that it was given, the oldest first
  pub randoms : List RandomOctets
  pub session : Option MeterSession
  pub sessions : List CoordinatorSession
  pub book : book.Book

-- what a node is made for: the coordinator, or a meter with its pair key
pub data Role : Type 0 where
  Coordinator : Role
  Meter : (psk : Key) → Role

-- the records that outlast a loss of power, and the loss of power that is still to come
pub record Stored : Type 0 where
  pub records : Records
  pub cut : Option Cut

-- A node. A halted one has no memory.
pub record Node : Type 0 where
  pub role : Role
  pub eui : Eui
  pub store : Stored
  pub memory : Option Memory

-- a halted node has no address and no route, like one without a ring
abbrev pub node_address : Node → Option ℕ
node_address x = option_and_then (λ m. address_of m.station) x.memory

-- the next hop to an address, which a node without a ring does not have
abbrev pub station_route : StationMemory → ℕ → Option ℕ
station_route l dest = option_and_then (λ _. next_hop l dest) l.ring

-- the same of a node, which has none while it is halted
abbrev pub node_route : Node → ℕ → Option ℕ
node_route x dest = option_and_then (λ m. station_route m.station dest) x.memory
