-- What a node sends is in the ranges of what it spells.
use Rattle.std.specs.Prelude.{◌<◌, ◌≤◌, ◌^◌, All, length, IfSome}
use Rattle.plc_base.specs.Addresses.{IsAddress}
use Rattle.mac_frames.specs.Grammar.{IsTarget}
use Rattle.routing_set.specs.declared.entry.RoutingEntry.{RoutingEntry}
use Rattle.routing_set.specs.declared.entry.Route.{Route}
use Rattle.node_rules.specs.Ciphers.{network}
use Rattle.node_rules.specs.Memory.{StationMemory, Memory, Node, Body, Load, Datagram, Command}
use Rattle.node_rules.specs.Drafts.{Draft, UnsealedUnit}
use Rattle.line_laws.specs.Stores.{IsReadable}
use Rattle.line_rules.specs.Worlds.{World}
use Rattle.line_laws.specs.SealedUnits.{IsFit, IsRoute, GoesToOne, AreFlights}

-- a datagram that was taken, with a tag; a command, with its code in front
abbrev pub HasRoomInFrames : Load → Type 0
HasRoomInFrames (Datagram octets tag) = (0 < length octets) × (length octets ≤ 1280) × (tag < 2 ^ 16)
HasRoomInFrames (Command octets) = length octets ≤ 375

-- A body that waits for one node.
pub record IsBody (b : Body) : Type 0 where
  pub to : IsAddress b.to
  pub load : HasRoomInFrames b.load

-- the next hop of an entry is one node
abbrev pub HasHop : RoutingEntry → Type 0
HasHop e = IfSome e.route (λ (t : Route). IsAddress t.next)

-- What a node spells of is in its ranges.
pub record IsStationRanged (l : StationMemory) : Type 0 where
  pub ring : IfSome l.ring IsReadable
  pub tag : l.next_tag < 2 ^ 16
  pub hops : All HasHop l.routing.entries
  pub bodies : All IsBody l.waiting
  pub number : l.own_number.last ≤ 65535

-- A unit that can be sealed and sent.
pub record IsOut (o : UnsealedUnit) : Type 0 where
  pub to : IsTarget o.to
  pub unit : IsFit o.unit
  pub route : IsRoute o.unit
  pub one : GoesToOne o.to o.unit

-- What is being done is in its ranges.
pub record IsRanged (d : Draft StationMemory) : Type 0 where
  pub station : IsStationRanged d.memory
  pub units : All IsOut d.units

-- # All of it

-- a node that is not halted is in its ranges
abbrev pub NodeRanged : Node → Type 0
NodeRanged x = IfSome x.memory (λ (m : Memory). IsStationRanged m.station)

pub record WorldRanged (w : World) : Type 0 where
  pub nodes : All NodeRanged w.nodes
  pub flights : AreFlights network w.flights
