-- What the station answers, as a meter says it.
use Rattle.std.specs.Prelude.{ℕ, ⊤, IsSome, List, slice_get, Option, Some, None, Result, Ok, Err}
use Rattle.std.specs.Option.{option_map, option_map_or}
use Rattle.plc_base.specs.declared.key.RandomOctets.{RandomOctets}
use Rattle.eap_psk.specs.Keys.{PairKeys}
use Rattle.eap_psk.specs.Faults.{first_fault, third_fault}
use Rattle.eap_psk.specs.declared.peer.Peer.{Peer}
use Rattle.node_rules.specs.declared.refusal.RingRefusal.{RingRefusal}
use Rattle.node_rules.specs.declared.refusal.RingRefusal.TheVariants as ring
use Rattle.node_rules.specs.declared.heard.MeterHeard.{MeterHeard}
use Rattle.node_rules.specs.declared.heard.MeterHeard.TheVariants as heard
use Rattle.node_rules.specs.declared.refusal.Dropped.{Dropped}
use Rattle.node_rules.specs.declared.refusal.Dropped.TheVariants as drops
use Rattle.node_rules.specs.declared.refusal.SendRefusal.{SendRefusal}
use Rattle.node_rules.specs.declared.heard.Path.{Path}
use Rattle.node_rules.specs.declared.heard.Path.TheVariants.{Sealed, Up, Down}
use Rattle.node_rules.specs.declared.heard.Way.{Way}
use Rattle.node_rules.specs.declared.heard.Way.TheVariants.{Air, Near, Mesh}
use Rattle.node_rules.specs.MemoryDrafts.{packet_fault}
use Rattle.node_rules.specs.Memory.{StationMemory, MeterSession}
use Rattle.joining_base.specs.Reasons.{dropped_send}

-- a key that the station seals with
abbrev pub activated_as : Result (Unit {0}) RingRefusal → Result MeterHeard Dropped
activated_as (Ok u) = Ok heard.Activated
activated_as (Err ring.NotHeld) = Err drops.NotHeld
activated_as (Err ring.Halted) = Err drops.Store
activated_as (Err ring.NotJoined) = Err drops.Store
activated_as (Err ring.Store) = Err drops.Store

-- a station that left
abbrev pub left_as : Result (Unit {0}) RingRefusal → Result MeterHeard Dropped
left_as (Ok u) = Ok heard.Left
left_as (Err fault) = Err drops.Store

-- what a command lacks
abbrev pub room_as : Result (Unit {0}) SendRefusal → Result (Unit {0}) Dropped
room_as (Ok u) = Ok tt
room_as (Err reason) = Err (dropped_send reason)

-- # Packets

-- what is wrong with a first packet, for a meter that holds these random values
abbrev pub first_refusal : List RandomOctets → List ℕ → Option Dropped
first_refusal randoms packet =
    option_map_or (λ value. option_map packet_fault (first_fault packet)) (slice_get randoms 0) (Some drops.NoRandom)

-- the peer of a session, which awaits the third packet
abbrev pub peer_in : Option MeterSession → Option Peer
peer_in None = None
peer_in (Some s) = s.peer

-- what is wrong with a third packet, for this peer
abbrev pub third_refusal_of : PairKeys → Option Peer → List ℕ → Option Dropped
third_refusal_of keys None packet = Some drops.Form
third_refusal_of keys (Some peer) packet = option_map packet_fault (third_fault keys peer packet)

-- what is wrong with a third packet, in this session
abbrev pub third_refusal : PairKeys → Option MeterSession → List ℕ → Option Dropped
third_refusal keys None packet = Some drops.NoSession
third_refusal keys (Some s) packet = third_refusal_of keys s.peer packet

-- # What a frame that was accepted says of the meter

-- one that went up to its address came to a meter that is joined
abbrev pub CameUp : Path → StationMemory → Type 0
CameUp (Sealed from all key) l = ⊤
CameUp (Up from) l = IsSome l.ring
CameUp (Down from) l = ⊤

-- a joining message that came up to it, or over the mesh, came to a meter that is joined
abbrev pub CameBy : Way → StationMemory → Type 0
CameBy (Air from) l = IsSome l.ring
CameBy (Near agent) l = ⊤
CameBy (Mesh origin) l = IsSome l.ring
