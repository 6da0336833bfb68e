-- Words of small scripts that are computed, with plain ciphers and not the network's.
use Rattle.std.specs.Prelude.{ℕ, ◌-◌, ◌==◌, Bool, false, List, [], ◌∷◌, ◌++◌, length, map, take, drop, Option, Some, None, Ok, Err, if◌then◌else◌}
use Rattle.std.specs.FinMap.{insert}
use Rattle.std.specs.Option.{option_map, option_map_or, option_and_then}
use Rattle.std.specs.Str.{bytes_eq}
use Rattle.byteorder.specs.Endian.{big_bytes}
use Rattle.plc_base.specs.declared.address.Eui.{Eui}
use Rattle.plc_base.specs.Faults.{◌then◌, ◌unless◌}
use Rattle.plc_base.specs.Fields.{octet, part, after}
use Rattle.plc_base.specs.declared.key.Key.{Key}
use Rattle.plc_base.specs.declared.key.RandomOctets.{RandomOctets}
use Rattle.plc_base.specs.Grant.{Granted}
use Rattle.plc_base.specs.Keeper.{Records, Write}
use Rattle.joining_messages.specs.Reader.{grant_in}
use Rattle.eap_psk.specs.Messages as packets
use Rattle.eap_psk.specs.Faults.{rand_s_of, is_second, is_third, is_fourth, is_granting}
use Rattle.eap_psk.specs.declared.fault.EapFault.{EapFault}
use Rattle.eap_psk.specs.declared.fault.EapFault.TheVariants.{Form, OtherSession, BadMac, BadChannel, NoSuccess}
use Rattle.eap_psk.specs.declared.server.Server.{Server}
use Rattle.eap_psk.specs.declared.peer.Peer.{Peer}
use Rattle.line_events.specs.declared.event.Answer.{Answer}
use Rattle.line_events.specs.declared.event.Event.{Event}
use Rattle.line_events.specs.declared.event.Event.TheVariants.{Coordinator, Meter, Depot}
use Rattle.routing_set.specs.declared.rank.Rank.{Rank}
use Rattle.routing_set.specs.RoutingSet as routing
use Rattle.mesh_header.specs.declared.unit.Unit.{Unit as MeshUnit}
use Rattle.mesh_header.specs.declared.unit.Unit.TheVariants.{Whole, Part, Carried, Local}
use Rattle.mesh_header.specs.Grammar.{spelling}
use Rattle.loadng_messages.specs.declared.message.Message.{Message}
use Rattle.loadng_messages.specs.Grammar as messages
use Rattle.node_rules.specs.Ciphers.{Ciphers}
use Rattle.node_rules.specs.Frames.{Sealed, spelled}
use Rattle.node_rules.specs.declared.heard.Path.TheVariants as paths
use Rattle.node_rules.specs.HearingRules.{hear}
use Rattle.node_rules.specs.Memory.{Node, Memory, node_route}
use Rattle.line_rules.specs.Worlds.{World, Flight, start, node_at, flight_at}
use Rattle.line_events.specs.declared.happenings.Handed.{Handed}
use Rattle.line_events.specs.declared.happenings.Admission.{Admission}
use Rattle.node_rules.specs.declared.shown.Shown.{Shown}
use Rattle.line_events.specs.declared.event.StepFault.{StepFault}
use Rattle.line_rules.specs.Further.{line_step}
use Rattle.line_rules.specs.Steps.{Step}
use Rattle.line_rules.specs.Runs.{Entry, run, one_of}

-- # Plain ciphers

-- the payload stays as it is, and four octets of the key stand after it as a tag, zeros where the key has fewer
abbrev pub plain_tag : Key → List ℕ
plain_tag key = take 4 (key.0 ++ 0 ∷ 0 ∷ 0 ∷ 0 ∷ [])

-- the octets before the tag, where the tag is that of the key
abbrev pub plainly_opened : Key → List ℕ → Option (List ℕ)
plainly_opened key body =
    if bytes_eq (drop (length body - 4) body) (plain_tag key) then Some (take (length body - 4) body) else None

-- a MAC is the pair key, with RAND_P in the third packet, and a channel is its nonce, the RAND_P as a tag and its text
abbrev pub plain_channel : ℕ → RandomOctets → List ℕ → List ℕ
plain_channel nonce rand_p text = big_bytes 4 nonce ++ (rand_p.0 ++ text)

-- the second packet, with the pair key as its MAC
abbrev pub plain_second : Key → ℕ → Peer → List ℕ
plain_second psk identifier peer =
    packets.head 2 identifier 62 1 peer.rand_s.0 ++ (peer.rand_p.0 ++ (psk.0 ++ peer.eui.0))

-- the third packet, with the pair key as its MAC
abbrev pub plain_third : Key → Server → RandomOctets → Granted → List ℕ
plain_third psk server rand_p granted =
    packets.third_head 2 server.rand_s.0 (length (packets.granting_text granted))
    ++ (psk.0 ++ plain_channel 0 rand_p (packets.granting_text granted))

-- the fourth packet
abbrev pub plain_fourth : Key → ℕ → Peer → List ℕ
plain_fourth psk identifier peer =
    packets.fourth_head identifier peer.rand_s.0 ++ plain_channel 1 peer.rand_p packets.success_text

-- the first fault of a second packet
abbrev pub plain_second_fault : Key → Server → List ℕ → Option EapFault
plain_second_fault psk server packet =
    Some Form unless is_second packet
    then Some OtherSession unless bytes_eq (rand_s_of packet) server.rand_s.0
    then Some OtherSession unless bytes_eq (part 54 8 packet) server.eui.0
    then Some BadMac unless bytes_eq (part 38 16 packet) psk.0

-- the first fault of a third packet
abbrev pub plain_third_fault : Key → Peer → List ℕ → Option EapFault
plain_third_fault psk peer packet =
    Some Form unless is_third packet
    then Some OtherSession unless bytes_eq (rand_s_of packet) peer.rand_s.0
    then Some BadMac unless bytes_eq (part 22 16 packet) psk.0
    then Some BadChannel unless bytes_eq (part 42 16 packet) peer.rand_p.0
    then Some NoSuccess unless is_granting (after 58 packet)

-- the first fault of a fourth packet
abbrev pub plain_fourth_fault : Key → Server → RandomOctets → List ℕ → Option EapFault
plain_fourth_fault psk server rand_p packet =
    Some Form unless is_fourth packet
    then Some OtherSession unless bytes_eq (rand_s_of packet) server.rand_s.0
    then Some BadChannel unless bytes_eq (part 26 16 packet) rand_p.0
    then Some NoSuccess unless octet 0 (after 42 packet) == 0x80

-- all of them together
abbrev pub plain : Ciphers
plain = record {
  seals = λ key head payload. payload ++ plain_tag key;
  opens = λ key head front body. plainly_opened key body;
  second = plain_second;
  third = plain_third;
  fourth = plain_fourth;
  second_fault = plain_second_fault;
  third_fault = plain_third_fault;
  fourth_fault = plain_fourth_fault;
  granted = λ psk peer packet. grant_in (after 60 packet);
}

-- # Words of a script

-- the EUI of a number
abbrev pub eui : ℕ → Eui
eui n = record { 0 = big_bytes 8 n }

-- the key of the group
abbrev pub group_key : Key
group_key = record { 0 = big_bytes 16 0x000102030405060708090a0b0c0d0e0f }

-- the key of a pair
abbrev pub pair_key : Key
pair_key = record { 0 = big_bytes 16 0x101112131415161718191a1b1c1d1e1f }

-- another key
abbrev pub second_key : Key
second_key = record { 0 = big_bytes 16 0x202122232425262728292a2b2c2d2e2f }

-- a random value for the coordinator, and one for a meter
abbrev pub rand_k : RandomOctets
rand_k = record { 0 = group_key.0 }

abbrev pub rand_r : RandomOctets
rand_r = record { 0 = big_bytes 16 0xf0f1f2f3f4f5f6f7f8f9fafbfcfdfeff }

-- one more for each
abbrev pub rand_p : RandomOctets
rand_p = record { 0 = pair_key.0 }

abbrev pub rand_q : RandomOctets
rand_q = record { 0 = second_key.0 }

-- the coordinator alone
abbrev pub alone : List Event
alone = Coordinator (eui 1) group_key ∷ []

-- the coordinator and one meter
abbrev pub one_meter : List Event
one_meter = Coordinator (eui 1) group_key ∷ Meter (eui 2) pair_key ∷ Depot 1 ∷ []

-- the coordinator and two meters, each joined in the workshop
abbrev pub two_meters : List Event
two_meters = Coordinator (eui 1) group_key ∷ Meter (eui 2) pair_key ∷ Meter (eui 3) pair_key ∷ Depot 1 ∷ Depot 2 ∷ []

-- the coordinator and three meters, each joined in the workshop
abbrev pub three_meters : List Event
three_meters =
    Coordinator (eui 1) group_key ∷ Meter (eui 2) pair_key ∷ Meter (eui 3) pair_key ∷ Meter (eui 4) pair_key
    ∷ Depot 1 ∷ Depot 2 ∷ Depot 3 ∷ []

-- the coordinator and four meters, each joined in the workshop
abbrev pub four_meters : List Event
four_meters =
    Coordinator (eui 1) group_key ∷ Meter (eui 2) pair_key ∷ Meter (eui 3) pair_key ∷ Meter (eui 4) pair_key
    ∷ Meter (eui 5) pair_key
    ∷ Depot 1 ∷ Depot 2 ∷ Depot 3 ∷ Depot 4 ∷ []

-- # Frames

-- the octets of a sealed frame under a key and its index, which it names
abbrev pub sealed_under : Key → ℕ → (to from counter : ℕ) → MeshUnit → List ℕ
sealed_under key index to from counter unit =
    (spelled plain (Sealed
    (record { to = to; from = from; counter = counter; index = index; key = key; unit = unit; note = 0 }))).octets

-- the same under the key of the group
abbrev pub sealed : (to from counter : ℕ) → MeshUnit → List ℕ
sealed to from counter unit = sealed_under group_key 0 to from counter unit

-- the address that all nodes hear
abbrev pub everyone : ℕ
everyone = 0xFFFF

-- a route message as a unit
abbrev pub routing_unit : Message → MeshUnit
routing_unit message = Local 1 (messages.spelling message)

-- a datagram over the mesh
abbrev pub whole : (hops origin to : ℕ) → List ℕ → MeshUnit
whole hops origin to octets = Whole (record { hops = hops; origin = origin; to = to }) octets

-- a piece of a datagram over the mesh, with 14 hops left
abbrev pub part_of : (origin to size tag offset : ℕ) → List ℕ → MeshUnit
part_of origin to size tag offset octets =
    Part (record { hops = 14; origin = origin; to = to })
    (record { size = size; tag = tag; offset = offset; octets = octets })

-- a joining command over the mesh, with 14 hops left
abbrev pub command : (origin to : ℕ) → List ℕ → MeshUnit
command origin to body = Carried (record { hops = 14; origin = origin; to = to }) body

-- the octets of a joining message about the meter of an EUI
abbrev pub joining_octets : ℕ → ℕ → List ℕ → List ℕ
joining_octets code n rest = code ∷ big_bytes 8 n ++ rest

-- the octets of a plain frame up to an address from the node of an EUI of one octet, and down to such a node from an address
abbrev pub up_frame : ℕ → ℕ → List ℕ → List ℕ
up_frame to from payload = big_bytes 5 0x61d8001d78 ++ (to ∷ 0x00 ∷ from ∷ big_bytes 7 0 ++ payload)

abbrev pub down_frame : ℕ → ℕ → List ℕ → List ℕ
down_frame to from payload = big_bytes 5 0x619c001d78 ++ (to ∷ big_bytes 7 0 ++ (from ∷ 0x00 ∷ payload))

-- their payload with a joining message
abbrev pub said_of : ℕ → ℕ → List ℕ → List ℕ
said_of code n rest = 0x40 ∷ 0x02 ∷ joining_octets code n rest

-- # What a run is seen as

-- the world after a run
abbrev pub world_behind : World → List Entry → World
world_behind w [] = w
world_behind w (x ∷ rest) = world_behind x.after rest

-- the answers after this many events
abbrev pub answers_after : ℕ → List Event → List Answer
answers_after count events = map (λ (x : Entry). x.trace.happenings.answer) (drop count (run plain start events))

-- the answers to events after a script
abbrev pub answers_to : List Event → List Event → List Answer
answers_to before events =
    map (λ (x : Entry). x.trace.happenings.answer) (run plain (world_behind start (run plain start before)) events)

-- the last entry's datagram that was handed up
abbrev pub handed_at_last : List Entry → Option Handed
handed_at_last [] = None
handed_at_last (x ∷ []) = x.trace.happenings.up
handed_at_last (x ∷ (y ∷ rest)) = handed_at_last (y ∷ rest)

-- what the last entry shows
abbrev pub shown_at_last : List Entry → Option Shown
shown_at_last [] = None
shown_at_last (x ∷ []) = x.trace.happenings.shown
shown_at_last (x ∷ (y ∷ rest)) = shown_at_last (y ∷ rest)

-- the meters that took their grant, those whose joining is done, and the addresses that were given out, in order
abbrev pub takers : List Entry → List ℕ
takers [] = []
takers (x ∷ rest) = one_of x.trace.happenings.took ++ takers rest

-- the meters whose joining is done, in order
abbrev pub doers : List Entry → List ℕ
doers [] = []
doers (x ∷ rest) = one_of x.trace.happenings.done ++ doers rest

-- the addresses that were given out, in order
abbrev pub admissions : List Entry → List Admission
admissions [] = []
admissions (x ∷ rest) = one_of x.trace.happenings.grant ++ admissions rest

-- whether the last entry is a forged event
abbrev pub forged_at_last : List Entry → Bool
forged_at_last [] = false
forged_at_last (x ∷ []) = x.trace.happenings.forged
forged_at_last (x ∷ (y ∷ rest)) = forged_at_last (y ∷ rest)

-- what the last line of a report counts
pub record Counted : Type 0 where
  pub events : ℕ
  pub flights : ℕ
  pub sends : ℕ
  pub ups : ℕ
  pub forged : ℕ

-- what a world has counted
abbrev pub counted : World → Counted
counted w = record { events = w.events; flights = length w.flights; sends = w.sends; ups = w.ups; forged = w.forged }

-- what the world after a script has counted
abbrev pub counts_of : List Event → Counted
counts_of events = counted (world_behind start (run plain start events))

-- why an event is not taken after others
abbrev pub fault_by : Step → Option StepFault
fault_by (Ok r) = None
fault_by (Err fault) = Some fault

-- why an event is not taken after a script
abbrev pub fault_after : List Event → Event → Option StepFault
fault_after events event = fault_by (line_step plain (world_behind start (run plain start events)) event)

-- # What is left after a script

-- the world after it
abbrev pub world_of : List Event → World
world_of events = world_behind start (run plain start events)

-- the octets of the flight of a number
abbrev pub octets_of : List Event → ℕ → Option (List ℕ)
octets_of events number = option_map (λ (f : Flight). f.octets) (flight_at (world_of events) number)

-- the next hop of a node toward an address
abbrev pub route_at : List Event → (node dest : ℕ) → Option ℕ
route_at events node dest = option_and_then (λ x. node_route x dest) (node_at (world_of events) node)

-- what a node that is not halted holds
abbrev pub memory_at : List Event → ℕ → Option Memory
memory_at events node = option_and_then (λ (x : Node). x.memory) (node_at (world_of events) node)

-- the rank that a node keeps of an address
abbrev pub rank_at : List Event → (node dest : ℕ) → Option Rank
rank_at events node dest = option_and_then (λ m. routing.rank_of m.station.routing dest) (memory_at events node)

-- the records that a node has stored
abbrev pub records_at : List Event → ℕ → Option Records
records_at events node = option_map (λ (x : Node). x.store.records) (node_at (world_of events) node)

-- the records with these writes more, in order
abbrev pub with_writes : List Write → Option Records → Option Records
with_writes [] records = records
with_writes (w ∷ rest) records = with_writes rest (option_map (λ r. insert r w.slot w.octets) records)

-- the writes of the step in which a node hears a unit of a neighbour, over a link of cost 1, in order
abbrev pub hearing_writes : List Event → (node from : ℕ) → MeshUnit → List Write
hearing_writes events node from unit =
    let w = world_of events in
    option_map_or (λ m. (hear m.station
    (record {
      path = paths.Sealed from false group_key;
      payload = spelling unit;
    }) 1 0 w.clock).puts) (memory_at events node) []
