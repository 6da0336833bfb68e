-- What nodes of further reach hold and send is in its ranges, unless an event is forged.
use Rattle.std.proofs.Common.{inl, inr, ◌≡◌, ℕ, suc, zero, ◌+◌, ◌-◌, ◌*◌, ◌≤◌, ◌<◌, ◌^◌, Bool, true, false, List, [], ◌∷◌, ◌++◌, length, Option}
use Rattle.std.proofs.Common.{Some, None, Result, Ok, Err, refl, sym, ap, ◌∙◌, subst, arith}
use Rattle.std.specs.Prelude.{if◌then◌else◌, ◌==◌, ◌%◌, nat_lt, All, IfSome, position, slice_get, slice_index, unwrap_or}
use Rattle.std.specs.List.{list_all}
use Rattle.std.specs.Option.{option_and_then, option_map, option_map_or}
use Rattle.std.proofs.lemmas.Bool.{and_parts, ltb-false, ltb-true, or_parts}
use Rattle.std.proofs.lemmas.List.{length-append}
use Rattle.std.proofs.lemmas.List.Elements.{All-append, All-cons, All-nil}
use Rattle.std.proofs.lemmas.Option.{same_Some}
use Rattle.byteorder.specs.Endian.{big_bytes}
use Rattle.plc_base.specs.Addresses.{is_address}
use Rattle.plc_base.specs.Fields.{AreOctets}
use Rattle.plc_base.specs.Grant.{Granted}
use Rattle.plc_base.specs.declared.key.Key.{Key}
use Rattle.plc_base.proofs.Faults.{then_none, when_none}
use Rattle.mac_frames.specs.Grammar.{IsTarget}
use Rattle.mesh_header.specs.declared.unit.Unit.TheVariants.{Local}
use Rattle.group_keys.specs.KeyRing as ring
use Rattle.loadng_messages.specs.declared.message.Message.{Message}
use Rattle.loadng_messages.specs.declared.message.Message.TheVariants.{Rreq, Rrep, Rerr}
use Rattle.routing_set.specs.declared.entry.RoutingEntry.{RoutingEntry}
use Rattle.routing_set.specs.RoutingSet as routing
use Rattle.broadcast_log.specs.declared.broadcast.Broadcast.{Broadcast}
use Rattle.broadcast_log.specs.Grammar.{spelling}
use Rattle.broadcast_log.proofs.Spellings.{broadcast_spelled}
use Rattle.neighbour_checks.specs.Acks.{ack_spelling}
use Rattle.pan_discovery.specs.declared.message.Discovery.{Discovery}
use Rattle.pan_discovery.specs.declared.message.Discovery.TheVariants as discoveries
use Rattle.pan_discovery.specs.History.{Scanned}
use Rattle.pan_discovery.specs.Messages.{IsDiscovery}
use Rattle.pan_discovery.specs.Reader.{discovery_in}
use Rattle.path_requests.specs.declared.message.PathMessage.{PathMessage}
use Rattle.path_requests.specs.declared.message.PathMessage.TheVariants.{Ask, Tell}
use Rattle.path_requests.specs.declared.step.PathStep.{PathStep}
use Rattle.path_requests.specs.declared.step.PathStep.TheVariants.{Forward, Answer, Done}
use Rattle.path_requests.specs.declared.step.PathRefusal.{PathRefusal}
use Rattle.path_requests.specs.declared.step.PathRefusal.TheVariants as refusals
use Rattle.path_requests.specs.Messages.{IsPath, path_spelling}
use Rattle.path_requests.specs.PathSteps.{ask_led, hop, taken, tell_led, tell_taken}
use Rattle.path_requests.specs.Walks.{ends_with, has, has_at, walk_octets}
use Rattle.path_requests.proofs.Readings.{paths_spelled}
use Rattle.node_rules.specs.Accepted.{Accepted}
use Rattle.node_rules.specs.declared.heard.Path.{Path}
use Rattle.node_rules.specs.declared.heard.Path.TheVariants as paths
use Rattle.node_rules.specs.declared.heard.Reply.{Reply}
use Rattle.node_rules.specs.declared.refusal.Dropped.TheVariants as drops
use Rattle.node_rules.specs.declared.refusal.FrameRefusal.{FrameRefusal}
use Rattle.node_rules.specs.declared.refusal.FrameRefusal.TheVariants as frames
use Rattle.node_rules.specs.declared.refusal.LocalRefusal.TheVariants as locals
use Rattle.node_rules.specs.Acceptance.{Accepting, accept, marking}
use Rattle.node_rules.specs.Ciphers.{network}
use Rattle.node_rules.specs.Coordinators as coordinator_rules
use Rattle.node_rules.specs.Drafts.{alone, choose as choose_plan, counters_left, empty_draft, goes, refused, sealed, sealing}
use Rattle.node_rules.specs.Frames.{arrived, to_all}
use Rattle.node_rules.specs.HearingRules.{hear}
use Rattle.node_rules.specs.Memory.{StationMemory, Memory, Node, Role, Coordinator, Meter, address_of, next_hop, station_route}
use Rattle.node_rules.specs.MemoryDrafts.{in_memory, with_station}
use Rattle.node_rules.specs.Meters as meters
use Rattle.node_rules.specs.Neighbours.{local_draft, local_ends}
use Rattle.node_rules.specs.NodeSteps.{NodeStep, acts, answering, of_station, stays}
use Rattle.node_rules.specs.Plans.{Plan, resting, within}
use Rattle.reach_rules.specs.declared.refusal.ChooseRefusal.{ChooseRefusal}
use Rattle.reach_rules.specs.declared.refusal.ChooseRefusal.TheVariants as choices
use Rattle.reach_rules.specs.declared.refusal.DiscoveryDropped.TheVariants as scan_drops
use Rattle.reach_rules.specs.Beacons.{ChosenAgent, beacons, choose_agent, choosing_ends, cost_to_coordinator, hear_discovery_in, is_foreign, joins_by}
use Rattle.reach_rules.specs.Beacons.{takes_beacon}
use Rattle.reach_rules.specs.Beacons.{takes_beacons, stays as stays_scan}
use Rattle.reach_rules.specs.Broadcasts.{datagram_fault, hop_less, own_broadcast}
use Rattle.reach_rules.specs.CheckedReplies.{acknowledges, message_of}
use Rattle.reach_rules.specs.PathRequests.{next_toward}
use Rattle.reach_rules.specs.ReachingNodes.{Beside}
use Rattle.reach_rules.specs.FurtherReceptions.{NeighbourCommand, command_of, command_on, command_with}
use Rattle.pan_discovery.specs.Agents.{kth_of}
use Rattle.mesh_header.specs.declared.unit.Unit.{Unit as MeshUnit}
use Rattle.mesh_header.specs.declared.unit.Unit.TheVariants as units
use Rattle.mesh_header.specs.Reader.{unit_in}
use Rattle.line_events.specs.declared.event.Answer.{Answer as Word}
use Rattle.line_events.specs.declared.event.Answer.TheVariants as answers
use Rattle.line_events.specs.declared.event.Event.{Event}
use Rattle.line_rules.specs.Answers.{Reception, coordinator_reception, meter_reception, only}
use Rattle.line_events.specs.Events.{IsEvent}
use Rattle.line_rules.specs.Forgery.{Comes, accepting}
use Rattle.line_rules.specs.Further.{beside_at, discovery_flight, due, due_of, is_reply_taken, line_step, of_memory, reaches, with_beside}
use Rattle.line_rules.specs.Logs.{LogsKept}
use Rattle.line_rules.specs.Steps.{Step, hearing_step, identity, note_by, running_world}
use Rattle.line_rules.specs.Worlds.{World, node_at}
use Rattle.line_laws.specs.FurtherLines.{LineStepsSpell, LinesSpellBeacons}
use Rattle.line_laws.specs.Later.{MayBeSealed}
use Rattle.line_laws.specs.SealedUnits.{IsFlight}
use Rattle.line_laws.specs.Lines.{NodeOk, WorldOk}
use Rattle.line_laws.specs.Ranges.{IsStationRanged, NodeRanged, WorldRanged}
use Rattle.line_laws.specs.Sizes.{IsMemorySized}
use Rattle.line_laws.specs.Stores.{HasShortRank, IsReadable}
use Rattle.line_laws.proofs.Answered.{acts_answered}
use Rattle.line_laws.proofs.CoordinatorCalls.{accept_failed, admitted_fits}
use Rattle.line_laws.proofs.FlightFolds.{came_octets}
use Rattle.line_laws.proofs.FurtherForms.{IsFurther, Goes, Rests, SendsOn, ask_is, broadcast_is, command_is}
use Rattle.line_laws.proofs.FurtherLogs.{commands_fit}
use Rattle.line_laws.proofs.FurtherLines.{all_target}
use Rattle.line_laws.proofs.FurtherOctets.{ack_octets, broadcast_octets, datagram_octets, path_octets, sent_short, walk_of}
use Rattle.line_laws.proofs.FurtherSeals.{IsOne, One, Silent, further_ranged}
use Rattle.line_laws.proofs.FurtherSteps.{hears_nothing}
use Rattle.line_laws.proofs.FurtherStepKinds.{After, Anew, Besides, Carries, Chooses, Flies, IsLineStep, Known, Moves, Opens, Speaks, Stays, Turns, Unbelieves}
use Rattle.line_laws.proofs.FurtherStepKinds.{Unsends, fits_at, line_step_is, spelled_by}
use Rattle.line_laws.proofs.LaterEnds.{may_be_sealed}
use Rattle.line_laws.proofs.LaterMoves.{is_flight}
use Rattle.node_rules.proofs.NetworkOpens.{network_opens_again}
use Rattle.line_laws.proofs.Nodes.{node_kept, ring_readable}
use Rattle.line_laws.proofs.OctetRuns.{WorldSpeaks}
use Rattle.line_laws.proofs.RangeArrives.{accepts_ranged}
use Rattle.line_laws.proofs.RangeFold.{hop_ranged}
use Rattle.line_laws.proofs.RangeFrames.{IsSent}
use Rattle.line_laws.proofs.RangeOrders.{join_ranged}
use Rattle.line_laws.proofs.RangePlans.{DidRanged, RangeOk, acts_ranged}
use Rattle.line_laws.proofs.RangeRuns.{event_ranged, short_at, after_ranged}
use Rattle.line_laws.proofs.StorableGrants.{network_ranges}
use Rattle.line_laws.proofs.StoreMarks.{Accepts, IsPlain, Marked, Plain, Turned, accept_is}
use Rattle.line_laws.proofs.Worlds.{at_place}

-- # The cost home

held_small : (t : routing.Routing) (dest : ℕ) → All HasShortRank t.entries → (routing.held t dest).cost < 2 ^ 16
unfolding routing.held routing.rank_of
held_small t dest all = by_place (routing.place_of t.entries dest)
  where
    by_entry : (place : ℕ) (o : Option RoutingEntry) → slice_get t.entries place ≡ o
        → (unwrap_or (option_map (λ (e : RoutingEntry). e.rank) o) (record { number = routing.floor_of t (routing.class_of dest); cost = 0 })).cost < 2 ^ 16
    by_entry place None e = omega arith
    by_entry place (Some x) e = (at_place HasShortRank t.entries place x e all).1

    by_place : (o : Option ℕ) → (unwrap_or (option_map (λ (e : RoutingEntry). e.rank) (option_and_then (slice_get t.entries) o))
        (record { number = routing.floor_of t (routing.class_of dest); cost = 0 })).cost < 2 ^ 16
    by_place None = omega arith
    by_place (Some place) = by_entry place (slice_get t.entries place) refl

home_small : (r : Role) (l : StationMemory) → All HasShortRank l.routing.entries → (cost : ℕ) → cost_to_coordinator r l ≡ Some cost → cost < 2 ^ 16
home_small Coordinator l all cost e = let same : 0 ≡ cost = same_Some _ _ e in omega arith
home_small (Meter psk) l all cost e = by_route (station_route l 0) e
  where
    by_route : (o : Option ℕ) → option_map (λ (r : ℕ × ℕ). r.1) (option_map (λ (hop : ℕ). (hop, (routing.held l.routing 0).cost)) o) ≡ Some cost → cost < 2 ^ 16
    by_route None is = absurd (cc (is))
    by_route (Some next) is = subst (λ k. k < 2 ^ 16) (same_Some _ _ is) (held_small l.routing 0 all)

own_low : (r : ring.Ring) (own : ℕ) → IfSome r IsReadable → option_map (λ (g : Granted). g.address) r ≡ Some own → own < 0xFFFE
own_low None own h e = absurd (cc (e))
own_low (Some g) own h e = subst (λ k. k < 0xFFFE) (same_Some _ _ e) h.address

-- the frame that is sent
abbrev SentIs : Option Discovery → Type 0
SentIs o = IfSome o IsDiscovery

sent_is : (r : Role) (l : StationMemory) (scan : Scanned) (o : Option Discovery) (link : ℕ) → IfSome l.ring IsReadable → All HasShortRank l.routing.entries
    → SentIs (hear_discovery_in r l scan o link).sent
sent_is r l scan None link reads all = tt
sent_is r l scan (Some (discoveries.Request seq)) link reads all = by_address (address_of l) refl
  where
    by_cost : (own : ℕ) → own < 0xFFFE → (c : Option ℕ) → cost_to_coordinator r l ≡ c → SentIs (beacons scan own c).sent
    by_cost own low None e = tt
    by_cost own low (Some cost) e = (omega arith, omega arith, low, home_small r l all cost e)

    by_address : (a : Option ℕ) → address_of l ≡ a
        → SentIs (option_map_or (λ own. beacons scan own (cost_to_coordinator r l)) a (stays_scan scan (Err scan_drops.NotForMe))).sent
    by_address None e = tt
    by_address (Some own) e = by_cost own (own_low l.ring own reads e) (cost_to_coordinator r l) refl
sent_is r l scan (Some (discoveries.Beacon seq pan from cost)) link reads all = by_tests (is_foreign l pan from) (takes_beacons l scan)
  where
    by_tests : (s t : Bool) → SentIs (if s then stays_scan scan (Err scan_drops.NotForMe) else (if t then takes_beacon scan from cost link else stays_scan scan
        (Err scan_drops.NotScanning))).sent
    by_tests true t = tt
    by_tests false true = tt
    by_tests false false = tt

-- what a line sends of discovery can be spelled
pub beacons_are_spelled : LinesSpellBeacons
beacons_are_spelled w ok number x m octets link frame there here e =
    let good = at_place NodeOk w.nodes number x there ok.nodes in
    subst SentIs e (sent_is x.role m.station (beside_at w number).scan (discovery_in octets) link (ring_readable x m good here)
    (node_kept x m good here).station.range.ranks)

pub line_steps_spell : LineStepsSpell
line_steps_spell ciphers fits w ok flown logs all event says = spelled_by ciphers fits w ok flown logs (beacons_are_spelled w ok) all event says

-- # Whom a message goes to

pub low_target : (a : ℕ) → a < 0xFFFE → IsTarget a
low_target a low = (omega arith, omega arith)

walk_low : (walk : List ℕ) (k : ℕ) → list_all is_address walk ≡ true → slice_index walk k < 0xFFFE
walk_low [] k all = omega arith
walk_low (a ∷ walk) zero all = ltb-true _ _ (and_parts (is_address a) _ all).0
walk_low (a ∷ walk) (suc k) all = walk_low walk k (and_parts (is_address a) _ all).1

-- what goes on, or back, goes to an address, where it came from one and its route leads to one
abbrev GoesLow : Result PathStep PathRefusal → Type 0
GoesLow (Ok (Forward to message)) = to < 0xFFFE
GoesLow (Ok (Answer to message)) = to < 0xFFFE
GoesLow (Ok (Done walk)) = Unit {0}
GoesLow (Err reason) = Unit {0}

low_if : (b : Bool) (p q : Result PathStep PathRefusal) → GoesLow p → GoesLow q → GoesLow (if b then p else q)
low_if true p q s t = s
low_if false p q s t = t

led_low : (own target : ℕ) (walk : List ℕ) (o : Option ℕ) → IfSome o (λ to. to < 0xFFFE) → GoesLow (ask_led own target walk o)
led_low own target walk None h = tt
led_low own target walk (Some to) h =
    low_if (has own walk) (Err refusals.Revisited) _ tt (low_if (target == own) (Ok (Answer to (Tell (walk ++ own ∷ [])))) _ h
    (low_if (length walk == 15) (Err refusals.PathLong) (Ok (Forward to (Ask target (walk ++ own ∷ [])))) tt h))

tell_low : (from : ℕ) (walk : List ℕ) → list_all is_address walk ≡ true → (o : Option ℕ) → GoesLow (tell_taken from walk o)
tell_low from walk all None = tt
tell_low from walk all (Some place) = low_if (has_at (place + 1) from walk) (Ok (tell_led walk place)) (Err refusals.BadUnit) (by_place (place == 0)) tt
  where
    by_place : (b : Bool) → GoesLow (Ok (if b then Done walk else Forward (slice_index walk (place - 1)) (Tell walk)))
    by_place true = tt
    by_place false = walk_low walk (place - 1) all

taken_low : (own from : ℕ) (next : Option ℕ) (message : PathMessage) → from < 0xFFFE → IfSome next (λ to. to < 0xFFFE) → IsPath message
    → GoesLow (taken own from next message)
taken_low own from next (Ask target walk) low far is = low_if (ends_with from walk) (ask_led own target walk (hop own from next target)) (Err refusals.BadUnit)
    (led_low own target walk (hop own from next target) (by_hop (target == own))) tt
  where
    by_hop : (b : Bool) → IfSome (if b then Some from else next) (λ to. to < 0xFFFE)
    by_hop true = low
    by_hop false = far
taken_low own from next (Tell walk) low far is = tell_low from walk (and_parts (list_all is_address walk) _ is.2).0 (position (λ a. a == own) walk)

sent_low : (own from : ℕ) (next : Option ℕ) (message : PathMessage) (to : ℕ) (more : PathMessage) → from < 0xFFFE → IfSome next (λ a. a < 0xFFFE)
    → IsPath message → SendsOn (taken own from next message) to more → to < 0xFFFE
sent_low own from next message to more low far is (inl e) = subst GoesLow e (taken_low own from next message low far is)
sent_low own from next message to more low far is (inr e) = subst GoesLow e (taken_low own from next message low far is)

-- the next hop of a station in range
pub route_low : (l : StationMemory) (dest hop : ℕ) → IsStationRanged l → station_route l dest ≡ Some hop → hop < 0xFFFE
route_low l dest hop h e = by_ring l.ring e
  where
    by_ring : (r : ring.Ring) → option_and_then (λ (g : Granted). next_hop l dest) r ≡ Some hop → hop < 0xFFFE
    by_ring None is = absurd (cc (is))
    by_ring (Some g) is = hop_ranged l dest hop h is

toward_low : (l : StationMemory) (message : PathMessage) → IsStationRanged l → IfSome (next_toward l message) (λ to. to < 0xFFFE)
toward_low l (Tell walk) h = tt
toward_low l (Ask target walk) h = by_route (station_route l target) refl
  where
    by_route : (o : Option ℕ) → station_route l target ≡ o → IfSome o (λ to. to < 0xFFFE)
    by_route None e = tt
    by_route (Some to) e = route_low l target to h e

-- # How long a command is

length-walk_octets : (walk : List ℕ) → length (walk_octets walk) ≡ 2 * length walk
length-walk_octets [] = refl
length-walk_octets (address ∷ walk) =
    let both = length-append (big_bytes 2 address) (walk_octets walk) in
    let rest = length-walk_octets walk in
    omega arith

path_long : (message : PathMessage) → length (walk_of message) ≤ 16 → length (path_spelling message) ≤ 379
path_long (Ask target walk) short =
    let two = length-append (big_bytes 2 target) (length walk ∷ walk_octets walk) in
    let rest = length-walk_octets walk in
    omega arith
path_long (Tell walk) short = let rest = length-walk_octets walk in omega arith

broadcast_long : (b : Broadcast) → length b.octets ≤ 360 → length (spelling b) ≤ 379
broadcast_long b short =
    let one = length-append (big_bytes 2 b.origin) (0x50 ∷ b.number % 256 ∷ (big_bytes 4 b.number ++ b.octets)) in
    let two = length-append (big_bytes 4 b.number) b.octets in
    omega arith

pub may_path : (message : PathMessage) → length (walk_of message) ≤ 16 → MayBeSealed (Local 5 (path_spelling message))
may_path message short = may_be_sealed 5 (path_spelling message) (omega arith) (omega arith) (path_long message short) (path_octets message short)

pub may_broadcast : (b : Broadcast) → b.hops < 256 → length b.octets ≤ 360 → AreOctets b.octets → MayBeSealed (Local 4 (spelling b))
may_broadcast b low short are = may_be_sealed 4 (spelling b) (omega arith) (omega arith) (broadcast_long b short) (broadcast_octets b low are)

may_ack : (number origin : ℕ) → MayBeSealed (Local 3 (ack_spelling number origin))
may_ack number origin = may_be_sealed 3 (ack_spelling number origin) (omega arith) (omega arith)
    (let l = length-append (big_bytes 2 number) (big_bytes 2 origin) in omega arith) (ack_octets number origin)

-- an acknowledgement to one node
pub ack_one : (m : Memory) (reply : Reply) → reply.to < 0xFFFE → IsFurther IsOne m (acknowledges in_memory reply.to reply.number reply.origin m)
unfolding sealed resting goes empty_draft
ack_one m reply low = by_left (nat_lt (counters_left m.station) 1) refl
  where
    by_left : (b : Bool) → nat_lt (counters_left m.station) 1 ≡ b
        → IsFurther IsOne m (within (λ l. with_station l m) (λ a. a) (if b then refused local_ends m.station local_ends.spent else sealing alone local_ends
        (local_draft m.station 3 (Some reply.to) (ack_spelling reply.number reply.origin)) (tt {0})))
    by_left true e = Rests (Err locals.CounterSpent) (Err locals.Store)
    by_left false e = Goes (Ok (tt {0})) (Err locals.Store) [] (record { to = reply.to; unit = Local 3 (ack_spelling reply.number reply.origin); note = 0 } ∷
        []) tt (One reply.to _ (low_target reply.to low) (may_ack reply.number reply.origin)) (omega arith) (ltb-false _ _ e)

-- # Who sent what came

-- the sender of a sealed frame that was accepted has an address
accepted_from : (octets : List ℕ) → AreOctets octets → (l : StationMemory) (p : Accepting) (got : Accepted) → Accepts l (arrived network octets) p
    → p.answer ≡ Ok got → (from : ℕ) (all : Bool) (key : Key) → got.path ≡ paths.Sealed from all key → from < 0xFFFE
unfolding resting marking
accepted_from octets are l p got (Turned reason) e from all key path = absurd (cc (e))
accepted_from octets are l p got (Plain x plain) e from all key path =
    let same : x ≡ got = cc (e) in
    absurd (subst IsPlain (ap (λ (y : Accepted). y.path) same ∙ path) plain.path)
accepted_from octets are l p got (Marked sender counter x a) e from all key path =
    let low = (admitted_fits network network_ranges octets are l sender counter x a).0 in
    let same : sender ≡ from = cc (e, path, a.got_is) in
    subst (λ k. k < 0xFFFE) same low

command_from : (p : Path) (unit : Option MeshUnit) (c : NeighbourCommand) → command_on p unit ≡ Some c
    → (all : Bool) × (key : Key) × (p ≡ paths.Sealed c.from all key)
command_from (paths.Up from) unit c e = absurd (cc (e))
command_from (paths.Down from) unit c e = absurd (cc (e))
command_from (paths.Sealed from all key) unit c e = by_unit unit e
  where
    by_code : (s t : Bool) (code : ℕ) (body : List ℕ)
        → (if s then None else (if t then None else Some (record { from = from; to_all = all; code = code; body = body }))) ≡ Some c
        → (b : Bool) × (k : Key) × (paths.Sealed from all key ≡ paths.Sealed c.from b k)
    by_code true t code body is = absurd (cc (is))
    by_code false true code body is = absurd (cc (is))
    by_code false false code body is = (all, key, ap (λ (d : NeighbourCommand). paths.Sealed d.from all key) (same_Some _ _ is))

    by_unit : (o : Option MeshUnit) → command_with from all o ≡ Some c → (b : Bool) × (k : Key) × (paths.Sealed from all key ≡ paths.Sealed c.from b k)
    by_unit None is = absurd (cc (is))
    by_unit (Some (units.Local code body)) is = by_code (code == 1) (code == 2) code body is
    by_unit (Some (units.Whole mesh octets)) is = absurd (cc (is))
    by_unit (Some (units.Part mesh piece)) is = absurd (cc (is))
    by_unit (Some (units.Carried mesh body)) is = absurd (cc (is))

reply_from : (p : Path) (message : Option Message) (answer : Word) (reply : Reply) → due p message answer ≡ Some reply
    → (key : Key) × (p ≡ paths.Sealed reply.to false key)
reply_from (paths.Up from) message answer reply e = absurd (cc (e))
reply_from (paths.Down from) message answer reply e = absurd (cc (e))
reply_from (paths.Sealed from true key) message answer reply e = absurd (cc (e))
reply_from (paths.Sealed from false key) message answer reply e = by_taken (is_reply_taken answer) message e
  where
    by_taken : (b : Bool) (o : Option Message) → (if b then due_of from o else None) ≡ Some reply
        → (k : Key) × (paths.Sealed from false key ≡ paths.Sealed reply.to false k)
    by_taken false o is = absurd (cc (is))
    by_taken true None is = absurd (cc (is))
    by_taken true (Some (Rreq number cost origin dest)) is = absurd (cc (is))
    by_taken true (Some (Rerr lost to)) is = absurd (cc (is))
    by_taken true (Some (Rrep number cost origin to)) is = (key, ap (λ (r : Reply). paths.Sealed r.to false key) (same_Some _ _ is))

-- # What a node is that heard a command: as it was

command_ranged : (y : Node) (got : Accepted) (cost note now : ℕ) (c : NeighbourCommand) → command_of got ≡ Some c → NodeRanged y
    → NodeRanged (hearing_step network y got cost note now).node
command_ranged y got cost note now c e h = by_role y.role
  where
    hears_as : Role → NodeStep Reception
    hears_as Coordinator = answering coordinator_reception
        (acts y (Err drops.Store) (λ m. coordinator_rules.hear_coordinator (record { eui = y.eui; ciphers = network }) m got cost note now))
    hears_as (Meter psk) = answering meter_reception (acts y (Err drops.Store) (λ m. meters.hear_meter (identity network y psk) m got cost note now))

    same_station : (m : Memory) (l : StationMemory) → l ≡ m.station → IsStationRanged m.station → IsStationRanged l
    same_station m l is k = subst IsStationRanged (sym is) k

    no_frames : (fs : List _) → fs ≡ [] → All IsSent fs
    no_frames fs is = subst (All IsSent) (sym is) (All-nil IsSent)

    by_role : (r : Role) → NodeRanged (hears_as r).node
    by_role Coordinator = (acts_ranged y (Err drops.Store) (λ m. coordinator_rules.hear_coordinator (record { eui = y.eui; ciphers = network }) m got cost note
        now) h (λ m here k.
        let n = hears_nothing m.station got cost note now c e in
        subst (λ o. RangeOk (coordinator_rules.heard_by (record { eui = y.eui; ciphers = network }) m now (hear m.station got cost note now) o)) (sym n.1)
        (record { station = same_station m _ n.2 k; frames = no_frames _ n.0 }))).station
    by_role (Meter psk) = (acts_ranged y (Err drops.Store) (λ m. meters.hear_meter (identity network y psk) m got cost note now) h (λ m here k.
        let n = hears_nothing m.station got cost note now c e in
        subst (λ o. RangeOk (meters.heard_by (identity network y psk) m now (hear m.station got cost note now) o)) (sym n.1)
        (record { station = same_station m _ n.2 k; frames = no_frames _ n.0 }))).station

-- # What nodes seal

-- a datagram without a fault is short
pub datagram_short : (b : Beside) (datagram : List ℕ) → datagram_fault b.log datagram ≡ None → length datagram ≤ 360
unfolding datagram_fault
datagram_short b datagram e = ltb-false _ _ (or_parts (length datagram == 0) _ (when_none _ _ (then_none _ _ e).0)).1

module _ (w : World) (ok : WorldOk w) (s : WorldSpeaks w) (r : WorldRanged w) (logs : LogsKept w) where
  station_at : (number : ℕ) (x : Node) (m : Memory) → node_at w number ≡ Some x → x.memory ≡ Some m → IsStationRanged m.station
  station_at number x m there here = subst (λ o. IfSome o (λ (n : Memory). IsStationRanged n.station)) here (at_place NodeRanged w.nodes number x there r.nodes)

  -- a node that accepted octets
  came_from : (event : Event) → IsEvent event → (number : ℕ) (x : Node) (octets : List ℕ) (got : Accepted) → node_at w number ≡ Some x
      → Comes w event number octets → (accepting network x octets).answer ≡ Ok got
      → (from : ℕ) (all : Bool) (key : Key) → got.path ≡ paths.Sealed from all key → from < 0xFFFE
  came_from event says number x octets got there comes is from all key path =
      let are : AreOctets octets = came_octets network network_ranges w ok s.flights event number octets says comes in
      let plan : Memory → Plan Memory (Result Accepted FrameRefusal) = λ m. of_station m (accept m.station x.eui (arrived network octets)) in
      let a = acts_answered x frames.Halted frames.Store plan (λ m. accept_failed network network_ranges octets are m.station _
      (accept_is m.station x.eui (arrived network octets))) got is in
      accepted_from octets are a.memory.station _ got (accept_is a.memory.station x.eui (arrived network octets)) a.is from all key path

  -- what it is after a command that it heard
  heard_station : (number : ℕ) (x : Node) (octets : List ℕ) (got : Accepted) (cost note : ℕ) (c : NeighbourCommand) (m : Memory) → node_at w number ≡ Some x
      → command_of got ≡ Some c
      → (hearing_step network (accepting network x octets).node got cost note w.clock).node.memory ≡ Some m → IsStationRanged m.station
  heard_station number x octets got cost note c m there e here =
      let left = accepts_ranged network network_opens_again w r.flights number x octets cost (at_place NodeRanged w.nodes number x there r.nodes) in
      subst (λ o. IfSome o (λ (n : Memory). IsStationRanged n.station)) here (command_ranged (accepting network x octets).node got cost note w.clock c e
      left.station)

  -- what nodes seal by further rules may be sealed, and goes to a target
  pub one_speaks : Speaks IsOne IsDiscovery network w
  one_speaks = record {
    broadcasts = λ number x m datagram are there here. broadcast_is IsOne (beside_at w number) datagram m (λ own e none.
        One to_all _ all_target (may_broadcast (own_broadcast own (beside_at w number).log datagram) (omega arith)
        (datagram_short (beside_at w number) datagram none) are.2));
    asks = λ number x m target there here. ask_is IsOne (beside_at w number) target m (λ own hop e route.
        One hop _ (low_target hop (route_low m.station target hop (station_at number x m there here) route)) (may_path (Ask target (own ∷ [])) (omega arith)));
    scans = omega arith;
    beacons = beacons_are_spelled w ok;
    commands = λ event number x octets got cost c m says comes there is e here.
        let are : AreOctets c.body = commands_fit network network_ranges w ok s.flights event says number x octets got c there comes is e in
        let way = command_from got.path (unit_in got.payload) c e in
        let low = came_from event says number x octets got there comes is c.from way.0 way.1 way.2 in
        let station = heard_station number x octets got cost (note_by w octets got.path) c m there e here in
        command_is IsOne Silent (beside_at w number) (fits_at network w logs number x octets got cost m there here) m c
        (λ own message to next a p o.
        let spells = paths_spelled message c.body are p in
        One to _ (low_target to (sent_low own c.from (next_toward m.station message) message to next low (toward_low m.station message station) spells.0 o))
        (may_path next (sent_short own c.from (next_toward m.station message) message to next spells.0 o)))
        (λ own d a p none.
        let spells = broadcast_spelled d c.body are p in
        let few = spells.0.hops.1 in
        One to_all _ all_target (may_broadcast (hop_less d) (omega arith) spells.0.fits (datagram_octets d (subst AreOctets spells.1 are))));
    acknowledges = λ event number x octets got cost reply m says comes there is owed here.
        let way = reply_from got.path (message_of got) _ reply owed in
        ack_one m reply (came_from event says number x octets got there comes is reply.to false way.0 way.1);
  }

-- # Moves and events

-- what holds of flights and nodes holds through moves
pub moved_ranged : (v u : World) → Moves IsOne IsDiscovery network v u → WorldRanged v → WorldRanged u
moved_ranged v u (Stays z) r = r
moved_ranged v u (Carries z number x A halted does there is) r =
    after_ranged v number (acts x halted does) r (acts_ranged x halted does (at_place NodeRanged v.nodes number x there r.nodes)
    (λ m here k. further_ranged m (does m) (is m here) k))
moved_ranged v u (Flies z number x frame there known) r =
    record {
      nodes = r.nodes;
      flights = All-append (IsFlight network) v.flights (discovery_flight number frame ∷ []) r.flights
          (All-cons (IsFlight network) (discovery_flight number frame) [] (is_flight number frame) (All-nil (IsFlight network)));
    }
moved_ranged v u (Besides z on bs) r = record { nodes = r.nodes; flights = r.flights }
moved_ranged v u (Turns z between y first rest) r = moved_ranged between u rest (moved_ranged v between first r)

-- a choice is a joining, or nothing
pub chosen_ranged : (m : Memory) (b : Beside) (own : meters.Identity) (k now : ℕ) → IsStationRanged m.station
    → ((agent : ℕ) → RangeOk (meters.join own m agent now)) → RangeOk (with_beside b (λ y. choose_agent own y k now) m)
unfolding choose_plan resting
chosen_ranged m b own k now h joins = by_joined (meters.is_joined m)
  where
    none_ranged : (reason : ChooseRefusal) → RangeOk (of_memory (refused {H = ChosenAgent} choosing_ends (record { memory = m; beside = b }) reason))
    none_ranged reason = record { station = h; frames = All-nil IsSent }

    by_agent : (o : Option (ℕ × ℕ)) → RangeOk (of_memory (joins_by own (record { memory = m; beside = b }) now o))
    by_agent None = none_ranged choices.NoBeacon
    by_agent (Some (address, total)) = let j = joins address in record { station = j.station; frames = j.frames }

    by_joined : (t : Bool) → RangeOk (of_memory (if t then refused choosing_ends (record { memory = m; beside = b }) choices.AlreadyJoined else joins_by own
        (record { memory = m; beside = b }) now (kth_of b.scan.agents k)))
    by_joined true = none_ranged choices.AlreadyJoined
    by_joined false = by_agent (kth_of b.scan.agents k)

module _ (w : World) (ok : WorldOk w) (s : WorldSpeaks w) (r : WorldRanged w) where
  ran_ranged : WorldRanged (running_world w)
  ran_ranged = record { nodes = r.nodes; flights = r.flights }

  -- what is taken keeps it, unless it is forged
  abbrev pub LineRangedIn : Step → Type 0
  LineRangedIn (Ok t) = t.1.happenings.forged ≡ false → WorldRanged t.0
  LineRangedIn (Err fault) = Unit {0}

  pub choice_ranged : (number k : ℕ) (x : Node) (psk : Key) → node_at w number ≡ Some x
      → DidRanged (reaches x (beside_at w number) (Err choices.Halted) (λ y. choose_agent (identity network x psk) y k w.clock))
  choice_ranged number k x psk there =
      acts_ranged x (Err choices.Halted) (with_beside (beside_at w number) (λ y. choose_agent (identity network x psk) y k w.clock))
      (at_place NodeRanged w.nodes number x there r.nodes)
      (λ m here h. chosen_ranged m (beside_at w number) (identity network x psk) k w.clock h
      (λ agent. join_ranged m h (subst (λ o. IfSome o IsMemorySized) here (at_place NodeOk w.nodes number x there ok.nodes).sized) network network_ranges x.eui
      psk (short_at w ok s r number x psk there m here) agent w.clock))

  pub line_ranged_is : (event : Event) (st : Step) → IsLineStep IsOne IsDiscovery network w event st → LineRangedIn st
  line_ranged_is event (Ok t) (Known e z is) = event_ranged w ok s r event (Ok t) is
  line_ranged_is event (Err fault) (Known e z is) = tt
  line_ranged_is event st (Opens begun) = λ honest. record { nodes = r.nodes; flights = r.flights }
  line_ranged_is event st (Anew e v t moves silent) = λ honest. moved_ranged (running_world w) v moves ran_ranged
  line_ranged_is event st (After e q v t is good runs moves same_words) =
      λ honest. moved_ranged q.0 v moves (event_ranged w ok s r event (Ok q) is (sym same_words.forged ∙ honest))
  line_ranged_is event st (Unsends e q v t is good runs moves same_words) = λ honest.
      let m = moved_ranged q.0 v moves (event_ranged w ok s r event (Ok q) is (sym same_words.forged ∙ honest)) in
      record { nodes = m.nodes; flights = r.flights }
  line_ranged_is event st (Unbelieves e number x octets got there says comes is) = λ honest.
      let left = accepts_ranged network network_opens_again w r.flights number x octets 0 (at_place NodeRanged w.nodes number x there r.nodes) in
      let t = after_ranged (running_world w) number (stays (accepting network x octets).node (only answers.Blacklisted)) ran_ranged
      (record { station = left.station; frames = All-nil IsSent }) in
      record { nodes = t.nodes; flights = t.flights }
  line_ranged_is event st (Chooses number k x psk ne there pair) = λ honest.
      let t = after_ranged (running_world w) number
      (reaches x (beside_at w number) (Err choices.Halted) (λ y. choose_agent (identity network x psk) y k w.clock))
      ran_ranged (choice_ranged number k x psk there) in
      record { nodes = t.nodes; flights = t.flights }

  pub line_ranged : LogsKept w → (event : Event) → IsEvent event → LineRangedIn (line_step network w event)
  line_ranged logs event says = line_ranged_is event (line_step network w event) (line_step_is IsOne IsDiscovery network network_ranges w ok s.flights logs
      (one_speaks w ok s r logs) event says)
