-- What further rules send is octets, so what flies on a line stays octets.
use Rattle.std.proofs.Common.{inl, inr, ◌≡◌, ℕ, ◌+◌, ◌≤◌, ◌<◌, Bool, true, false, List, [], ◌∷◌, ◌++◌, length, Option, Some, None, Result, Ok}
use Rattle.std.proofs.Common.{Err, refl, subst, arith}
use Rattle.std.specs.Prelude.{if◌then◌else◌, ◌==◌, ◌%◌, nat_lt, All, IfSome, position}
use Rattle.std.proofs.lemmas.List.{length-append}
use Rattle.std.proofs.lemmas.List.Elements.{All-append, All-cons, All-nil, All-weaker}
use Rattle.byteorder.specs.Endian.{big_bytes}
use Rattle.plc_base.specs.Fields.{AreOctets}
use Rattle.plc_base.proofs.OctetLists.{front, both, big_octets}
use Rattle.mesh_header.specs.declared.unit.Unit.TheVariants.{Local}
use Rattle.mesh_header.specs.Grammar.{spelling as unit_spelling}
use Rattle.mesh_header.proofs.UnitOctets.{spelling_octets}
use Rattle.broadcast_log.specs.declared.broadcast.Broadcast.{Broadcast}
use Rattle.broadcast_log.specs.Grammar.{spelling}
use Rattle.neighbour_checks.specs.Acks.{ack_spelling}
use Rattle.path_requests.specs.declared.message.PathMessage.{PathMessage}
use Rattle.path_requests.specs.declared.message.PathMessage.TheVariants.{Ask, Tell}
use Rattle.path_requests.specs.declared.step.PathStep.{PathStep}
use Rattle.path_requests.specs.declared.step.PathStep.TheVariants.{Forward, Answer, Done}
use Rattle.path_requests.specs.declared.step.PathRefusal.{PathRefusal}
use Rattle.path_requests.specs.declared.step.PathRefusal.TheVariants as refusals
use Rattle.path_requests.specs.Messages.{IsPath, path_spelling}
use Rattle.path_requests.specs.PathSteps.{ask_led, hop, taken, tell_led, tell_taken}
use Rattle.path_requests.specs.Walks.{ends_with, has, has_at, walk_octets}
use Rattle.line_laws.proofs.FurtherForms.{SendsOn}
use Rattle.std.specs.Option.{option_map_or}
use Rattle.std.proofs.lemmas.Bool.{ltb-false}
use Rattle.std.proofs.lemmas.List.Elements.{All-head, All-tail}
use Rattle.byteorder.specs.Endian.{little_bytes}
use Rattle.plc_base.proofs.OctetLists.{little_octets}
use Rattle.plc_base.specs.declared.key.Key.{Key}
use Rattle.plc_base.specs.declared.address.TheConstants.{PAN}
use Rattle.pan_discovery.specs.declared.message.Discovery.{Discovery}
use Rattle.pan_discovery.specs.declared.message.Discovery.TheVariants as requests
use Rattle.pan_discovery.specs.History.{Scanned}
use Rattle.pan_discovery.specs.Messages.{discovery_spelling, role}
use Rattle.pan_discovery.specs.Reader.{discovery_in}
use Rattle.pan_discovery.specs.Agents.{kth_of}
use Rattle.path_requests.proofs.Readings.{paths_spelled}
use Rattle.broadcast_log.proofs.Spellings.{broadcast_spelled}
use Rattle.node_rules.specs.declared.heard.Reply.{Reply}
use Rattle.node_rules.specs.declared.refusal.FrameRefusal.TheVariants as frames
use Rattle.node_rules.specs.declared.refusal.LocalRefusal.TheVariants as locals
use Rattle.node_rules.specs.Acceptance.{accept}
use Rattle.node_rules.specs.Ciphers.{network}
use Rattle.node_rules.specs.Drafts.{UnsealedUnit, alone, choose as choose_plan, counters_left, empty_draft, goes, refused, sealed, sealing}
use Rattle.node_rules.specs.Frames.{arrived, to_all}
use Rattle.node_rules.specs.Memory.{StationMemory, Memory, Node, Role, address_of}
use Rattle.node_rules.specs.MemoryDrafts.{in_memory, with_station}
use Rattle.node_rules.specs.Meters as meters
use Rattle.node_rules.specs.Neighbours.{local_draft, local_ends}
use Rattle.node_rules.specs.NodeSteps.{acts, of_station, stays}
use Rattle.node_rules.specs.Plans.{Plan, resting, within}
use Rattle.reach_rules.specs.declared.refusal.ChooseRefusal.{ChooseRefusal}
use Rattle.reach_rules.specs.declared.refusal.ChooseRefusal.TheVariants as choices
use Rattle.reach_rules.specs.declared.refusal.DiscoveryDropped.TheVariants as scan_drops
use Rattle.reach_rules.specs.Beacons.{ChosenAgent, beacons, choose_agent, choosing_ends, cost_to_coordinator, hear_discovery_in, is_foreign, joins_by}
use Rattle.reach_rules.specs.Beacons.{takes_beacon}
use Rattle.reach_rules.specs.Beacons.{takes_beacons, stays as stays_scan}
use Rattle.reach_rules.specs.Broadcasts.{hop_less, own_broadcast}
use Rattle.reach_rules.specs.CheckedReplies.{acknowledges}
use Rattle.reach_rules.specs.PathRequests.{next_toward}
use Rattle.reach_rules.specs.ReachingNodes.{Beside}
use Rattle.line_events.specs.declared.event.Answer.TheVariants as answers
use Rattle.line_events.specs.declared.event.Event.{Event}
use Rattle.line_rules.specs.Answers.{only}
use Rattle.line_events.specs.Events.{AreEvents, IsEvent}
use Rattle.line_rules.specs.Forgery.{accepting}
use Rattle.line_rules.specs.Further.{beside_at, discovery_flight, line_step, of_memory, reaches, with_beside}
use Rattle.line_rules.specs.Logs.{LogsKept}
use Rattle.line_rules.specs.Runs.{Entry, IsRun, events_of}
use Rattle.line_rules.specs.Steps.{Step, identity, psk_of, running_world}
use Rattle.line_rules.specs.Worlds.{World, node_at, start}
use Rattle.line_laws.specs.FurtherLines.{EveryRunHolds, HoldsAfter, LogsHold, StepHolds}
use Rattle.line_laws.specs.Laws.{EveryFlightIsOctets}
use Rattle.line_laws.specs.Lines.{FlightFits, NodeFits, NodeOk, WorldOk}
use Rattle.line_laws.specs.Stores.{IsReadable}
use Rattle.line_laws.proofs.FurtherForms.{IsFurther, Goes, Rests, ask_is, broadcast_is, command_is}
use Rattle.line_laws.proofs.FurtherLogs.{commands_fit, line_logs_hold}
use Rattle.line_laws.proofs.FurtherSteps.{line_steps_hold}
use Rattle.line_laws.proofs.FurtherStepKinds.{After, Anew, Besides, Carries, Chooses, Flies, IsLineStep, Known, Moves, Opens, Speaks, Stays, Turns, Unbelieves}
use Rattle.line_laws.proofs.FurtherStepKinds.{Unsends, fits_at, line_step_is, moved_ok}
use Rattle.line_laws.proofs.MeterOctets.{joins_speaks}
use Rattle.line_laws.proofs.Nodes.{ring_readable}
use Rattle.line_laws.proofs.OctetCalls.{NodeSpeaks, accept_speaks, acts_speaks}
use Rattle.line_laws.proofs.OctetDrafts.{MemorySpeaks, OutSpeaks, PlanSpeaks, SentOctets, sealed_speak}
use Rattle.line_laws.proofs.OctetRuns.{SpeaksIn, WorldSpeaks, event_speaks, pair_of, start_speaks, after_speaks}
use Rattle.line_laws.proofs.StorableGrants.{network_ranges}
use Rattle.line_laws.proofs.EveryRun.{start_ok}
use Rattle.line_laws.proofs.StepsOk.{ran_ok as steps_ran_ok}
use Rattle.line_laws.proofs.Worlds.{at_place}

-- # Bodies

pub ack_octets : (number origin : ℕ) → AreOctets (ack_spelling number origin)
ack_octets number origin = front 1 (big_bytes 2 number ++ big_bytes 2 origin) (omega arith)
    (both (big_bytes 2 number) (big_bytes 2 origin) (big_octets 2 number) (big_octets 2 origin))

walks_octets : (walk : List ℕ) → AreOctets (walk_octets walk)
walks_octets [] = All-nil (λ n. n < 256)
walks_octets (address ∷ walk) = both (big_bytes 2 address) (walk_octets walk) (big_octets 2 address) (walks_octets walk)

abbrev pub walk_of : PathMessage → List ℕ
walk_of (Ask target walk) = walk
walk_of (Tell walk) = walk

pub path_octets : (message : PathMessage) → length (walk_of message) ≤ 16 → AreOctets (path_spelling message)
path_octets (Ask target walk) short = front 1 (big_bytes 2 target ++ (length walk ∷ walk_octets walk)) (omega arith)
    (both (big_bytes 2 target) (length walk ∷ walk_octets walk) (big_octets 2 target)
    (front (length walk) (walk_octets walk) (omega arith) (walks_octets walk)))
path_octets (Tell walk) short =
    front 2 (length walk ∷ walk_octets walk) (omega arith) (front (length walk) (walk_octets walk) (omega arith) (walks_octets walk))

-- what goes on, or back, is short where what came is
abbrev IsShort : Result PathStep PathRefusal → Type 0
IsShort (Ok (Forward to message)) = length (walk_of message) ≤ 16
IsShort (Ok (Answer to message)) = length (walk_of message) ≤ 16
IsShort (Ok (Done walk)) = Unit {0}
IsShort (Err reason) = Unit {0}

short_if : (b : Bool) (p q : Result PathStep PathRefusal) → IsShort p → IsShort q → IsShort (if b then p else q)
short_if true p q s t = s
short_if false p q s t = t

led_short : (own target : ℕ) (walk : List ℕ) → length walk ≤ 15 → (o : Option ℕ) → IsShort (ask_led own target walk o)
led_short own target walk few None = tt
led_short own target walk few (Some to) =
    let longer = length-append walk (own ∷ []) in
    short_if (has own walk) (Err refusals.Revisited) _ tt (short_if (target == own) (Ok (Answer to (Tell (walk ++ own ∷ [])))) _ (omega arith)
    (short_if (length walk == 15) (Err refusals.PathLong) (Ok (Forward to (Ask target (walk ++ own ∷ [])))) tt (omega arith)))

tell_short : (from : ℕ) (walk : List ℕ) → length walk ≤ 16 → (o : Option ℕ) → IsShort (tell_taken from walk o)
tell_short from walk few None = tt
tell_short from walk few (Some place) = short_if (has_at (place + 1) from walk) (Ok (tell_led walk place)) (Err refusals.BadUnit) (by_place (place == 0) _) tt
  where
    by_place : (b : Bool) (to : ℕ) → IsShort (Ok (if b then Done walk else Forward to (Tell walk)))
    by_place true to = tt
    by_place false to = few

taken_short : (own from : ℕ) (next : Option ℕ) (message : PathMessage) → IsPath message → IsShort (taken own from next message)
taken_short own from next (Ask target walk) is = short_if (ends_with from walk) (ask_led own target walk (hop own from next target)) (Err refusals.BadUnit)
    (led_short own target walk is.2 (hop own from next target)) tt
taken_short own from next (Tell walk) is = tell_short from walk is.1 (position (λ a. a == own) walk)

pub sent_short : (own from : ℕ) (next : Option ℕ) (message : PathMessage) (to : ℕ) (more : PathMessage) → IsPath message
    → SendsOn (taken own from next message) to more → length (walk_of more) ≤ 16
sent_short own from next message to more is (inl e) = subst IsShort e (taken_short own from next message is)
sent_short own from next message to more is (inr e) = subst IsShort e (taken_short own from next message is)

pub broadcast_octets : (b : Broadcast) → b.hops < 256 → AreOctets b.octets → AreOctets (spelling b)
broadcast_octets b low are =
    front b.hops (big_bytes 2 b.origin ++ (0x50 ∷ b.number % 256 ∷ (big_bytes 4 b.number ++ b.octets))) low
    (both (big_bytes 2 b.origin) (0x50 ∷ b.number % 256 ∷ (big_bytes 4 b.number ++ b.octets)) (big_octets 2 b.origin)
    (front 0x50 (b.number % 256 ∷ (big_bytes 4 b.number ++ b.octets)) (omega arith)
    (front (b.number % 256) (big_bytes 4 b.number ++ b.octets) (omega arith) (both (big_bytes 4 b.number) b.octets (big_octets 4 b.number) are))))

-- what a broadcast has is octets, where its spelling is
pub datagram_octets : (b : Broadcast) → AreOctets (spelling b) → AreOctets b.octets
datagram_octets b are =
    let behind = after_both (big_bytes 2 b.origin) (0x50 ∷ b.number % 256 ∷ (big_bytes 4 b.number ++ b.octets))
    (All-tail (λ n. n < 256) b.hops (big_bytes 2 b.origin ++ (0x50 ∷ b.number % 256 ∷ (big_bytes 4 b.number ++ b.octets))) are) in
    after_both (big_bytes 4 b.number) b.octets (All-tail (λ n. n < 256) (b.number % 256) (big_bytes 4 b.number ++ b.octets)
    (All-tail (λ n. n < 256) 0x50 (b.number % 256 ∷ (big_bytes 4 b.number ++ b.octets)) behind))
  where
    after_both : (xs ys : List ℕ) → AreOctets (xs ++ ys) → AreOctets ys
    after_both [] ys h = h
    after_both (x ∷ xs) ys h = after_both xs ys (All-tail (λ n. n < 256) x (xs ++ ys) h)

pub unit_octets : (code : ℕ) (body : List ℕ) → code < 256 → AreOctets body → AreOctets (unit_spelling (Local code body))
unit_octets code body low are = spelling_octets (Local code body) (low, are)

-- # Plans and worlds

abbrev pub Octets : List UnsealedUnit → Type 0
Octets us = All OutSpeaks us

abbrev pub Spelled : Discovery → Type 0
Spelled frame = AreOctets (discovery_spelling frame)

one_octets : (to code : ℕ) (body : List ℕ) → code < 256 → AreOctets body → Octets (record { to = to; unit = Local code body; note = 0 } ∷ [])
one_octets to code body low are = All-cons OutSpeaks _ [] (unit_octets code body low are) (All-nil OutSpeaks)

plan_speaks : {A : Type 0} (m : Memory) (p : Plan Memory A) → IsFurther Octets m p → MemorySpeaks m → IfSome m.station.ring IsReadable → PlanSpeaks p
unfolding resting
plan_speaks m p (Rests answer failed) h reads = record { memory = h; frames = All-nil SentOctets }
plan_speaks m p (Goes answer failed ps us logs says few left) h reads = record {
  memory = record { waiting = h.waiting; randoms = h.randoms; session = h.session; sessions = h.sessions };
  frames = sealed_speak m.station.ring m.station.counter.next us reads says;
}

moved_speaks : (v u : World) → Moves Octets Spelled network v u → WorldOk v → v.running ≡ true → WorldSpeaks v → WorldSpeaks u
moved_speaks v u (Stays z) ok runs s = s
moved_speaks v u (Carries z number x A halted does there is) ok runs s =
    after_speaks v number (acts x halted does) s (acts_speaks x halted does (at_place NodeSpeaks v.nodes number x there s.nodes)
    (λ m here h. plan_speaks m (does m) (is m here) h (ring_readable x m (at_place NodeOk v.nodes number x there ok.nodes) here)))
moved_speaks v u (Flies z number x frame there known) ok runs s = record {
  nodes = s.nodes;
  flights = All-append FlightFits v.flights (discovery_flight number frame ∷ []) s.flights
      (All-cons FlightFits (discovery_flight number frame) [] known (All-nil FlightFits));
}
moved_speaks v u (Besides z on bs) ok runs s = record { nodes = s.nodes; flights = s.flights }
moved_speaks v u (Turns z between y first rest) ok runs s =
    let m = moved_ok Octets Spelled network network_ranges v between first ok runs in
    moved_speaks between u rest m.0 m.1 (moved_speaks v between first ok runs s)

chosen_speaks : (m : Memory) (b : Beside) (own : meters.Identity) (k now : ℕ) → MemorySpeaks m → ((agent : ℕ) → PlanSpeaks (meters.join own m agent now))
    → PlanSpeaks (with_beside b (λ y. choose_agent own y k now) m)
unfolding choose_plan resting
chosen_speaks m b own k now h joins = by_joined (meters.is_joined m)
  where
    none_speaks : (reason : ChooseRefusal) → PlanSpeaks (of_memory (refused {H = ChosenAgent} choosing_ends (record { memory = m; beside = b }) reason))
    none_speaks reason = record { memory = h; frames = All-nil SentOctets }

    by_agent : (o : Option (ℕ × ℕ)) → PlanSpeaks (of_memory (joins_by own (record { memory = m; beside = b }) now o))
    by_agent None = none_speaks choices.NoBeacon
    by_agent (Some (address, total)) = let j = joins address in record { memory = j.memory; frames = j.frames }

    by_joined : (t : Bool) → PlanSpeaks (of_memory (if t then refused choosing_ends (record { memory = m; beside = b }) choices.AlreadyJoined
        else joins_by own (record { memory = m; beside = b }) now (kth_of b.scan.agents k)))
    by_joined true = none_speaks choices.AlreadyJoined
    by_joined false = by_agent (kth_of b.scan.agents k)

-- # What is sent of discovery, and an acknowledgement

request_octets : Spelled (requests.Request 0)
request_octets = front 3 (8 ∷ 0 ∷ 0xFF ∷ 0xFF ∷ 0xFF ∷ 0xFF ∷ 7 ∷ []) (omega arith)
    (front 8 (0 ∷ 0xFF ∷ 0xFF ∷ 0xFF ∷ 0xFF ∷ 7 ∷ []) (omega arith)
    (front 0 (0xFF ∷ 0xFF ∷ 0xFF ∷ 0xFF ∷ 7
    ∷ []) (omega arith) (front 0xFF (0xFF ∷ 0xFF ∷ 0xFF ∷ 7 ∷ []) (omega arith)
    (front 0xFF (0xFF ∷ 0xFF ∷ 7 ∷ []) (omega arith)
    (front 0xFF (0xFF ∷ 7 ∷ []) (omega arith) (front 0xFF (7 ∷ []) (omega arith) (front 7 [] (omega arith) (All-nil (λ n. n < 256)))))))))

beacon_spelled : (own cost : ℕ) → Spelled (requests.Beacon 0 PAN own cost)
beacon_spelled own cost =
    front 0 (0x80 ∷ 0 ∷ (little_bytes 2 PAN ++ (little_bytes 2 own ++ (0xFF ∷ role own ∷ 0 ∷ 0 ∷ big_bytes 2 cost)))) (omega arith)
    (front 0x80 (0 ∷ (little_bytes 2 PAN ++ (little_bytes 2 own ++ (0xFF ∷ role own ∷ 0 ∷ 0 ∷ big_bytes 2 cost)))) (omega arith)
    (front 0 (little_bytes 2 PAN ++ (little_bytes 2 own ++ (0xFF ∷ role own ∷ 0 ∷ 0 ∷ big_bytes 2 cost))) (omega arith)
    (both (little_bytes 2 PAN) (little_bytes 2 own ++ (0xFF ∷ role own ∷ 0 ∷ 0 ∷ big_bytes 2 cost)) (little_octets 2 PAN)
    (both (little_bytes 2 own) (0xFF ∷ role own ∷ 0 ∷ 0 ∷ big_bytes 2 cost) (little_octets 2 own)
    (front 0xFF (role own ∷ 0 ∷ 0 ∷ big_bytes 2 cost) (omega arith)
    (front (role own) (0 ∷ 0 ∷ big_bytes 2 cost) (by_own (own == 0))
    (front 0 (0 ∷ big_bytes 2 cost) (omega arith) (front 0 (big_bytes 2 cost) (omega arith) (big_octets 2 cost)))))))))
  where
    by_own : (b : Bool) → (if b then 0xCF else 0x8F) < 256
    by_own true = omega arith
    by_own false = omega arith

-- the frame that is sent
abbrev SentSpelled : Option Discovery → Type 0
SentSpelled o = IfSome o Spelled

beacons_spelled : (r : Role) (l : StationMemory) (scan : Scanned) (o : Option Discovery) (link : ℕ) → SentSpelled (hear_discovery_in r l scan o link).sent
beacons_spelled r l scan None link = tt
beacons_spelled r l scan (Some (requests.Request seq)) link = by_address (address_of l)
  where
    by_cost : (own : ℕ) (c : Option ℕ) → SentSpelled (beacons scan own c).sent
    by_cost own None = tt
    by_cost own (Some cost) = beacon_spelled own cost

    by_address : (a : Option ℕ) → SentSpelled
        (option_map_or (λ own. beacons scan own (cost_to_coordinator r l)) a (stays_scan scan (Err scan_drops.NotForMe))).sent
    by_address None = tt
    by_address (Some own) = by_cost own (cost_to_coordinator r l)
beacons_spelled r l scan (Some (requests.Beacon seq pan from cost)) link = by_tests (is_foreign l pan from) (takes_beacons l scan)
  where
    by_tests : (s t : Bool) → SentSpelled (if s then stays_scan scan (Err scan_drops.NotForMe)
        else (if t then takes_beacon scan from cost link else stays_scan scan (Err scan_drops.NotScanning))).sent
    by_tests true t = tt
    by_tests false true = tt
    by_tests false false = tt

ack_speaks : (m : Memory) (reply : Reply) → IsFurther Octets m (acknowledges in_memory reply.to reply.number reply.origin m)
unfolding sealed resting goes empty_draft
ack_speaks m reply = by_left (nat_lt (counters_left m.station) 1) refl
  where
    by_left : (b : Bool) → nat_lt (counters_left m.station) 1 ≡ b
        → IsFurther Octets m (within (λ l. with_station l m) (λ a. a)
        (if b then refused local_ends m.station local_ends.spent
        else sealing alone local_ends (local_draft m.station 3 (Some reply.to) (ack_spelling reply.number reply.origin)) (tt {0})))
    by_left true e = Rests (Err locals.CounterSpent) (Err locals.Store)
    by_left false e = Goes (Ok (tt {0})) (Err locals.Store) [] (record { to = reply.to; unit = Local 3 (ack_spelling reply.number reply.origin); note = 0 }
        ∷ []) tt (one_octets reply.to 3 _ (omega arith) (ack_octets reply.number reply.origin)) (omega arith) (ltb-false _ _ e)

-- # Events

module _ (w : World) (ok : WorldOk w) (s : WorldSpeaks w) (logs : LogsKept w) where
  ran_octets : WorldSpeaks (running_world w)
  ran_octets = record { nodes = s.nodes; flights = s.flights }

  choice_speaks : (number : ℕ) (x : Node) (psk : Key) → node_at w number ≡ Some x → psk_of x ≡ Some psk → (m : Memory) → x.memory ≡ Some m → MemorySpeaks m
      → (b : Beside) (k : ℕ) → PlanSpeaks (with_beside b (λ y. choose_agent (identity network x psk) y k w.clock) m)
  choice_speaks number x psk there pair m here h b k = chosen_speaks m b (identity network x psk) k w.clock h
      (λ agent. joins_speaks x.eui psk (at_place NodeFits w.nodes number x there ok.fits).eui (pair_of w ok s number x m psk there here pair) m h
      (ring_readable x m (at_place NodeOk w.nodes number x there ok.nodes) here) w.clock agent)

  pub line_speaks : (event : Event) (st : Step) → IsLineStep Octets Spelled network w event st → SpeaksIn w ok s st
  line_speaks event st (Known e t is) = event_speaks w ok s event st is
  line_speaks event st (Opens begun) = record { nodes = s.nodes; flights = s.flights }
  line_speaks event st (Anew e v t moves silent) = moved_speaks (running_world w) v moves (steps_ran_ok network network_ranges w ok s.flights) refl ran_octets
  line_speaks event st (After e r v t is good runs moves same_words) = moved_speaks r.0 v moves good runs (event_speaks w ok s event (Ok r) is)
  line_speaks event st (Unsends e r v t is good runs moves same_words) =
      let m = moved_speaks r.0 v moves good runs (event_speaks w ok s event (Ok r) is) in record { nodes = m.nodes; flights = s.flights }
  line_speaks event st (Unbelieves e number x octets got there says comes is) =
      let left = acts_speaks x (Err frames.Halted) (λ m. of_station m (accept m.station x.eui (arrived network octets)))
      (at_place NodeSpeaks w.nodes number x there s.nodes) (λ m here h. accept_speaks m h x.eui (arrived network octets)) in
      let t = after_speaks (running_world w) number (stays (accepting network x octets).node (only answers.Blacklisted)) ran_octets
      (record { node = left.node; frames = All-nil SentOctets }) in
      record { nodes = t.nodes; flights = t.flights }
  line_speaks event st (Chooses number k x psk ne there pair) =
      let fit = at_place NodeFits w.nodes number x there ok.fits in
      let t = after_speaks (running_world w) number
      (reaches x (beside_at w number) (Err choices.Halted) (λ y. choose_agent (identity network x psk) y k w.clock))
      ran_octets
      (acts_speaks x (Err choices.Halted) (with_beside (beside_at w number) (λ y. choose_agent (identity network x psk) y k w.clock))
      (at_place NodeSpeaks w.nodes number x there s.nodes)
      (λ m here h. choice_speaks number x psk there pair m here h (beside_at w number) k)) in
      record { nodes = t.nodes; flights = t.flights }

  -- what nodes seal is octets
  pub octets_speak : Speaks Octets Spelled network w
  octets_speak = record {
    broadcasts = λ number x m datagram are there here. broadcast_is Octets (beside_at w number) datagram m
        (λ own e none. one_octets to_all 4 _ (omega arith) (broadcast_octets (own_broadcast own (beside_at w number).log datagram) (omega arith) are.2));
    asks = λ number x m target there here. ask_is Octets (beside_at w number) target m
        (λ own hop e route. one_octets hop 5 _ (omega arith) (path_octets (Ask target (own ∷ [])) (omega arith)));
    scans = request_octets;
    beacons = λ number x m octets link frame there here e. subst (λ o. IfSome o Spelled) e
        (beacons_spelled x.role m.station (beside_at w number).scan (discovery_in octets) link);
    commands = λ event number x octets got cost c m says comes there is e here.
        command_is Octets (All-nil OutSpeaks) (beside_at w number) (fits_at network w logs number x octets got cost m there here) m c
        (λ own message to next a p o. one_octets to 5 _ (omega arith)
        (path_octets next (sent_short own c.from (next_toward m.station message) message to next
        (paths_spelled message c.body (commands_fit network network_ranges w ok s.flights event says number x octets got c there comes is e) p).0 o)))
        (λ own d a p none.
        let sp = broadcast_spelled d c.body (commands_fit network network_ranges w ok s.flights event says number x octets got c there comes is e) p in
        let few = sp.0.hops.1 in
        one_octets to_all 4 _ (omega arith) (broadcast_octets (hop_less d) (omega arith)
        (datagram_octets d (subst AreOctets sp.1 (commands_fit network network_ranges w ok s.flights event says number x octets got c there comes is e)))));
    acknowledges = λ event number x octets got cost reply m says comes there is owed here. ack_speaks m reply;
  }

-- # Runs

runs_hold : (w : World) → WorldOk w → WorldSpeaks w → LogsKept w → (entries : List Entry) → AreEvents (events_of entries) → IsRun network w entries
    → All HoldsAfter entries
runs_hold w ok s logs [] says run = All-nil HoldsAfter
runs_hold w ok s logs (x ∷ xs) says run =
    let event = All-head IsEvent x.event (events_of xs) says in
    let held = subst (StepHolds w) run.2 (line_steps_hold network network_ranges w ok s.flights logs x.event event) in
    let kept = subst LogsHold run.2 (line_logs_hold network network_ranges w ok s.flights logs x.event event) in
    let next : WorldSpeaks x.after = subst (SpeaksIn w ok s) run.2
    (line_speaks w ok s logs x.event (line_step network w x.event)
    (line_step_is Octets Spelled network network_ranges w ok s.flights logs (octets_speak w ok s logs) x.event event)) in
    All-cons HoldsAfter x xs (record { line = held.0.0; octets = next.flights; logs = kept; few = held.0.1 })
    (runs_hold x.after held.0.0 next kept xs (All-tail IsEvent x.event (events_of xs) says) run.3)

pub every_run_holds : EveryRunHolds
every_run_holds entries r = runs_hold start start_ok start_speaks tt entries r.events r.run

abbrev EntryFlies : Entry → Type 0
EntryFlies x = All FlightFits x.after.flights

pub every_flight : EveryFlightIsOctets
every_flight entries r = All-weaker HoldsAfter EntryFlies (λ x h. h.octets) entries (every_run_holds entries r)
