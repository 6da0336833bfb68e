-- What an event does where nodes have further reach: checks of neighbours, broadcasts, beacons and path requests. It is what a line without
-- these does (`Steps`), and what a node's further rules add to it (`reach_rules`).
use Rattle.std.specs.Prelude.{ℕ, ◌+◌, Bool, true, false, ◌&&◌, List, [], ◌∷◌, ◌++◌, length, map, is_some, unwrap_or, slice_get, slice_set, Option}
use Rattle.std.specs.Prelude.{Some, None, Result, Ok, Err, if◌then◌else◌}
use Rattle.std.specs.Option.{option_map, option_map_or}
use Rattle.plc_base.specs.declared.key.Key.{Key}
use Rattle.plc_base.specs.declared.keeper.BadStore.{BadStore}
use Rattle.loadng_messages.specs.declared.message.Message.{Message}
use Rattle.loadng_messages.specs.declared.message.Message.TheVariants.{Rreq, Rrep, Rerr}
use Rattle.pan_discovery.specs.declared.message.Discovery.{Discovery}
use Rattle.pan_discovery.specs.declared.message.Discovery.TheVariants as discoveries
use Rattle.pan_discovery.specs.Messages.{discovery_spelling}
use Rattle.pan_discovery.specs.Reader.{discovery_in}
use Rattle.path_requests.specs.declared.message.PathMessage.{PathMessage}
use Rattle.path_requests.specs.declared.message.PathMessage.TheVariants.{Ask, Tell}
use Rattle.path_requests.specs.Reader.{path_in}
use Rattle.neighbour_checks.specs.Acks.{ack_in}
use Rattle.node_rules.specs.Accepted.{Accepted}
use Rattle.node_rules.specs.declared.heard.Path.{Path}
use Rattle.node_rules.specs.declared.heard.Path.TheVariants as paths
use Rattle.node_rules.specs.declared.heard.Reply.{Reply}
use Rattle.node_rules.specs.declared.refusal.Dropped.TheVariants as drops
use Rattle.node_rules.specs.declared.refusal.FrameRefusal.{FrameRefusal}
use Rattle.node_rules.specs.declared.refusal.FrameRefusal.TheVariants as frames
use Rattle.node_rules.specs.declared.refusal.LocalRefusal.{LocalRefusal}
use Rattle.node_rules.specs.declared.refusal.LocalRefusal.TheVariants as locals
use Rattle.node_rules.specs.Ciphers.{Ciphers}
use Rattle.node_rules.specs.Frames.{arrived}
use Rattle.node_rules.specs.Memory.{Memory, Node, node_address, node_route}
use Rattle.node_rules.specs.MemoryDrafts.{in_memory}
use Rattle.node_rules.specs.NodeSteps.{NodeStep, acts, stays, of_station, answering}
use Rattle.node_rules.specs.Plans.{Plan, within}
use Rattle.node_rules.specs.Acceptance.{accept}
use Rattle.node_rules.specs.Replies.{reply_among}
use Rattle.reach_rules.specs.declared.heard.CommandHeard.{CommandHeard}
use Rattle.reach_rules.specs.declared.heard.CommandHeard.TheVariants as heard_of
use Rattle.reach_rules.specs.declared.heard.DiscoveryHeard.{DiscoveryHeard}
use Rattle.reach_rules.specs.declared.heard.DiscoveryHeard.TheVariants as discovered
use Rattle.reach_rules.specs.declared.refusal.ReachDropped.{ReachDropped}
use Rattle.reach_rules.specs.declared.refusal.ReachDropped.TheVariants as reach_drops
use Rattle.reach_rules.specs.declared.refusal.BroadcastRefusal.{BroadcastRefusal}
use Rattle.reach_rules.specs.declared.refusal.BroadcastRefusal.TheVariants as broadcasts
use Rattle.reach_rules.specs.declared.refusal.AskRefusal.{AskRefusal}
use Rattle.reach_rules.specs.declared.refusal.AskRefusal.TheVariants as asks
use Rattle.reach_rules.specs.declared.refusal.ChooseRefusal.{ChooseRefusal}
use Rattle.reach_rules.specs.declared.refusal.ChooseRefusal.TheVariants as choices
use Rattle.reach_rules.specs.declared.refusal.DiscoveryDropped.{DiscoveryDropped}
use Rattle.reach_rules.specs.ReachingNodes.{Beside, Reaching, nothing_beside, tick_beside, restarted}
use Rattle.reach_rules.specs.CheckedReplies.{message_of, is_unbelieved, checks_after, acknowledges}
use Rattle.reach_rules.specs.Broadcasts.{broadcast}
use Rattle.reach_rules.specs.PathRequests.{ask_path}
use Rattle.reach_rules.specs.Beacons.{ChosenAgent, Discovering, is_discovery, hear_discovery, begin_scan, choose_agent}
use Rattle.reach_rules.specs.FurtherReceptions.{NeighbourCommand, command_of, hear_command}
use Rattle.line_events.specs.declared.event.Event.{Event}
use Rattle.line_events.specs.declared.event.Event.TheVariants as events
use Rattle.line_events.specs.declared.event.Answer.{Answer}
use Rattle.line_events.specs.declared.event.Answer.TheVariants as answers
use Rattle.line_events.specs.declared.event.StepFault.TheVariants as faults
use Rattle.line_events.specs.declared.happenings.AgentLine.{AgentLine}
use Rattle.line_events.specs.declared.happenings.BroadcastUp.{BroadcastUp}
use Rattle.line_events.specs.declared.happenings.PathLine.{PathLine}
use Rattle.line_rules.specs.Answers.{Reception, only, frame_word, command_word, discovery_word, broadcast_word, ask_word, scan_word}
use Rattle.line_rules.specs.Steps.{Step, set_up, running_world, world_after, node_trace, happenings, trace_of, once_begun, in_setup, on_node, on_meter}
use Rattle.line_rules.specs.Steps.{on_flight, node_outcome}
use Rattle.line_rules.specs.Steps.{psk_of}
use Rattle.line_rules.specs.Steps.{identity, hearing_step, hearing_outcome, received, forged_by, note_by, restarts, tick, step}
use Rattle.line_rules.specs.Worlds.{World, Flight, Trace, Broadcasting, Stepping, Noticed, Replied, Acknowledged, Scans, Heard, nothing_further}

-- # What stands beside the memory

-- what a node holds beside its memory
abbrev pub beside_at : World → ℕ → Beside
beside_at w number = unwrap_or (slice_get w.beside number) nothing_beside

-- the node holds other things beside it
abbrev pub set_beside : ℕ → Beside → World → World
set_beside number b w = record w { beside = slice_set w.beside number b }

-- a plan of a node with further reach, as it is for its memory
abbrev pub of_memory : {A : Type 0} → Plan (Reaching Memory) A → Plan Memory A
of_memory p = within (λ x. x.memory) (λ a. a) p

-- a plan over a memory and what stands beside it
abbrev pub with_beside : {A : Type 0} → Beside → (Reaching Memory → Plan (Reaching Memory) A) → Memory → Plan Memory A
with_beside b plan m = of_memory (plan (record { memory = m; beside = b }))

-- a node carries out a plan of its further rules
abbrev pub reaches : {A : Type 0} → Node → Beside → A → (Reaching Memory → Plan (Reaching Memory) A) → NodeStep A
reaches x b halted plan = acts x halted (with_beside b plan)

-- a log of which nothing is known any more
abbrev pub without_log : Beside → Beside
without_log b = record b { log = nothing_beside.log }

-- what it then holds beside its memory; one that has halted knows nothing of its log, and its checks and its scan are as they were
unfoldable pub beside_after : {A : Type 0} → Node → Beside → (Reaching Memory → Plan (Reaching Memory) A) → Node → Beside
beside_after x b plan left =
    option_map_or (λ m. if is_some left.memory then (plan (record { memory = m; beside = b })).memory.beside else without_log b)
    x.memory b

-- the node of a number has carried it out
abbrev pub has_reached : {A : Type 0} → Ciphers → World → ℕ → Node → A → (Reaching Memory → Plan (Reaching Memory) A) → NodeStep A → World
has_reached ciphers w number x halted plan d =
    set_beside number (beside_after x (beside_at w number) plan d.node) (world_after ciphers w number d)

-- # checks

-- neighbours are checked from now on
unfoldable pub checks : World → Step
checks w =
    in_setup w (if w.checks_on then Err faults.Setup
    else Ok (record (set_up w) { checks_on = true }, trace_of (happenings w answers.Set)))

-- # bcast

-- a broadcast that went out
abbrev pub broadcast_sent : ℕ → Node → Beside → List ℕ → Result (Unit {0}) BroadcastRefusal → Option Broadcasting
broadcast_sent number x b datagram (Ok u) =
    option_map (λ address. record { node = number; address = address; number = b.log.numbering.next; datagram = datagram })
    (node_address x)
broadcast_sent number x b datagram (Err reason) = None

abbrev pub broadcasts_by : Ciphers → World → ℕ → Node → List ℕ → World × Trace
broadcasts_by ciphers w number x datagram =
    let plan : Reaching Memory → Plan (Reaching Memory) (Result (Unit {0}) BroadcastRefusal) = λ y. broadcast in_memory y datagram in
    let d = reaches x (beside_at w number) (Err broadcasts.Halted) plan in (
      has_reached ciphers (running_world w) number x (Err broadcasts.Halted) plan d,
      record (node_trace w (answering broadcast_word d)) {
        further = record nothing_further { broadcast = broadcast_sent number x (beside_at w number) datagram d.answer };
      },
    )

-- a datagram goes to all
unfoldable pub bcast : Ciphers → World → ℕ → List ℕ → Step
bcast ciphers w number datagram =
    once_begun w (on_node w number (λ x. Ok (broadcasts_by ciphers w number x datagram)))

-- # path

-- the step that an ask takes
abbrev pub asked : Node → (target : ℕ) → Result (Unit {0}) AskRefusal → Option Stepping
asked x target (Ok u) =
    option_map_or (λ from. option_map (λ to. record { from = from; to = to; target = target }) (node_route x target))
    (node_address x) None
asked x target (Err reason) = None

abbrev pub asks_by : Ciphers → World → ℕ → Node → Option ℕ → World × Trace
asks_by ciphers w number x None = (running_world w, trace_of (happenings w answers.NoAddress))
asks_by ciphers w number x (Some target) =
    let plan : Reaching Memory → Plan (Reaching Memory) (Result (Unit {0}) AskRefusal) = λ y. ask_path in_memory y target in
    let d = reaches x (beside_at w number) (Err asks.Halted) plan in (
      has_reached ciphers (running_world w) number x (Err asks.Halted) plan d,
      record (node_trace w (answering ask_word d)) {
        further = record nothing_further { stepping = asked x target d.answer };
      },
    )

-- the way to a node is asked for
unfoldable pub path : Ciphers → World → (from to : ℕ) → Step
path ciphers w from to =
    once_begun w (on_node w from (λ x. on_node w to (λ y. Ok (asks_by ciphers w from x (node_address y)))))

-- # scan, choose

-- a frame of discovery as a flight: nothing seals it
abbrev pub discovery_flight : ℕ → Discovery → Flight
discovery_flight from frame =
    record { from = from; octets = discovery_spelling frame; key = None; note = 0; lost = false }

abbrev pub discovery_flights : ℕ → Option Discovery → List Flight
discovery_flights from None = []
discovery_flights from (Some frame) = discovery_flight from frame ∷ []

-- what a node did about discovery, in the world and for the report
abbrev pub has_discovered : {A : Type 0} → World → ℕ → (A → Answer) → (A → Option Noticed) → Discovering A → World × Trace
has_discovered w number word noticed d = (
  set_beside number (record (beside_at w number) { scan = d.scan })
      (record (running_world w) { flights = w.flights ++ discovery_flights number d.sent }),
  record (trace_of (record (happenings w (word d.answer)) { flights = length (discovery_flights number d.sent) })) {
    further = record nothing_further { noticed = noticed d.answer };
  },
)

-- a scan that began
abbrev pub scanning : {E : Type 0} → ℕ → Result (Unit {0}) E → Option Noticed
scanning number (Ok u) = Some (Scans number)
scanning number (Err reason) = None

abbrev pub scans_by : World → ℕ → Option Memory → World × Trace
scans_by w number None = (running_world w, trace_of (happenings w answers.Halted))
scans_by w number (Some m) =
    has_discovered w number scan_word (scanning number) (begin_scan m (beside_at w number).scan)

-- a meter begins to scan
unfoldable pub scan : World → ℕ → Step
scan w number = once_begun w (on_meter w number (λ x. Ok (scans_by w number x.memory)))

-- the word of a meter that chose, and the agent
abbrev pub choice_word : Result ChosenAgent ChooseRefusal → Answer
choice_word (Ok agent) = answers.Asked
choice_word (Err choices.Halted) = answers.Halted
choice_word (Err choices.AlreadyJoined) = answers.AlreadyJoined
choice_word (Err choices.NoBeacon) = answers.NoBeacon

abbrev pub agent_line : ℕ → Result ChosenAgent ChooseRefusal → Option AgentLine
agent_line number (Ok agent) = Some (record { node = number; address = agent.address; total = agent.total })
agent_line number (Err reason) = None

abbrev pub chooses_by : Ciphers → World → ℕ → Node → ℕ → Option Key → World × Trace
chooses_by ciphers w number x k None = (running_world w, trace_of (happenings w answers.NoBeacon))
chooses_by ciphers w number x k (Some psk) =
    let plan : Reaching Memory → Plan (Reaching Memory) (Result ChosenAgent ChooseRefusal) = λ y. choose_agent (identity ciphers x psk) y k w.clock in
    let d = reaches x (beside_at w number) (Err choices.Halted) plan in
    let trace = node_trace w (answering choice_word d) in (
      has_reached ciphers (running_world w) number x (Err choices.Halted) plan d,
      record trace { happenings = record trace.happenings { agent = agent_line number d.answer } },
    )

-- a meter begins to join by the k-th agent that it heard
unfoldable pub choose : Ciphers → World → (number k : ℕ) → Step
choose ciphers w number k = once_begun w (on_meter w number (λ x. Ok (chooses_by ciphers w number x k (psk_of x))))

-- # deliver, inject: discovery

-- a beacon that was taken
abbrev pub beacon_taken : ℕ → Option Discovery → (link : ℕ) → Result DiscoveryHeard DiscoveryDropped → Option Noticed
beacon_taken number (Some (discoveries.Beacon seq pan from cost)) link (Ok discovered.Beaconed) = Some (Heard number from cost link)
beacon_taken number frame link answer = None

abbrev pub discovers_by : World → ℕ → Node → List ℕ → (link : ℕ) → Option Memory → World × Trace
discovers_by w number x octets link None = (running_world w, trace_of (happenings w answers.Halted))
discovers_by w number x octets link (Some m) =
    has_discovered w number discovery_word (beacon_taken number (discovery_in octets) link)
    (hear_discovery x.role m.station (beside_at w number).scan octets link)

-- # deliver, inject: commands

-- the broadcast that was handed up, and the way that was reported
abbrev pub broadcast_up : ℕ → Result CommandHeard ReachDropped → Option BroadcastUp
broadcast_up number (Ok (heard_of.Broadcast origin count octets)) =
    Some (record { node = number; origin = origin; number = count; octets = octets })
broadcast_up number (Ok heard_of.Acked) = None
broadcast_up number (Ok heard_of.Relayed) = None
broadcast_up number (Ok heard_of.Answered) = None
broadcast_up number (Ok (heard_of.Path walk)) = None
broadcast_up number (Err reason) = None

abbrev pub path_line : ℕ → Result CommandHeard ReachDropped → Option PathLine
path_line number (Ok (heard_of.Path walk)) = Some (record { node = number; walk = walk })
path_line number (Ok heard_of.Acked) = None
path_line number (Ok (heard_of.Broadcast origin count octets)) = None
path_line number (Ok heard_of.Relayed) = None
path_line number (Ok heard_of.Answered) = None
path_line number (Err reason) = None

-- the step that an ask takes which goes on
abbrev pub goes_toward : Node → Option PathMessage → Option Stepping
goes_toward x None = None
goes_toward x (Some (Tell walk)) = None
goes_toward x (Some (Ask target walk)) =
    option_map_or (λ from. option_map (λ to. record { from = from; to = to; target = target }) (node_route x target))
    (node_address x) None

abbrev pub step_by : Node → NeighbourCommand → Result CommandHeard ReachDropped → Option Stepping
step_by x c (Ok heard_of.Relayed) = goes_toward x (path_in c.body)
step_by x c (Ok heard_of.Acked) = None
step_by x c (Ok heard_of.Answered) = None
step_by x c (Ok (heard_of.Broadcast origin count octets)) = None
step_by x c (Ok (heard_of.Path walk)) = None
step_by x c (Err reason) = None

-- an acknowledgement that ended a check
abbrev pub acknowledged_by : ℕ → NeighbourCommand → Result CommandHeard ReachDropped → Option Noticed
acknowledged_by number c (Ok heard_of.Acked) = option_map (λ ack. Acknowledged number c.from ack.0 ack.1) (ack_in c.body)
acknowledged_by number c (Ok heard_of.Relayed) = None
acknowledged_by number c (Ok heard_of.Answered) = None
acknowledged_by number c (Ok (heard_of.Broadcast origin count octets)) = None
acknowledged_by number c (Ok (heard_of.Path walk)) = None
acknowledged_by number c (Err reason) = None

-- what the further rule for a command adds to what a node without further reach made of its frame, which is nothing
abbrev pub command_trace : ℕ → Node → NeighbourCommand → Trace → NodeStep (Result CommandHeard ReachDropped) → Trace
command_trace number x c t d = record t {
  happenings = record t.happenings {
    answer = command_word d.answer;
    bup = broadcast_up number d.answer;
    path = path_line number d.answer;
    flights = t.happenings.flights + length d.frames;
  };
  further = record nothing_further { stepping = step_by x c d.answer; noticed = acknowledged_by number c d.answer };
}

abbrev pub commanded : Ciphers → ℕ → Node → NeighbourCommand → World × Trace → World × Trace
commanded ciphers number x c r =
    let plan : Reaching Memory → Plan (Reaching Memory) (Result CommandHeard ReachDropped) = λ y. hear_command in_memory y c in
    let halted : Result CommandHeard ReachDropped = Err (reach_drops.Known drops.Store) in
    let d = reaches x (beside_at r.0 number) halted plan in
    (has_reached ciphers r.0 number x halted plan d, command_trace number x c r.1 d)

-- # deliver, inject: replies, where neighbours are checked

-- whether a reply was taken
abbrev pub is_reply_taken : Answer → Bool
is_reply_taken answers.Learned = true
is_reply_taken answers.Relayed = true
is_reply_taken _ = false

-- an acknowledgement that is due: of a reply that came to one node and was taken
abbrev pub due_of : ℕ → Option Message → Option Reply
due_of from (Some (Rrep number cost origin to)) = Some (record { to = from; number = number; origin = origin })
due_of from (Some (Rreq number cost origin dest)) = None
due_of from (Some (Rerr lost to)) = None
due_of from None = None

abbrev pub due : Path → Option Message → Answer → Option Reply
due (paths.Sealed from false key) message answer = if is_reply_taken answer then due_of from message else None
due (paths.Sealed from true key) message _ = None
due (paths.Up from) message _ = None
due (paths.Down from) message _ = None

-- a reply that was sent begins a check
abbrev pub replied : ℕ → Option Reply → Option Noticed
replied number sent = option_map (λ (r : Reply). Replied number r.to r.number r.origin) sent

abbrev pub with_check : World → ℕ → Option Reply → World × Trace → World × Trace
with_check w number sent r = (
  set_beside number
      (record (beside_at w number) { checks = checks_after (beside_at w number).checks sent w.clock }) r.0,
  record r.1 { further = record nothing_further { noticed = replied number sent } },
)

-- where the put for an acknowledgement fails, the step sends nothing, and begins no check
abbrev pub sends_nothing : World → World × Trace → World × Trace
sends_nothing w r = (
  record r.0 { flights = w.flights; made = w.made; beside = w.beside },
  record r.1 { happenings = record r.1.happenings { answer = answers.Store; flights = 0 }; made = []; further = nothing_further },
)

-- an acknowledgement goes out after what was sent before it
abbrev pub adds_frames : World → Trace → NodeStep (Result (Unit {0}) LocalRefusal) → World × Trace
adds_frames v t a = (v, record t { happenings = record t.happenings { flights = t.happenings.flights + length a.frames } })

-- the node of this number, as its rule has left it, acknowledges a reply
abbrev pub acknowledging : Node → Reply → NodeStep (Result (Unit {0}) LocalRefusal)
acknowledging x r = acts x (Err locals.Store) (λ m. acknowledges in_memory r.to r.number r.origin m)

abbrev pub acknowledged : Ciphers → World → ℕ → NodeStep (Result (Unit {0}) LocalRefusal) → World × Trace → World × Trace
acknowledged ciphers w number a r =
    if is_some a.node.memory then adds_frames (world_after ciphers r.0 number a) r.1 a
    else sends_nothing w (world_after ciphers r.0 number a, r.1)

abbrev pub acknowledged_if : Ciphers → World → ℕ → Node → Option Reply → World × Trace → World × Trace
acknowledged_if ciphers w number x None r = r
acknowledged_if ciphers w number x (Some reply) r = acknowledged ciphers w number (acknowledging x reply) r

-- what checks add to what was heard of a frame
abbrev pub checked : Ciphers → World → ℕ → Accepted → NodeStep Reception → World × Trace → World × Trace
checked ciphers w number got h r =
    acknowledged_if ciphers w number h.node (due got.path (message_of got) h.answer.answer)
    (with_check w number (reply_among h.frames) r)

-- # deliver, inject

-- a request of a listed neighbour is dropped
abbrev pub unbelieved : Ciphers → World → ℕ → Node → List ℕ → Accepted → World × Trace
unbelieved ciphers w number x octets got =
    received ciphers w number (forged_by w octets got.path) (stays x (only answers.Blacklisted))

-- whether it is one
abbrev pub is_dropped : World → ℕ → Accepted → Bool
is_dropped w number got = w.checks_on && is_unbelieved (beside_at w number).checks got.path (message_of got)

-- by the command that it carries, if it carries one
abbrev pub hearing_outcome_by : Ciphers → World → ℕ → Node → List ℕ → Accepted → (cost : ℕ) → Option NeighbourCommand → World × Trace
hearing_outcome_by ciphers w number x octets got cost (Some c) =
    commanded ciphers number (hearing_step ciphers x got cost (note_by w octets got.path) w.clock).node c
    (hearing_outcome ciphers w number x octets got cost)
hearing_outcome_by ciphers w number x octets got cost None =
    if w.checks_on then checked ciphers w number got (hearing_step ciphers x got cost (note_by w octets got.path) w.clock)
    (hearing_outcome ciphers w number x octets got cost)
    else hearing_outcome ciphers w number x octets got cost

-- a frame that was accepted
abbrev pub further_hearing_outcome : Ciphers → World → ℕ → Node → List ℕ → Accepted → (cost : ℕ) → World × Trace
further_hearing_outcome ciphers w number x octets got cost =
    if is_dropped w number got then unbelieved ciphers w number x octets got
    else hearing_outcome_by ciphers w number x octets got cost (command_of got)

abbrev pub accepted_further : Ciphers → World → ℕ → List ℕ → (cost : ℕ) → NodeStep (Result Accepted FrameRefusal) → World × Trace
accepted_further ciphers w number octets cost d = by_answer d.answer
  where
    by_answer : Result Accepted FrameRefusal → World × Trace
    by_answer (Ok got) = further_hearing_outcome ciphers w number d.node octets got cost
    by_answer (Err reason) = (world_after ciphers (running_world w) number d, trace_of (happenings w (frame_word reason)))

-- octets come to a node
unfoldable pub comes : Ciphers → World → ℕ → Node → List ℕ → (cost : ℕ) → World × Trace
comes ciphers w number x octets cost =
    if is_discovery octets then discovers_by w number x octets cost x.memory
    else accepted_further ciphers w number octets cost
    (acts x (Err frames.Halted) (λ m. of_station m (accept m.station x.eui (arrived ciphers octets))))

-- a flight comes to a node over a link of this cost
unfoldable pub delivers : Ciphers → World → (flight number cost : ℕ) → Step
delivers ciphers w flight number cost =
    once_begun w (on_node w number (λ x. on_flight w flight (λ f. Ok (comes ciphers w number x f.octets cost))))

-- octets of the script come to a node over a link of this cost
unfoldable pub injects : Ciphers → World → (number cost : ℕ) → List ℕ → Step
injects ciphers w number cost octets = once_begun w (on_node w number (λ x. Ok (comes ciphers w number x octets cost)))

-- # tick, restart

-- a step that is taken, and more after it
abbrev pub after_ok : (World × Trace → World × Trace) → Step → Step
after_ok more (Ok r) = Ok (more r)
after_ok more (Err fault) = Err fault

-- time lists neighbours and lets them go
unfoldable pub ticks : World → ℕ → Step
ticks w seconds =
    after_ok (λ r. (record r.0 { beside = map (tick_beside (w.clock + seconds)) w.beside }, r.1)) (tick w seconds)

-- a restart finds the log of broadcasts in the store
abbrev pub restarts_by : Ciphers → World → ℕ → Node → Result Beside BadStore → World × Trace
restarts_by ciphers w number x (Ok b) =
    (set_beside number b (node_outcome ciphers w number (restarts x)).0, (node_outcome ciphers w number (restarts x)).1)
restarts_by ciphers w number x (Err bad) = (
  set_beside number nothing_beside (node_outcome ciphers w number (stays (record x { memory = None }) answers.BadStore)).0,
  (node_outcome ciphers w number (stays (record x { memory = None }) answers.BadStore)).1,
)

unfoldable pub restarts_further : Ciphers → World → ℕ → Step
restarts_further ciphers w number =
    once_begun w (on_node w number (λ x. Ok (restarts_by ciphers w number x (restarted x.store.records))))

-- # All kinds

-- an event, by its kind
abbrev pub line_step : Ciphers → World → Event → Step
line_step ciphers w (events.Coordinator eui key) = step ciphers w (events.Coordinator eui key)
line_step ciphers w (events.Meter eui psk) = step ciphers w (events.Meter eui psk)
line_step ciphers w (events.Depot node) = step ciphers w (events.Depot node)
line_step ciphers w (events.Near a b cost) = step ciphers w (events.Near a b cost)
line_step ciphers w (events.Counter node value) = step ciphers w (events.Counter node value)
line_step ciphers w (events.Number node value) = step ciphers w (events.Number node value)
line_step ciphers w (events.Allow node) = step ciphers w (events.Allow node)
line_step ciphers w (events.RandomOctets node value) = step ciphers w (events.RandomOctets node value)
line_step ciphers w (events.Join node agent) = step ciphers w (events.Join node agent)
line_step ciphers w (events.Leave node) = step ciphers w (events.Leave node)
line_step ciphers w (events.Send from to datagram) = step ciphers w (events.Send from to datagram)
line_step ciphers w (events.Deliver flight node cost) = delivers ciphers w flight node cost
line_step ciphers w (events.Inject node cost octets) = injects ciphers w node cost octets
line_step ciphers w (events.Lose flight) = step ciphers w (events.Lose flight)
line_step ciphers w (events.Break node next) = step ciphers w (events.Break node next)
line_step ciphers w (events.Tick seconds) = ticks w seconds
line_step ciphers w (events.Restart node) = restarts_further ciphers w node
line_step ciphers w (events.Cut node nth keeps_new) = step ciphers w (events.Cut node nth keeps_new)
line_step ciphers w (events.Rekey index key) = step ciphers w (events.Rekey index key)
line_step ciphers w (events.Challenge node) = step ciphers w (events.Challenge node)
line_step ciphers w (events.Activate node index) = step ciphers w (events.Activate node index)
line_step ciphers w (events.Kick node) = step ciphers w (events.Kick node)
line_step ciphers w (events.Show node) = step ciphers w (events.Show node)
line_step ciphers w events.Checks = checks w
line_step ciphers w (events.Bcast node datagram) = bcast ciphers w node datagram
line_step ciphers w (events.Scan node) = scan w node
line_step ciphers w (events.Choose node k) = choose ciphers w node k
line_step ciphers w (events.Path from to) = path ciphers w from to
