-- What an event does to the world, or why it is not taken.
use Rattle.std.specs.Prelude.{ℕ, ◌+◌, ◌-◌, Bool, true, false, not, ◌==◌, ◌&&◌, ◌||◌, nat_lt, List, [], ◌∷◌, ◌++◌, length, map, is_some, slice_set, position}
use Rattle.std.specs.Prelude.{Option, Some, None, Result, Ok, Err, if◌then◌else◌}
use Rattle.std.specs.List.{list_any}
use Rattle.std.specs.Option.{option_map, option_map_or}
use Rattle.std.specs.FinMap as maps
use Rattle.plc_base.specs.declared.address.Eui.{Eui}
use Rattle.plc_base.specs.declared.key.Key.{Key}
use Rattle.plc_base.specs.declared.key.RandomOctets.{RandomOctets}
use Rattle.plc_base.specs.declared.keeper.BadStore.{BadStore}
use Rattle.plc_base.specs.Grant.{Granted}
use Rattle.routing_set.specs.RoutingSet as routing
use Rattle.line_events.specs.declared.event.Event.{Event}
use Rattle.line_events.specs.declared.event.Event.TheVariants as events
use Rattle.line_events.specs.declared.event.Answer.{Answer}
use Rattle.line_events.specs.declared.event.Answer.TheVariants as answers
use Rattle.line_events.specs.declared.event.StepFault.{StepFault}
use Rattle.line_events.specs.declared.event.StepFault.TheVariants as faults
use Rattle.node_rules.specs.Accepted.{Accepted}
use Rattle.node_rules.specs.declared.heard.Path.{Path}
use Rattle.node_rules.specs.declared.heard.Path.TheVariants as paths
use Rattle.node_rules.specs.declared.refusal.CoordinatorRefusal.{CoordinatorRefusal}
use Rattle.node_rules.specs.declared.refusal.CoordinatorRefusal.TheVariants as orders
use Rattle.node_rules.specs.declared.refusal.Dropped.TheVariants as drops
use Rattle.node_rules.specs.declared.refusal.FrameRefusal.{FrameRefusal}
use Rattle.node_rules.specs.declared.refusal.FrameRefusal.TheVariants as frames
use Rattle.node_rules.specs.declared.refusal.JoinRefusal.TheVariants as joins
use Rattle.node_rules.specs.declared.refusal.LeaveRefusal.TheVariants as leaves
use Rattle.node_rules.specs.declared.refusal.RandomFault.TheVariants as randoms
use Rattle.node_rules.specs.declared.refusal.SendRefusal.TheVariants as sends
use Rattle.node_rules.specs.Ciphers.{Ciphers}
use Rattle.node_rules.specs.Frames.{spelled, arrived}
use Rattle.node_rules.specs.Memory.{StationMemory, Memory, Node, Role, Coordinator, Meter, node_address}
use Rattle.node_rules.specs.Plans.{Plan}
use Rattle.node_rules.specs.NodeSteps.{NodeStep, acts, stays, of_station, answering, changing}
use Rattle.node_rules.specs.Acceptance.{accept, same_eui}
use Rattle.node_rules.specs.Calls as calls
use Rattle.node_rules.specs.MemoryDrafts.{with_station, give_random}
use Rattle.node_rules.specs.Meters as meters
use Rattle.node_rules.specs.Coordinators as coordinator_rules
use Rattle.node_rules.specs.RestartStates.{memory_of, remembering, blank_station, first_grant}
use Rattle.line_rules.specs.Answers.{Reception, Up, SentGrant, CompletedJoining, frame_word, sent_word, random_word, join_word, leave_word, ordered_word}
use Rattle.line_rules.specs.Answers.{meter_reception, coordinator_reception}
use Rattle.node_rules.specs.ShownNodes.{shown_of}
use Rattle.line_rules.specs.Worlds.{Flight, World, node_at, flight_at, note_of, is_forged_frame, is_forged_tag, Issued, Pairing, Trace, nothing_further}
pub use Rattle.line_flights.specs.Flights.{flight_by}
use Rattle.reach_rules.specs.ReachingNodes.{nothing_beside}
use Rattle.line_events.specs.declared.happenings.Handed.{Handed}
use Rattle.line_events.specs.declared.happenings.Admission.{Admission}
use Rattle.line_events.specs.declared.happenings.Happenings.{Happenings}

-- what an event gives: the world after it and what it was, or why it was not taken
abbrev pub Step : Type 0
Step = Result (World × Trace) StepFault

-- # What it does to the world

-- an event of a setup kind was taken, and one of another kind
abbrev pub set_up : World → World
set_up w = record w { events = w.events + 1 }

-- an event of another kind than setup was taken: setup is over
abbrev pub running_world : World → World
running_world w = record w { events = w.events + 1; running = true }

-- the frames of a node as flights, in order
abbrev pub flights_of : {A : Type 0} → Ciphers → ℕ → NodeStep A → List Flight
flights_of ciphers number d = map (λ frame. flight_by number (spelled ciphers frame)) d.frames

-- the node is the one that is left, its frames fly, and its pair tags are made
unfoldable pub world_after : {A : Type 0} → Ciphers → World → ℕ → NodeStep A → World
world_after ciphers w number d = record w {
  nodes = slice_set w.nodes number d.node;
  flights = w.flights ++ flights_of ciphers number d;
  made = w.made ++ d.made;
}

-- # What is said of an event

-- an answer, and nothing beside it; the next flight would be the first
abbrev pub happenings : World → Answer → Happenings
happenings w answer = record {
  answer = answer;
  forged = false;
  up = None;
  bup = None;
  agent = None;
  path = None;
  grant = None;
  took = None;
  done = None;
  shown = None;
  first_flight = length w.flights + 1;
  flights = 0;
}

-- what the report says, and nothing beside it for the history
abbrev pub trace_of : Happenings → Trace
trace_of h = record {
  happenings = h;
  sent = None;
  issued = [];
  taken = None;
  done = None;
  made = [];
  opened = [];
  further = nothing_further;
}

-- what a node did, in the words of its answer
abbrev pub node_trace : World → NodeStep Answer → Trace
node_trace w d =
    record (trace_of (record (happenings w d.answer) { flights = length d.frames })) { made = d.made; opened = d.opened }

-- what a node did goes into the world and into the report
abbrev pub node_outcome : Ciphers → World → ℕ → NodeStep Answer → World × Trace
node_outcome ciphers w number d = (world_after ciphers (running_world w) number d, node_trace w d)

-- # Which events are taken

-- whether there is a coordinator
abbrev pub has_begun : World → Bool
has_begun w = nat_lt 0 (length w.nodes)

-- setup ends with the first event of another kind
abbrev pub takes_setup : World → Bool
takes_setup w = has_begun w && not w.running

-- the first event makes the coordinator
abbrev pub once_begun : World → Step → Step
once_begun w step = if has_begun w then step else Err faults.Setup

-- a step of setup, which is not taken where setup is over
abbrev pub in_setup : World → Step → Step
in_setup w step = if takes_setup w then step else Err faults.Setup

-- a step of a node, which is not taken where there is no such node
abbrev pub on_node : World → ℕ → (Node → Step) → Step
on_node w number step = option_map_or step (node_at w number) (Err faults.Node)

-- node 0 is no meter
abbrev pub on_meter : World → ℕ → (Node → Step) → Step
on_meter w number step = if number == 0 then Err faults.Node else on_node w number step

-- what the coordinator does about a meter
abbrev pub at_coordinator : World → (Node → Step) → Step
at_coordinator w step = on_node w 0 step

-- # coordinator, meter

-- a node with an empty store
abbrev pub blank_node : Role → Eui → Node
blank_node role eui =
    record {
      role = role;
      eui = eui;
      store = record { records = maps.empty; cut = None };
      memory = Some (remembering blank_station []);
    }

-- the coordinator, which begins with its first ring
abbrev pub coordinator_node : Eui → Key → Node
coordinator_node eui key =
    (acts (blank_node Coordinator eui) (Ok tt) (λ m. coordinator_rules.begin m (first_grant key))).node

-- a node more
abbrev pub made_node : World → Node → World × Trace
made_node w x = (
  record (set_up w) { nodes = w.nodes ++ x ∷ []; beside = w.beside ++ nothing_beside ∷ [] },
  trace_of (happenings w answers.Made),
)

-- whether a node has this EUI
abbrev pub is_known : World → Eui → Bool
is_known w eui = list_any (λ (x : Node). same_eui x.eui eui) w.nodes

-- the coordinator is node 0, and there is one
unfoldable pub coordinator : World → Eui → Key → Step
coordinator w eui key = if has_begun w then Err faults.Setup else Ok (made_node w (coordinator_node eui key))

-- a meter is a node more, of 1,000 at most, with an EUI of its own
unfoldable pub meter : World → Eui → Key → Step
meter w eui psk =
    if not (takes_setup w) || (nat_lt 999 (length w.nodes) || is_known w eui) then Err faults.Setup
    else Ok (made_node w (blank_node (Meter psk) eui))

-- # depot

-- the keys of a grant, as they are issued to a meter
abbrev pub issued_at : Eui → ℕ → Option Key → List Issued
issued_at eui index None = []
issued_at eui index (Some key) = record { eui = eui; index = index; key = key } ∷ []

-- the keys of a grant, as issued to a meter
abbrev pub issued_by : Eui → Granted → List Issued
issued_by eui g = issued_at eui 0 g.key0 ++ issued_at eui 1 g.key1

-- the pair key of a meter
abbrev pub psk_of : Node → Option Key
psk_of x = psk_by x.role
  where
    psk_by : Role → Option Key
    psk_by Coordinator = None
    psk_by (Meter psk) = Some psk

-- the meter gets the grant that the coordinator has for it
abbrev pub provisioned : Ciphers → World → ℕ → Node → Granted → World × Trace
provisioned ciphers w number x g = (
  world_after ciphers w number (acts x (Ok tt) (λ m. meters.provision m g)),
  record (trace_of (happenings w answers.Joined)) { issued = issued_by x.eui g },
)

-- the meter installs what the coordinator granted
abbrev pub depot_by : Ciphers → World → ℕ → Node → NodeStep (Result Granted CoordinatorRefusal) → Step
depot_by ciphers w number x d = by_answer d.answer
  where
    by_answer : Result Granted CoordinatorRefusal → Step
    by_answer (Ok g) = Ok (provisioned ciphers (world_after ciphers (set_up w) 0 d) number x g)
    by_answer (Err reason) = Err faults.Setup

-- of a meter that has no address yet
abbrev pub depot_at : Ciphers → World → ℕ → Node → Node → Step
depot_at ciphers w number x c =
    if (number == 0) || is_some (node_address x) then Err faults.Setup
    else option_map_or (λ psk. depot_by ciphers w number x
    (acts c (Err orders.Halted) (λ m. coordinator_rules.depot m x.eui psk))) (psk_of x) (Err faults.Setup)

-- a meter is joined in the workshop
unfoldable pub depot : Ciphers → World → ℕ → Step
depot ciphers w number = in_setup w (on_node w number (λ x. at_coordinator w (λ c. depot_at ciphers w number x c)))

-- # near

-- what a node keeps of an address, and how many ranks it keeps
abbrev pub keeps_rank : Node → ℕ → Bool
keeps_rank x dest = option_map_or (λ (m : Memory). is_some (routing.rank_of m.station.routing dest)) x.memory false

-- whether a node keeps 64 ranks
abbrev pub ranks_full : Node → Bool
ranks_full x = option_map_or (λ (m : Memory). nat_lt 63 (length m.station.routing.entries)) x.memory false

-- a node takes a neighbour as a route of one hop
abbrev pub offered_near : Node → ℕ → ℕ → ℕ → NodeStep (Unit {0})
offered_near x to cost now =
    answering (λ _. tt) (acts x (Ok tt) (λ m. of_station m (calls.preset_near m.station to cost now)))

-- of two nodes that have addresses, keep no rank of each other and have room for one
abbrev pub near_by : Ciphers → World → (a b cost : ℕ) → Node → Node → Option ℕ → Option ℕ → Step
near_by ciphers w a b cost x y None q = Err faults.Setup
near_by ciphers w a b cost x y (Some p) None = Err faults.Setup
near_by ciphers w a b cost x y (Some p) (Some q) =
    if (a == b) || (keeps_rank x q || (ranks_full x || ranks_full y)) then Err faults.Setup
    else Ok (
      world_after ciphers (world_after ciphers (set_up w) a (offered_near x q cost w.clock)) b
          (offered_near y p cost w.clock),
      trace_of (happenings w answers.Set),
    )

-- two nodes are neighbours over a link of this cost
unfoldable pub near : Ciphers → World → (a b cost : ℕ) → Step
near ciphers w a b cost =
    in_setup w (on_node w a (λ x. on_node w b (λ y. near_by ciphers w a b cost x y (node_address x) (node_address y))))

-- # counter, number

-- a value of a node is set
abbrev pub preset : Ciphers → World → ℕ → (StationMemory → calls.Presetting) → Step
preset ciphers w number plan =
    in_setup w (on_node w number
    (λ x. Ok (
      world_after ciphers (set_up w) number (acts x (Ok tt) (λ m. of_station m (plan m.station))),
      trace_of
          (happenings w answers.Set),
    )))

-- # allow, rand, join, leave

-- the word of a meter that is allowed
abbrev pub allowed_word : Result ℕ CoordinatorRefusal → Answer
allowed_word answer = ordered_word answers.Allowed answer

-- the address that a meter was given
abbrev pub admission_by : ℕ → Result ℕ CoordinatorRefusal → Option Admission
admission_by number (Ok address) = Some (record { node = number; address = address })
admission_by number (Err reason) = None

-- the coordinator has allowed a meter
abbrev pub allowed : Ciphers → World → ℕ → NodeStep (Result ℕ CoordinatorRefusal) → World × Trace
allowed ciphers w number d = (
  world_after ciphers (running_world w) 0 d,
  trace_of (record (happenings w (allowed_word d.answer)) { grant = admission_by number d.answer }),
)

-- the coordinator allows a meter
unfoldable pub allow : Ciphers → World → ℕ → Step
allow ciphers w number =
    once_begun w (on_meter w number (λ x. at_coordinator w (λ c.
    option_map_or (λ psk. Ok
    (allowed ciphers w number
    (acts c (Err orders.Halted) (λ m. coordinator_rules.allow m x.eui psk)))) (psk_of x) (Err faults.Node))))

-- a node is given a random value
unfoldable pub rand : Ciphers → World → ℕ → RandomOctets → Step
rand ciphers w number value =
    once_begun w (on_node w number
    (λ x. Ok (node_outcome ciphers w number
    (answering random_word (acts x (Err randoms.Halted) (λ m. give_random m value))))))

-- the identity that a meter's calls are given
abbrev pub identity : Ciphers → Node → Key → meters.Identity
identity ciphers x psk = record { eui = x.eui; psk = psk; ciphers = ciphers }

-- of a meter, at an agent that has an address
abbrev pub joins_by : Ciphers → World → ℕ → Node → Option ℕ → Option Key → World × Trace
joins_by ciphers w number x None psk = (running_world w, trace_of (happenings w answers.NoAddress))
joins_by ciphers w number x (Some agent) None = (running_world w, trace_of (happenings w answers.NoAddress))
joins_by ciphers w number x (Some agent) (Some psk) =
    node_outcome ciphers w number
    (answering join_word (acts x (Err joins.Halted) (λ m. meters.join (identity ciphers x psk) m agent w.clock)))

-- a meter begins to join at an agent
unfoldable pub join : Ciphers → World → ℕ → ℕ → Step
join ciphers w number agent =
    once_begun w (on_meter w number
    (λ x. on_node w agent (λ y. Ok (joins_by ciphers w number x (node_address y) (psk_of x)))))

-- a meter leaves
unfoldable pub leave : Ciphers → World → ℕ → Step
leave ciphers w number =
    once_begun w (on_meter w number
    (λ x. Ok (node_outcome ciphers w number (answering leave_word (acts x (Err leaves.Halted) meters.leave)))))

-- # send, break

-- whether an answer takes the send
abbrev pub is_taken : Answer → Bool
is_taken answers.Sent = true
is_taken answers.Waiting = true
is_taken _ = false

-- the tag that the next datagram of a node takes
abbrev pub tag_of : Node → ℕ
tag_of x = option_map_or (λ m. m.station.next_tag) x.memory 0

-- a datagram that was taken counts as sent
abbrev pub sent_if : World → ℕ → ℕ → List ℕ → ℕ → Bool → World × Trace → World × Trace
sent_if w from to datagram tag false r = r
sent_if w from to datagram tag true r = (
  record r.0 { sends = r.0.sends + 1 },
  record r.1 { sent = Some (record { from = from; to = to; datagram = datagram; tag = tag }) },
)

-- what a node did about a datagram
abbrev pub sending : Ciphers → World → (from to : ℕ) → List ℕ → ℕ → NodeStep Answer → World × Trace
sending ciphers w from to datagram tag d = sent_if w from to datagram tag (is_taken d.answer) (node_outcome ciphers w from d)

-- to a target that has an address
abbrev pub sends_by : Ciphers → World → (from to : ℕ) → List ℕ → Node → Option ℕ → World × Trace
sends_by ciphers w from to datagram x None = (running_world w, trace_of (happenings w answers.NoAddress))
sends_by ciphers w from to datagram x (Some address) =
    sending ciphers w from to datagram (tag_of x)
    (answering sent_word
    (acts x (Err sends.Halted) (λ m. of_station m (calls.send m.station address datagram (w.sends + 1) w.clock))))

-- a datagram is to go from one node to another
unfoldable pub send : Ciphers → World → (from to : ℕ) → List ℕ → Step
send ciphers w from to datagram =
    once_begun w (on_node w from (λ x. on_node w to (λ y. Ok (sends_by ciphers w from to datagram x (node_address y)))))

-- the link to a node that has an address breaks
abbrev pub breaks_by : Ciphers → World → ℕ → Node → Option ℕ → World × Trace
breaks_by ciphers w number x None = (running_world w, trace_of (happenings w answers.NoAddress))
breaks_by ciphers w number x (Some next) =
    node_outcome ciphers w number
    (acts x answers.Halted (λ m. changing answers.Broken (with_station (calls.broke next m.station) m)))

-- a node learns that its link to another one broke
unfoldable pub breaks : Ciphers → World → ℕ → ℕ → Step
breaks ciphers w number next =
    once_begun w (on_node w number (λ x. on_node w next (λ y. Ok (breaks_by ciphers w number x (node_address y)))))

-- # deliver, inject

-- what a node makes of a frame that it accepted, under a note, by its role
abbrev pub hearing_step : Ciphers → Node → Accepted → (cost note now : ℕ) → NodeStep Reception
hearing_step ciphers x got cost note now = hearing_step_of x.role
  where
    hearing_step_of : Role → NodeStep Reception
    hearing_step_of Coordinator =
        answering coordinator_reception
        (acts x (Err drops.Store)
        (λ m. coordinator_rules.hear_coordinator (record { eui = x.eui; ciphers = ciphers }) m got cost note now))
    hearing_step_of (Meter psk) =
        answering meter_reception
        (acts x (Err drops.Store) (λ m. meters.hear_meter (identity ciphers x psk) m got cost note now))

-- the note of octets that a node accepted, and whether they are forged
abbrev pub note_by : World → List ℕ → Path → ℕ
note_by w octets (paths.Sealed from to_all key) = note_of w.flights octets key
note_by w octets (paths.Up from) = 0
note_by w octets (paths.Down from) = 0

-- whether octets that a node accepted are forged: only a sealed frame can be
abbrev pub forged_by : World → List ℕ → Path → Bool
forged_by w octets (paths.Sealed from to_all key) = is_forged_frame w.flights octets key
forged_by w octets (paths.Up from) = false
forged_by w octets (paths.Down from) = false

-- one more, where it is so
abbrev pub number_if : Bool → ℕ → ℕ
number_if test n = if test then n + 1 else n

-- what a node heard, for the report
abbrev pub handed_by : ℕ → Option Up → Option Handed
handed_by number up = option_map (λ (u : Up). record { node = number; note = u.note; octets = u.octets }) up

-- the number of a meter's node, by its EUI
abbrev pub number_of : World → Eui → ℕ
number_of w eui = option_map_or (λ n. n) (position (λ (x : Node). same_eui x.eui eui) w.nodes) 0

-- a joining that is done, by the number of its node
abbrev pub done_by : World → Option CompletedJoining → Option Pairing
done_by w done = option_map (λ (d : CompletedJoining). record { node = number_of w d.eui; agreed = d.agreed }) done

-- the keys that were sent with a grant, as issued
abbrev pub issued_of : Option SentGrant → List Issued
issued_of keyed = option_map_or (λ (k : SentGrant). issued_by k.eui k.granted) keyed []

-- what a frame led to, for the report and for the history
abbrev pub reception_trace : World → ℕ → Bool → NodeStep Reception → Trace
reception_trace w number forged d = record {
  happenings = record (happenings w d.answer.answer) {
    forged = forged;
    up = handed_by number d.answer.up;
    took = option_map (λ _. number) d.answer.took;
    done = option_map (λ (p : Pairing). p.node) (done_by w d.answer.done);
    flights = length d.frames;
  };
  sent = None;
  issued = issued_of d.answer.keyed;
  taken = option_map (λ agreed. record { node = number; agreed = agreed }) d.answer.took;
  done = done_by w d.answer.done;
  made = d.made;
  opened = d.opened;
  further = nothing_further;
}

-- what a frame led to, in the world
abbrev pub received : Ciphers → World → ℕ → Bool → NodeStep Reception → World × Trace
received ciphers w number forged d =
    let after_world = world_after ciphers (running_world w) number d in (
      record after_world {
        ups = number_if (is_some d.answer.up) w.ups;
        forged = number_if forged w.forged;
        done = number_if (is_some d.answer.done) w.done;
      },
      reception_trace w number forged d,
    )

-- a frame that was accepted is heard under its note; it is forged where it was sent by nobody, or a pair tag that was found right was
-- made by nobody
abbrev pub hearing_outcome : Ciphers → World → ℕ → Node → List ℕ → Accepted → ℕ → World × Trace
hearing_outcome ciphers w number x octets got cost =
    let d = hearing_step ciphers x got cost (note_by w octets got.path) w.clock in
    received ciphers w number (forged_by w octets got.path || list_any (is_forged_tag w.made) d.opened) d

-- a frame that was accepted is heard, another one is refused
abbrev pub accepted_by : Ciphers → World → ℕ → List ℕ → ℕ → NodeStep (Result Accepted FrameRefusal) → World × Trace
accepted_by ciphers w number octets cost d = by_answer d.answer
  where
    by_answer : Result Accepted FrameRefusal → World × Trace
    by_answer (Ok got) = hearing_outcome ciphers w number d.node octets got cost
    by_answer (Err reason) = (world_after ciphers (running_world w) number d, trace_of (happenings w (frame_word reason)))

-- octets come to a node over a link of a cost
unfoldable pub arrives : Ciphers → World → ℕ → Node → List ℕ → ℕ → World × Trace
arrives ciphers w number x octets cost =
    accepted_by ciphers w number octets cost
    (acts x (Err frames.Halted) (λ m. of_station m (accept m.station x.eui (arrived ciphers octets))))

-- a flight that was lost comes no more
abbrev pub on_flight : World → ℕ → (Flight → Step) → Step
on_flight w number step =
    option_map_or (λ f. if f.lost then Err faults.Flight else step f) (flight_at w number) (Err faults.Flight)

-- a flight comes to a node over a link of this cost
unfoldable pub deliver : Ciphers → World → (flight number cost : ℕ) → Step
deliver ciphers w flight number cost =
    once_begun w (on_node w number (λ x. on_flight w flight (λ f. Ok (arrives ciphers w number x f.octets cost))))

-- octets of the script come to a node over a link of this cost
unfoldable pub inject : Ciphers → World → (number cost : ℕ) → List ℕ → Step
inject ciphers w number cost octets = once_begun w (on_node w number (λ x. Ok (arrives ciphers w number x octets cost)))

-- a flight is lost
unfoldable pub lose : World → ℕ → Step
lose w number =
    once_begun w (on_flight w number
    (λ f. Ok (
      record (running_world w) { flights = slice_set w.flights (number - 1) (record f { lost = true }) },
      trace_of
          (happenings w answers.Lost),
    )))

-- # tick, restart, cut, show

-- what time does to a node, by its role
abbrev pub ticked : ℕ → Node → Node
ticked now x = record x { memory = option_map (tick_by x.role) x.memory }
  where
    tick_by : Role → Memory → Memory
    tick_by Coordinator m = coordinator_rules.tick now m
    tick_by (Meter psk) m = meters.tick now m

-- the clock goes on by this many seconds, for every node
unfoldable pub tick : World → ℕ → Step
tick w seconds =
    once_begun w (Ok (
      record (running_world w) { clock = w.clock + seconds; nodes = map (ticked (w.clock + seconds)) w.nodes },
      trace_of (happenings w answers.Ticked),
    ))

-- the memory that a store gives, and none where it has no reading
abbrev pub memory_by : Result Memory BadStore → Option Memory
memory_by (Ok m) = Some m
memory_by (Err bad) = None

-- the word of a restart
abbrev pub restart_word : Result Memory BadStore → Answer
restart_word (Ok m) = answers.Restarted
restart_word (Err bad) = answers.BadStore

-- a node has what its store gives, and a loss of power that is still to come stays so
abbrev pub restarts : Node → NodeStep Answer
restarts x =
    stays (record x { memory = memory_by (memory_of x.role x.store.records) })
    (restart_word (memory_of x.role x.store.records))

-- a node restarts
unfoldable pub restart : Ciphers → World → ℕ → Step
restart ciphers w number = once_begun w (on_node w number (λ x. Ok (node_outcome ciphers w number (restarts x))))

-- a node will lose power at its nth write from now on
unfoldable pub cut : Ciphers → World → ℕ → ℕ → Bool → Step
cut ciphers w number nth keeps_new =
    once_begun w (on_node w number (λ x.
    Ok (node_outcome ciphers w number
    (stays (record x {
      store = record x.store
          { cut = Some (record { nth = nth; keeps_new = keeps_new }) };
    }) answers.Set))))

-- a node shows what it holds
unfoldable pub show : World → ℕ → Step
show w number =
    once_begun w (on_node w number
    (λ x. Ok (running_world w, trace_of (record (happenings w answers.Shown) { shown = Some (shown_of x) }))))

-- # rekey, challenge, activate, kick

-- the coordinator carries out an order
abbrev pub by_coordinator : {A : Type 0} → Ciphers → World → Node → Answer
    → (Memory → Plan Memory (Result A CoordinatorRefusal)) → World × Trace
by_coordinator ciphers w c answer order =
    node_outcome ciphers w 0 (answering (ordered_word answer) (acts c (Err orders.Halted) order))

-- the coordinator draws a key for an index
unfoldable pub rekey : Ciphers → World → ℕ → Key → Step
rekey ciphers w index key =
    once_begun w (at_coordinator w
    (λ c. Ok (by_coordinator ciphers w c answers.Drawn (λ m. coordinator_rules.rekey m index key))))

-- the coordinator opens a session with a meter
unfoldable pub challenge : Ciphers → World → ℕ → Step
challenge ciphers w number =
    once_begun w (on_meter w number
    (λ x. at_coordinator w
    (λ c. Ok (by_coordinator ciphers w c answers.Challenged
    (λ m. coordinator_rules.challenge c.eui m x.eui w.clock)))))

-- the coordinator seals with another key itself, or orders a meter to
abbrev pub activate_at : Ciphers → World → ℕ → ℕ → Node → Node → World × Trace
activate_at ciphers w number index x c =
    if number == 0 then by_coordinator ciphers w c answers.Activated (λ m. coordinator_rules.activate_self m index)
    else by_coordinator ciphers w c answers.Ordered (λ m. coordinator_rules.activate m x.eui index w.clock)

-- another key is to seal, at a node
unfoldable pub activate : Ciphers → World → ℕ → ℕ → Step
activate ciphers w number index =
    once_begun w (on_node w number (λ x. at_coordinator w (λ c. Ok (activate_at ciphers w number index x c))))

-- the coordinator shuts a meter out
unfoldable pub kick : Ciphers → World → ℕ → Step
kick ciphers w number =
    once_begun w (on_meter w number
    (λ x. at_coordinator w
    (λ c. Ok (by_coordinator ciphers w c answers.Kicked (λ m. coordinator_rules.kick m x.eui)))))

-- # All kinds

-- an event, by its kind, of a line without further reach; the lines of further reach are said by `Further`
abbrev pub step : Ciphers → World → Event → Step
step ciphers w (events.Coordinator eui key) = coordinator w eui key
step ciphers w (events.Meter eui psk) = meter w eui psk
step ciphers w (events.Depot node) = depot ciphers w node
step ciphers w (events.Near a b cost) = near ciphers w a b cost
step ciphers w (events.Counter node value) = preset ciphers w node (λ l. calls.preset_counter l value)
step ciphers w (events.Number node value) = preset ciphers w node (λ l. calls.preset_number l value)
step ciphers w (events.Allow node) = allow ciphers w node
step ciphers w (events.RandomOctets node value) = rand ciphers w node value
step ciphers w (events.Join node agent) = join ciphers w node agent
step ciphers w (events.Leave node) = leave ciphers w node
step ciphers w (events.Send from to datagram) = send ciphers w from to datagram
step ciphers w (events.Deliver flight node cost) = deliver ciphers w flight node cost
step ciphers w (events.Inject node cost octets) = inject ciphers w node cost octets
step ciphers w (events.Lose flight) = lose w flight
step ciphers w (events.Break node next) = breaks ciphers w node next
step ciphers w (events.Tick seconds) = tick w seconds
step ciphers w (events.Restart node) = restart ciphers w node
step ciphers w (events.Cut node nth keeps_new) = cut ciphers w node nth keeps_new
step ciphers w (events.Rekey index key) = rekey ciphers w index key
step ciphers w (events.Challenge node) = challenge ciphers w node
step ciphers w (events.Activate node index) = activate ciphers w node index
step ciphers w (events.Kick node) = kick ciphers w node
step ciphers w (events.Show node) = show w node
step ciphers w events.Checks = Err faults.Setup
step ciphers w (events.Bcast node datagram) = Err faults.Setup
step ciphers w (events.Scan node) = Err faults.Setup
step ciphers w (events.Choose node k) = Err faults.Setup
step ciphers w (events.Path from to) = Err faults.Setup
