-- What a recorder makes of events and remarks.
use Rattle.std.specs.Prelude.{◌≡◌, ⊤, ℕ, ◌-◌, ◌/◌, eqb, leb, ltb, not, ◌&&◌, ◌||◌, cond, Bool, true, false, List, [], ◌∷◌, ◌++◌, length, Option, None, Some}
use Rattle.std.specs.Prelude.{option_map}
use Rattle.std.specs.Prelude.{Result, Ok, Err}
use Rattle.std.specs.List.{list_any}
use Rattle.std.specs.Option.{unwrap_or}
use Rattle.std.specs.BTreeMap.{insert_entry, is_at}
use Rattle.std.specs.Map.{lookup}
use Rattle.line_air.specs.Counts.{way_cmp}
use Rattle.line_events.specs.declared.event.Event.{Event}
use Rattle.line_events.specs.declared.event.Event.TheVariants as events
use Rattle.line_events.specs.declared.event.StepFault.{StepFault}
use Rattle.line_events.specs.declared.event.StepFault.TheVariants as steps
use Rattle.line_events.specs.declared.event.TheConstants.{MAX_EVENTS}
use Rattle.node_rules.specs.Ciphers.{network}
use Rattle.line_rules.specs.Further.{line_step}
use Rattle.line_rules.specs.Worlds.{World, Trace, flight_at}
use Rattle.line_script.specs.Lines.{line_of}
use Rattle.line_simulation.specs.declared.recording.RecordFault.{RecordFault}
use Rattle.line_simulation.specs.declared.recording.RecordFault.TheVariants as faults
use Rattle.line_simulation.specs.Facts.{facts_of}
use Rattle.line_simulation.specs.Recorders.{Recorder, Recorded as Answer, Taken, Refused, Full, Remarked, Written, Unwritten}
use Rattle.line_sim.specs.declared.order.Delivery.{Delivery}
use Rattle.line_sim.specs.Arrivals.{coming}
use Rattle.line_sim.specs.Recorders.{Ordered, Recorded}
use Rattle.line_sim.specs.Scripts.{is_injection}
use Rattle.line_sim.specs.Times.{is_tick, remark_line}

-- # Which events lines can say

abbrev pub are_line_octets : List ℕ → Bool
are_line_octets octets = ltb 0 (length octets) && leb (length octets) 2048

abbrev pub is_within : ℕ → ℕ → Bool
is_within number bound = ltb 0 number && leb number bound

-- whether a line can say an event; all but lengths and a few numbers follow from its types
abbrev pub is_said : Event → Bool
is_said (events.Number node value) = ltb 0 value
is_said (events.Send from to datagram) = are_line_octets datagram
is_said (events.Inject node cost octets) = are_line_octets octets
is_said (events.Tick seconds) = is_within seconds 86400
is_said (events.Cut node nth keeps_new) = is_within nth 1000
is_said (events.Bcast node datagram) = are_line_octets datagram
is_said (events.Choose node k) = is_within k 16
is_said _ = true

-- whether a recorder takes an event, which injects octets only where it may
abbrev pub may_take : Bool → Event → Bool
may_take injects event = cond (not injects && is_injection event) false (is_said event)

-- # The order of lines

-- A line may come next, or the order does not allow it. What is left is the order after that.
pub data Turn : Type 0 where
  May : (after : Ordered) → Turn
  MayNot : (after : Ordered) → Turn

-- the flight that came last from a node to another, 0 where none did
abbrev pub last_in : List ((ℕ × ℕ) × ℕ) → ℕ → ℕ → ℕ
last_in last from to = unwrap_or (lookup (is_at (way_cmp (from, to))) last) 0

abbrev pub brought_by : ℕ → Delivery → Ordered → Ordered
brought_by from c o = record o { last = insert_entry way_cmp o.last (from, c.node) c.flight }

-- a flight comes to another node than its sender, and no later one of that sender came there
abbrev pub brings : ℕ → Delivery → Ordered → Turn
brings from c o = cond (eqb from c.node) (MayNot o) (cond (ltb c.flight (last_in o.last from c.node)) (MayNot o) (May (brought_by from c o)))

abbrev pub brings_from : Option ℕ → Delivery → Ordered → Turn
brings_from None c o = MayNot o
brings_from (Some from) c o = brings from c o

abbrev pub comes : World → Option Delivery → Ordered → Turn
comes w None o = May o
comes w (Some c) o = brings_from (option_map (λ f. f.from) (flight_at w c.flight)) c o

abbrev pub at_second : World → Ordered → Ordered
at_second w o = record o { second = w.clock }

-- a tick may always come, and another event at no earlier second than the line before
abbrev pub event_turn : World → Event → Ordered → Turn
event_turn w event o =
    cond (is_tick event) (May o) (cond (ltb w.clock o.second) (MayNot o) (comes w (coming event) (at_second w o)))

abbrev pub remark_turn : ℕ → Ordered → Turn
remark_turn at o =
    cond (ltb at o.remarked || ltb (at / 1000) o.second) (MayNot o) (May (record o { remarked = at; second = at / 1000 }))

abbrev pub TurnsNot : RecordFault → Turn → Ordered → Type 0
TurnsNot faults.Full turn o = ⊥
TurnsNot faults.Refused turn o = turn ≡ MayNot o
TurnsNot faults.Memory turn o = ⊤

-- a call answers and leaves what a turn says; nothing is said where memory ran out
abbrev pub TurnsAs : Result (Unit {0}) RecordFault → Turn → Ordered → Type 0
TurnsAs (Ok u) turn o = turn ≡ May o
TurnsAs (Err fault) turn o = TurnsNot fault turn o

abbrev pub turn_of : Bool → Ordered → Turn
turn_of true o = May o
turn_of false o = MayNot o

-- # The script

abbrev pub has_feed : List ℕ → Bool
has_feed octets = list_any (λ x. eqb x 10) octets

-- a line of at most 4,096 octets is appended where it is one line, and the script has at most 67,108,864 octets then
abbrev pub appended : List ℕ → List ℕ → Option (List ℕ)
appended script line =
    cond (ltb 4096 (length line) || has_feed line) None
    (cond (leb (67108864 - length script) (length line)) None (Some (script ++ (line ++ 10 ∷ []))))

abbrev pub AppendsNot : RecordFault → Option (List ℕ) → Type 0
AppendsNot faults.Full appended = appended ≡ None
AppendsNot faults.Refused appended = ⊥
AppendsNot faults.Memory appended = ⊤

-- a call leaves the script with a line more, or the line is not appended; nothing is said where memory ran out
abbrev pub AppendsAs : Result (Unit {0}) RecordFault → Option (List ℕ) → List ℕ → Type 0
AppendsAs (Ok u) appended script = appended ≡ Some script
AppendsAs (Err fault) appended script = AppendsNot fault appended

-- # What becomes of events and remarks

-- why an event is not recorded that the world does not take
abbrev pub fault_of : StepFault → RecordFault
fault_of steps.Memory = faults.Memory
fault_of _ = faults.Refused

abbrev pub with_order : Ordered → Recorded → Recorded
with_order o r = record r { order = o }

abbrev pub step_answer : List ℕ → Result (World × Trace) StepFault → Recorded → Answer Recorded
step_answer script (Ok (w, trace)) r = Taken (record r { script = script; world = w }) (facts_of trace.happenings)
step_answer script (Err fault) r = Refused r

abbrev pub line_answer : Event → Option (List ℕ) → Recorded → Answer Recorded
line_answer event None r = Full r
line_answer event (Some script) r = step_answer script (line_step network r.world event) r

abbrev pub turn_answer : Event → Turn → Recorded → Answer Recorded
turn_answer event (May o) r = line_answer event (appended r.script (line_of event)) (with_order o r)
turn_answer event (MayNot o) r = Refused (with_order o r)

-- an event of a run that is not at its end, which a line can say, and which the order allows: the world steps it, and its line is appended
unfoldable pub recorded : Bool → Event → Recorded → Answer Recorded
recorded injects event r =
    cond (leb MAX_EVENTS r.world.events) (Full r)
    (cond (may_take injects event) (turn_answer event (event_turn r.world event r.order) r) (Refused r))

abbrev pub remark_answer : Option (List ℕ) → Recorded → Remarked Recorded
remark_answer None r = Unwritten r
remark_answer (Some script) r = Written (record r { script = script })

abbrev pub remark_turned : ℕ → List ℕ → Turn → Recorded → Remarked Recorded
remark_turned at text (May o) r = remark_answer (appended r.script (remark_line at text)) (with_order o r)
remark_turned at text (MayNot o) r = Unwritten (with_order o r)

unfoldable pub remarked : ℕ → List ℕ → Recorded → Remarked Recorded
remarked at text r = remark_turned at text (remark_turn at r.order) r

-- the recorder of the world
abbrev pub world_recorder : Bool → Recorder Recorded
world_recorder injects =
    record {
      recorded = recorded injects;
      remarked = remarked;
      flight = λ number r. option_map (λ f. f.octets) (flight_at r.world number);
      sender = λ number r. option_map (λ f. f.from) (flight_at r.world number);
      flights = λ r. length r.world.flights;
      clock = λ r. r.world.clock;
      room = λ r. MAX_EVENTS - r.world.events;
    }
