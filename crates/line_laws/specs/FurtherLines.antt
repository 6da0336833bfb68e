-- What holds of a line of nodes, forged or not, holds after the events of further reach.
use Rattle.std.specs.Prelude.{◌≡◌, ℕ, ◌+◌, ◌≤◌, true, All, length, Ok, List, Option, Some, None, Err}
use Rattle.store_tables.specs.Writes.{puts_of}
use Rattle.broadcast_log.specs.declared.broadcast.Broadcast.{Broadcast}
use Rattle.broadcast_log.specs.OriginMarks.{keep_write}
use Rattle.reach_rules.specs.Broadcasts.{broadcast_fault}
use Rattle.reach_rules.specs.ReachingNodes.{Beside}
use Rattle.reach_rules.specs.FurtherReceptions.{NeighbourCommand}
use Rattle.line_laws.specs.Keyed.{Each}
use Rattle.line_laws.specs.Later.{Keeps}
use Rattle.node_rules.specs.Ciphers.{network}
use Rattle.node_rules.specs.MemoryDrafts.{in_memory}
use Rattle.reach_rules.specs.declared.refusal.BroadcastRefusal.TheVariants as broadcasts_by
use Rattle.reach_rules.specs.declared.refusal.AskRefusal.TheVariants as asks_of
use Rattle.reach_rules.specs.Broadcasts.{broadcast}
use Rattle.reach_rules.specs.PathRequests.{ask_path}
use Rattle.line_rules.specs.Further.{reaches}
use Rattle.line_rules.specs.Steps.{Step, world_after}
use Rattle.line_laws.specs.Later.{IsOfLog}
use Rattle.node_rules.specs.Ciphers.{Ciphers}
use Rattle.node_rules.specs.Memory.{Memory, Node}
use Rattle.line_rules.specs.Further.{beside_at, broadcasts_by, asks_by, scans_by, discovers_by, commanded, line_step}
use Rattle.line_rules.specs.Worlds.{World, Trace, node_at}
use Rattle.line_laws.specs.Lines.{FlightFits, WorldOk}
use Rattle.plc_base.specs.Keeper.{Records}
use Rattle.broadcast_log.specs.Laws.{IsLogIn}
use Rattle.line_events.specs.declared.event.Event.{Event}
use Rattle.line_events.specs.Events.{IsEvent}
use Rattle.line_rules.specs.Runs.{Entry, IsLineRun}
use Rattle.line_rules.specs.Logs.{CommandsAreOctets, HaveShortTables, LogsKept}
use Rattle.line_rules.specs.Nonces.{IsSpelled}
use Rattle.pan_discovery.specs.declared.message.Discovery.{Discovery}
use Rattle.pan_discovery.specs.Messages.{IsDiscovery}
use Rattle.reach_rules.specs.Beacons.{hear_discovery}
use Rattle.line_laws.specs.Live.{MarksRise}
use Rattle.line_laws.specs.Owed.{AreOctets, KeepsRanges}

-- the line holds, and no more than 24 frames were sent
abbrev pub LineHolds : World × Trace → Type 0
LineHolds r = WorldOk r.0 × (r.1.happenings.flights ≤ 24)

-- so it is after a broadcast and an ask, for any ciphers that keep their ranges, and whatever power is lost
abbrev pub CallsKeepTheLine : Type 0
CallsKeepTheLine =
    (ciphers : Ciphers) → KeepsRanges ciphers → (w : World) → WorldOk w → (number : ℕ) (x : Node) → node_at w number ≡ Some x
    → ((datagram : List ℕ) → LineHolds (broadcasts_by ciphers w number x datagram))
    × ((target : Option ℕ) → LineHolds (asks_by ciphers w number x target))

-- and after a scan that begins, and octets of discovery that come
abbrev pub DiscoveryKeepsTheLine : Type 0
DiscoveryKeepsTheLine =
    (w : World) → WorldOk w → (number : ℕ) (x : Node) → node_at w number ≡ Some x
    → LineHolds (scans_by w number x.memory) × ((octets : List ℕ) (link : ℕ) → LineHolds (discovers_by w number x octets link x.memory))

-- what is stored for the mark of a broadcast that is admitted stands at a slot of the log
abbrev pub LogFits : Beside → Type 0
LogFits b = (own : ℕ) (c : Broadcast) → broadcast_fault own b.log c ≡ None → Each IsOfLog (puts_of (keep_write b.log.marks c.origin c.number))

-- and after a command that was heard, where without further reach its frame led to nothing
abbrev pub CommandsKeepTheLine : Type 0
CommandsKeepTheLine =
    (ciphers : Ciphers) → KeepsRanges ciphers → (r : World × Trace) → WorldOk r.0 → r.0.running ≡ true → r.1.happenings.flights ≡ 0
    → (number : ℕ) (x : Node) → node_at r.0 number ≡ Some x → ((m : Memory) → x.memory ≡ Some m → LogFits (beside_at r.0 number)) → (c : NeighbourCommand)
    → LineHolds (commanded ciphers number x c r)

-- where a log is what the records give, this is so
abbrev pub LogsFit : Type 0
LogsFit = (b : Beside) (records : Records) → IsLogIn b.log records → LogFits b

-- # Every event

-- what is taken holds, and the flights that an event says are those that it adds
abbrev pub StepHolds : World → Step → Type 0
StepHolds w (Ok r) = LineHolds r × (length r.0.flights ≡ length w.flights + r.1.happenings.flights)
StepHolds w (Err fault) = Unit {0}

-- The line holds after every event of a line with further reach, for any ciphers that keep their ranges, and whatever power is lost: where it
-- held before, the octets of the flights are octets, and the log of each node is what its store gives.
abbrev pub LineStepsHold : Type 0
LineStepsHold =
    (ciphers : Ciphers) → KeepsRanges ciphers → (w : World) → WorldOk w → All FlightFits w.flights → LogsKept w → (event : Event) → IsEvent event
    → StepHolds w (line_step ciphers w event)

-- and a command that comes is octets, as that law asks too
abbrev pub CommandsFit : Type 0
CommandsFit =
    (ciphers : Ciphers) → KeepsRanges ciphers → (w : World) → WorldOk w → All FlightFits w.flights → (event : Event) → IsEvent event
    → CommandsAreOctets ciphers w event

-- what is taken keeps the logs
abbrev pub LogsHold : Step → Type 0
LogsHold (Ok r) = LogsKept r.0
LogsHold (Err fault) = Unit {0}

-- so every event of such a line does
abbrev pub LineLogsHold : Type 0
LineLogsHold =
    (ciphers : Ciphers) → KeepsRanges ciphers → (w : World) → WorldOk w → All FlightFits w.flights → LogsKept w → (event : Event) → IsEvent event
    → LogsHold (line_step ciphers w event)

-- # Runs

-- What holds after each event.
pub record HoldsAfter (x : Entry) : Type 0 where
  pub line : WorldOk x.after
  pub octets : All FlightFits x.after.flights
  pub logs : LogsKept x.after
  pub few : x.trace.happenings.flights ≤ 24

-- In every run of the network, forged or not, the line holds, what flies is octets, the log of each node is what its store
-- gives, and no event sends more than 24 frames.
abbrev pub EveryRunHolds : Type 0
EveryRunHolds = (entries : List Entry) → IsLineRun network entries → All HoldsAfter entries

-- what the nodes of a world send of discovery can be spelled
abbrev pub BeaconsAreSpelled : World → Type 0
BeaconsAreSpelled w =
    (number : ℕ) (x : Node) (m : Memory) (octets : List ℕ) (link : ℕ) (frame : Discovery) → node_at w number ≡ Some x → x.memory ≡ Some m
    → (hear_discovery x.role m.station (beside_at w number).scan octets link).sent ≡ Some frame → IsDiscovery frame

-- so it is of a line that holds
abbrev pub LinesSpellBeacons : Type 0
LinesSpellBeacons = (w : World) → WorldOk w → BeaconsAreSpelled w

-- the flights after a step are what their keys say
abbrev pub FlightsSpelled : Ciphers → Step → Type 0
FlightsSpelled ciphers (Ok r) = All (IsSpelled ciphers) r.0.flights
FlightsSpelled ciphers (Err fault) = Unit {0}

-- every event keeps that each flight is what its key says: a sealed frame, a plain one, or one of discovery
abbrev pub LineStepsSpell : Type 0
LineStepsSpell =
    (ciphers : Ciphers) → KeepsRanges ciphers → (w : World) → WorldOk w → All FlightFits w.flights → LogsKept w
    → All (IsSpelled ciphers) w.flights → (event : Event) → IsEvent event → FlightsSpelled ciphers (line_step ciphers w event)

-- no mark of a node falls
abbrev pub RisesIn : World → Step → Type 0
RisesIn w (Ok r) = MarksRise w r.0
RisesIn w (Err fault) = Unit {0}

-- so it is at every event, over restarts and failed writes
abbrev pub LineStepsRise : Type 0
LineStepsRise =
    (ciphers : Ciphers) → KeepsRanges ciphers → (w : World) → WorldOk w → All FlightFits w.flights → LogsKept w → (event : Event) → IsEvent event
    → RisesIn w (line_step ciphers w event)

-- so the tables of its nodes are short, as the law of the logs asks
abbrev pub TablesAreShort : Type 0
TablesAreShort = (w : World) → WorldOk w → HaveShortTables w

-- # Before the first forged event

-- a broadcast of octets and an ask keep all that the laws rest on
abbrev pub CallsKeepAll : Type 0
CallsKeepAll =
    (w : World) (number : ℕ) (x : Node) (b : Beside) → w.running ≡ true → node_at w number ≡ Some x
    → ((datagram : List ℕ) → AreOctets datagram
    → Keeps w (world_after network w number (reaches x b (Err broadcasts_by.Halted) (λ y. broadcast in_memory y datagram))))
    × ((target : ℕ) → Keeps w (world_after network w number (reaches x b (Err asks_of.Halted) (λ y. ask_path in_memory y target))))
