-- What becomes of frames of discovery, by what the code tests.
use Rattle.std.specs.Prelude.{◌≡◌, ◌++◌, ℕ, Option, Some, None, Err, if◌then◌else◌}
use Rattle.plc_base.specs.declared.key.Key.{Key}
use Rattle.pan_discovery.specs.declared.message.Discovery.{Discovery}
use Rattle.node_rules.specs.Ciphers.{network}
use Rattle.node_rules.specs.Memory.{StationMemory, Memory, Node, Role}
use Rattle.node_rules.specs.Meters as meters
use Rattle.node_rules.specs.NodeSteps.{acts, answering}
use Rattle.node_rules.specs.declared.refusal.JoinRefusal.TheVariants as joins
use Rattle.reach_rules.specs.declared.refusal.DiscoveryDropped.TheVariants as drops
use Rattle.reach_rules.specs.Beacons.{chosen, hear_beacon, hear_discovery_in, takes_beacon, stays}
use Rattle.reach_rules.specs.Beacons as beacons
use Rattle.reach_rules.specs.ReachingNodes.{Beside}
use Rattle.line_events.specs.declared.event.Answer.{Answer}
use Rattle.line_events.specs.declared.event.Answer.TheVariants as answers
use Rattle.line_rules.specs.Answers.{discovery_word, join_word}
use Rattle.line_rules.specs.Further.{agent_line, beacon_taken, beside_at, discovery_flights, has_discovered, set_beside}
use Rattle.line_rules.specs.Steps.{happenings, identity, running_world, node_trace, world_after, trace_of}
use Rattle.line_rules.specs.Worlds.{World, Trace}

-- a frame of discovery flies, and the event counts
abbrev pub flies_in : World → ℕ → Option Discovery → World
flies_in w number frame = record (running_world w) { flights = w.flights ++ discovery_flights number frame }

-- what a node that is not halted makes of a frame
abbrev pub discovers_in : World → ℕ → Role → StationMemory → Option Discovery → (link : ℕ) → World × Trace
discovers_in w number role l frame link =
    has_discovered w number discovery_word (beacon_taken number frame link)
    (hear_discovery_in role l (beside_at w number).scan frame link)

-- what a node makes of it
abbrev pub discovered_by : World → ℕ → Node → Option Memory → Option Discovery → (link : ℕ) → World × Trace
discovered_by w number x None frame link = (running_world w, trace_of (happenings w answers.Halted))
discovered_by w number x (Some m) frame link = discovers_in w number x.role m.station frame link

abbrev pub discovered_in : World → ℕ → Node → Option Discovery → (link : ℕ) → World × Trace
discovered_in w number x frame link = discovered_by w number x x.memory frame link

-- what a node answers to a beacon, and the scan that stands beside it then
pub record HearsBeacon (w : World) (number : ℕ) (l : StationMemory) (pan from cost link : ℕ) (answer : Answer) (new : World) : Type 0 where
  pub answer_is : answer ≡ discovery_word (hear_beacon l (beside_at w number).scan pan from cost link).answer
  pub world_is : new ≡ set_beside number
      (record (beside_at w number) { scan = (hear_beacon l (beside_at w number).scan pan from cost link).scan }) w

-- the same of one without an address, for a beacon of its network
abbrev pub taken_by : Beside → (from cost link : ℕ) → beacons.Heard
taken_by b from cost link =
    if b.scan.scanning then takes_beacon b.scan from cost link else stays b.scan (Err drops.NotScanning)

pub record TakesBeacon (w : World) (number : ℕ) (b : Beside) (from cost link : ℕ) (answer : Answer) (new : World) : Type 0 where
  pub answer_is : answer ≡ discovery_word (taken_by b from cost link).answer
  pub world_is : new ≡ set_beside number (record b { scan = (taken_by b from cost link).scan }) w

-- a meter joins by an agent that it heard
abbrev pub joins_in : World → ℕ → Node → Key → (address total : ℕ) → World × Trace
joins_in w number x psk address total =
    let d = acts x (Err joins.Halted) (λ m. meters.join (identity network x psk) m address w.clock) in
    let trace = node_trace w (answering join_word d) in (
      world_after network (running_world w) number d,
      record trace {
        happenings = record trace.happenings { agent = agent_line number (chosen (record { address = address; total = total }) d.answer) };
      },
    )
