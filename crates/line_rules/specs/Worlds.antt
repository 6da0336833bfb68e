-- The world: a line of nodes, what flew on it, and what its next step needs.
use Rattle.std.specs.Prelude.{ℕ, ◌-◌, Bool, false, ◌==◌, List, [], slice_get, Option, None, if◌then◌else◌}
use Rattle.plc_base.specs.declared.address.Eui.{Eui}
use Rattle.plc_base.specs.declared.key.Key.{Key}
use Rattle.plc_base.specs.declared.tags.PairTag.{PairTag}
use Rattle.eap_psk.specs.declared.server.Agreed.{Agreed}
use Rattle.line_events.specs.declared.happenings.Happenings.{Happenings}
use Rattle.node_rules.specs.Memory.{Node}
pub use Rattle.line_flights.specs.Flights.{Flight, has_octets, is_forged_frame, same_rand, same_tag, is_forged_tag}
unfoldable pub use Rattle.line_flights.specs.Flights.{note_of}
use Rattle.reach_rules.specs.ReachingNodes.{Beside}

-- The world: the clock, the nodes, the flights, and what was counted.
pub record World : Type 0 where
  -- the clock, in seconds
  pub clock : ℕ
  -- how many events were taken
  pub events : ℕ
  -- whether one of no setup kind was taken
  pub running : Bool
  -- the nodes by their numbers from 0, node 0 being the coordinator
  pub nodes : List Node
  -- the flights by their numbers from 1
  pub flights : List Flight
  -- the pair tags that were made
  pub made : List PairTag
  -- how many sends were taken, datagrams handed up, events forged and joinings done
  pub sends : ℕ
  pub ups : ℕ
  pub forged : ℕ
  pub done : ℕ
  -- whether neighbours are checked, on all nodes
  pub checks_on : Bool
  -- what each node holds beside its memory, by its number
  pub beside : List Beside

-- the world before the first event
abbrev pub start : World
start =
    record {
      clock = 0;
      events = 0;
      running = false;
      nodes = [];
      flights = [];
      made = [];
      sends = 0;
      ups = 0;
      forged = 0;
      done = 0;
      checks_on = false;
      beside = [];
    }

-- the node of a number
abbrev pub node_at : World → ℕ → Option Node
node_at w number = slice_get w.nodes number

-- the flight of a number
abbrev pub flight_at : World → ℕ → Option Flight
flight_at w number = if number == 0 then None else slice_get w.flights (number - 1)

-- # What happens at an event

-- A datagram that was sent: by which node, to which.
pub record Sending : Type 0 where
  pub from : ℕ
  pub to : ℕ
  pub datagram : List ℕ
  -- the tag that names its pieces, where it is cut
  pub tag : ℕ

-- A key that was given to a meter, at an index.
pub record Issued : Type 0 where
  pub eui : Eui
  pub index : ℕ
  pub key : Key

-- A joining that a meter took, or that the coordinator has done with it: the random values of both ends.
pub record Pairing : Type 0 where
  pub node : ℕ
  pub agreed : Agreed

-- # What is reported of further reach

-- A broadcast that was sent: by which node, at which address, with which number.
pub record Broadcasting : Type 0 where
  pub node : ℕ
  pub address : ℕ
  pub number : ℕ
  pub datagram : List ℕ

-- A step of a path request: from the address of the node that sends the ask on, to that of its next hop, toward the target.
pub record Stepping : Type 0 where
  pub from : ℕ
  pub to : ℕ
  pub target : ℕ

-- What a node did or heard that its checks or its scan depend on.
pub data Noticed : Type 0 where
  -- it sent a reply to a neighbour
  Replied : (node neighbour number origin : ℕ) → Noticed
  -- it heard an acknowledgement that was awaited
  Acknowledged : (node neighbour number origin : ℕ) → Noticed
  -- it began to scan
  Scans : (node : ℕ) → Noticed
  -- it took a beacon
  Heard : (node from cost link : ℕ) → Noticed

-- What the history has of an event of further reach.
pub record Further : Type 0 where
  pub broadcast : Option Broadcasting
  pub stepping : Option Stepping
  pub noticed : Option Noticed

abbrev pub nothing_further : Further
nothing_further = record { broadcast = None; stepping = None; noticed = None }

-- What an event was, for who reads the history of a run: what the report says of it, and what it does not.
pub record Trace : Type 0 where
  pub happenings : Happenings
  pub sent : Option Sending
  pub issued : List Issued
  pub taken : Option Pairing
  pub done : Option Pairing
  pub made : List PairTag
  pub opened : List PairTag
  pub further : Further
