-- The flights that a script has come to nodes.
use Rattle.std.specs.Prelude.{◌≡◌, ◌≤◌, ℕ, List, Option, None, Some}
use Rattle.std.specs.Option.{option_map}
use Rattle.script_lines.specs.Lines.{Content}
use Rattle.line_events.specs.declared.event.Event.{Event}
use Rattle.line_events.specs.declared.event.Event.TheVariants as events
use Rattle.line_rules.specs.Worlds.{World, start, flight_at}
use Rattle.line_sim.specs.Scripts.{contents_of, event_in, said}
use Rattle.line_sim.specs.declared.order.Delivery.{Delivery}

-- A flight comes to a node. The sender is the node that sent the flight of that number, by the lines before; None where none has sent it.
pub record Arrival : Type 0 where
  pub flight : ℕ
  pub sender : Option ℕ
  pub node : ℕ

-- the flight that an event has come to a node
abbrev pub coming : Event → Option Delivery
coming (events.Deliver flight node cost) = Some (record { flight = flight; node = node })
coming _ = None

abbrev pub arrival_of : World → Delivery → Arrival
arrival_of w c = record { flight = c.flight; sender = option_map (λ f. f.from) (flight_at w c.flight); node = c.node }

abbrev pub arrival_by : World → Event → Option Arrival
arrival_by w event = option_map (arrival_of w) (coming event)

abbrev pub arrival_if : World → Option Event → Option Arrival
arrival_if w None = None
arrival_if w (Some event) = arrival_by w event

abbrev pub arrival_at : World → Content → Option Arrival
arrival_at w content = arrival_if w (event_in content)

-- the flights that come to nodes, one for each `deliver` of a script, in order
abbrev pub arrivals : List ℕ → List Arrival
arrivals script = said arrival_at start (contents_of script)

-- A flight comes that a line before has sent, and to another node than the one that sent it.
pub record IsCausal (a : Arrival) : Type 0 where
  pub from : ℕ
  pub sent : a.sender ≡ Some from
  pub apart : from ≡ a.node → ⊥

-- Flights of one node come to another in the order in which they were sent. A flight may come again, but not after a later one.
abbrev pub InOrder : Arrival → Arrival → Type 0
InOrder a b = a.sender ≡ b.sender → a.node ≡ b.node → a.flight ≤ b.flight
