-- What most events leave of what waits and what is held.
use Rattle.std.specs.Prelude.{◌≡◌, ◌≢◌, ℕ, Bool, true, false, List, ◌++◌, Some, Ok}
use Rattle.node_rules.specs.Ciphers.{Ciphers}
use Rattle.node_rules.specs.Memory.{StationMemory, Body}
use Rattle.line_events.specs.declared.event.Event.{Event}
use Rattle.line_events.specs.declared.event.Event.TheVariants as events
use Rattle.line_rules.specs.Further.{line_step}
use Rattle.line_rules.specs.Worlds.{World, Trace}
use Rattle.line_progress.specs.Stations.{station_at}

-- A station holds all that it held: what waits has at most more after it, and what is gathered is the same.
pub record KeepsHeld (l now : StationMemory) : Type 0 where
  pub more : List Body
  pub waiting : now.waiting ≡ l.waiting ++ more
  pub reassemblies : now.reassemblies ≡ l.reassemblies

-- the kinds of events in which a body may leave or end, or a piece be handed up or end, at a node that runs on
abbrev pub may_end_held : Event → Bool
may_end_held (events.Leave node) = true
may_end_held (events.Deliver flight node cost) = true
may_end_held (events.Inject node cost octets) = true
may_end_held (events.Tick seconds) = true
may_end_held (events.Restart node) = true
may_end_held _ = false

-- Whatever power is lost, and whatever is forged: in an event of any other kind each node that runs before and after it holds all that it held.
abbrev pub EventsKeepHeld : Type 0
EventsKeepHeld =
    (ciphers : Ciphers) (w v : World) (event : Event) (d : Trace) → may_end_held event ≡ false → line_step ciphers w event ≡ Ok (v, d)
    → (number : ℕ) (l now : StationMemory) → station_at w number ≡ Some l → station_at v number ≡ Some now → KeepsHeld l now

-- # Other nodes

-- the event is one of these five kinds but `tick`, at another node
abbrev pub IsElsewhere : Event → ℕ → Type 0
IsElsewhere (events.Leave node) number = number ≢ node
IsElsewhere (events.Deliver flight node cost) number = number ≢ node
IsElsewhere (events.Inject node cost octets) number = number ≢ node
IsElsewhere (events.Restart node) number = number ≢ node
IsElsewhere _ number = ⊥

-- Such an event leaves a node as it is.
abbrev pub EventsLeaveOthers : Type 0
EventsLeaveOthers =
    (ciphers : Ciphers) (w v : World) (event : Event) (d : Trace) → line_step ciphers w event ≡ Ok (v, d)
    → (number : ℕ) → IsElsewhere event number → station_at v number ≡ station_at w number
