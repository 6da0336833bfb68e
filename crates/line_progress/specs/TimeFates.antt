-- What time ends, and what it leaves.
use Rattle.std.specs.Prelude.{◌≡◌, ℕ, ◌+◌, true, Some, Ok}
use Rattle.fragment_buffers.specs.Reassembly.{Reassembly}
use Rattle.fragment_buffers.specs.declared.times.TheConstants.{REASSEMBLY_TIME, WAITING_TIME}
use Rattle.node_rules.specs.Calls.{is_within, tick}
use Rattle.node_rules.specs.Ciphers.{Ciphers}
use Rattle.node_rules.specs.Memory.{StationMemory, Body}
use Rattle.line_events.specs.declared.event.Event.TheVariants as events
use Rattle.line_rules.specs.Further.{line_step}
use Rattle.line_rules.specs.Worlds.{World, Trace}
use Rattle.line_progress.specs.Lists.{Among}
use Rattle.line_progress.specs.Stations.{station_at}

-- Time ends a body that came `WAITING_TIME` ago, and a reassembly that began `REASSEMBLY_TIME` ago, and nothing else of them.
pub record TimeEndsOnlyOld (l : StationMemory) (now : ℕ) : Type 0 where
  pub bodies : (b : Body) → Among b l.waiting → is_within WAITING_TIME now b.since ≡ true → Among b (tick now l).waiting
  pub pieces : (r : Reassembly) → Among r l.reassemblies → is_within REASSEMBLY_TIME now r.since ≡ true → Among r (tick now l).reassemblies

abbrev pub TicksHaveFates : Type 0
TicksHaveFates = (l : StationMemory) (now : ℕ) → TimeEndsOnlyOld l now

-- # In an event of a line

-- Time does to each node that runs what it does to its station.
abbrev pub TimeComesToAll : Type 0
TimeComesToAll =
    (ciphers : Ciphers) (w v : World) (seconds : ℕ) (d : Trace) → line_step ciphers w (events.Tick seconds) ≡ Ok (v, d)
    → (number : ℕ) (l : StationMemory) → station_at w number ≡ Some l → station_at v number ≡ Some (tick (w.clock + seconds) l)
