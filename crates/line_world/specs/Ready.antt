-- What a call of a line asks.
use Rattle.std.specs.Prelude.{◌≡◌, ◌<◌, ℕ, IfSome, length, slice_get}
use Rattle.node_rules.specs.Accepted.{Accepted}
use Rattle.line_events.specs.declared.event.TheConstants.{MAX_EVENTS}
use Rattle.line_rules.specs.Logs.{LogsKept}
use Rattle.line_world.specs.declared.line.Line.{Line}
use Rattle.line_world.specs.Arrivals.{in_run}
use Rattle.line_world.specs.Bounds.{IsBounded}
use Rattle.line_world.specs.Lines.{HasRoom, world_of}
use Rattle.line_world.specs.Receptions.{MayHear}

-- The node of this number may hear a frame, and there is room for what comes of it.
pub record ReadyToHear (l : Line) (node : ℕ) (got : Accepted) : Type 0 where
  pub room : HasRoom l
  pub there : node < length l.nodes
  pub bounds : IsBounded (in_run (world_of l))
  pub beside : length l.beside.items ≡ length l.nodes
  pub events : l.events < MAX_EVENTS
  pub accepted : IfSome (slice_get l.nodes node) (λ x. MayHear x got)
  pub logs : LogsKept (world_of l)
