-- The bounds of a world's counts, which its code keeps.
use Rattle.std.specs.Prelude.{◌≡◌, ◌*◌, ◌≤◌, false, length, All, IsSome, None}
use Rattle.line_events.specs.declared.event.TheConstants.{MAX_EVENTS}
use Rattle.neighbour_checks.specs.Neighbours.{nobody}
use Rattle.node_rules.specs.Memory.{Node}
use Rattle.reach_rules.specs.ReachingNodes.{Beside}
use Rattle.line_rules.specs.Worlds.{World}

-- A node that no loss of power has halted or is to halt.
pub record IsUncut (x : Node) : Type 0 where
  pub running : IsSome x.memory
  pub cut : x.store.cut ≡ None

-- Nothing is counted more often than events allow, and as long as setup lasts no node loses power.
pub record IsBounded (w : World) : Type 0 where
  pub events : w.events ≤ MAX_EVENTS
  pub clock : w.clock ≤ 4294967296 * w.events
  pub nodes : length w.nodes ≤ 1000
  pub flights : length w.flights ≤ 24 * w.events
  pub made : length w.made ≤ 2 * w.events
  pub sends : w.sends ≤ w.events
  pub ups : w.ups ≤ w.events
  pub forged : w.forged ≤ w.events
  pub done : w.done ≤ w.events
  pub uncut : w.running ≡ false → All IsUncut w.nodes

-- a node has no open check, and lists no neighbour
abbrev pub HasNoChecks : Beside → Type 0
HasNoChecks b = b.checks ≡ nobody

-- where neighbours are not checked, no node has an open check or lists a neighbour
abbrev pub NoneChecked : World → Type 0
NoneChecked w = w.checks_on ≡ false → All HasNoChecks w.beside
