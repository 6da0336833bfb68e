-- Up to a place, what is old has ended.
use Rattle.std.proofs.Common.{◌≡◌, length, map}
use Rattle.std.specs.Prelude.{All}
use Rattle.line_rules.specs.Steps.{ticked}
use Rattle.line_world.specs.Nodes.{of_meter}
use Rattle.line_world.specs.Soundness.{IsSoundMeter}
use Rattle.line_world.proofs.Places.{UpTo}
use Rattle.line_world.proofs.nodes.time.tick_meters.Given as goal

abbrev pub invariant-loop-place : goal.invariant-loop-place
invariant-loop-place l = record {
  nodes : UpTo (ticked l.now) (map of_meter l.initial.meters.items) l.place (map of_meter l.meters.items);
  sound : All IsSoundMeter l.meters.items;
  long : length l.meters.items ≡ length l.initial.meters.items;
  end : l.place-end ≡ length l.initial.meters.items;
}
