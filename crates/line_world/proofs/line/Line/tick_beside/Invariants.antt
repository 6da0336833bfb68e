-- Up to a place, what stands beside the nodes has been told the time.
use Rattle.std.proofs.Common.{◌≡◌, length}
use Rattle.reach_rules.specs.ReachingNodes.{tick_beside}
use Rattle.line_world.specs.Lines.{world_of}
use Rattle.line_world.proofs.Places.{UpTo}
use Rattle.line_world.proofs.line.Line.tick_beside.Given as goal

abbrev pub invariant-loop-place : goal.invariant-loop-place
invariant-loop-place l = record {
  world : world_of l.self ≡ record (world_of l.initial.self) { beside = l.self.beside.items };
  beside : UpTo (tick_beside l.now) l.initial.self.beside.items l.place l.self.beside.items;
  long : length l.self.beside.items ≡ length l.initial.self.beside.items;
  end : l.place-end ≡ length l.initial.self.beside.items;
}
