use Rattle.std.proofs.Common.{sym, subst, ap}
use Rattle.fragment_buffers.specs.Entries.{reassemblies_in}
use Rattle.station_queues.proofs.Sound.{seen_moved, sound_moves, bounded_none}
use Rattle.station_queues.specs.FirstEnd.{IsStill}
use Rattle.station_queues.proofs.FirstEnds.{still_cleared}
use Rattle.station_queues.proofs.bodies.Bodies.clear_gathered.Goals as goal

pub returns : goal.returns
returns c =
    seen_moved c.self.inside.pool c.clear.new.pool c.self.inside.reassembly c.clear.new.self c.self.inside.waiting.items c.args.self.now _ c.self.view_is
    c.self.invariant.sound
    c.clear.ensures.moves (ap (reassemblies_in c.clear.new.pool) c.clear.ensures.empty)

pub invariant_of-self : goal.invariant_of-self
invariant_of-self c = record {
  sound = sound_moves c.self.inside.pool c.clear.new.pool c.self.inside.reassembly c.clear.new.self c.self.inside.waiting.items c.self.invariant.sound
      c.clear.ensures.keeps
      (bounded_none c.clear.new.self c.clear.ensures.empty) c.clear.ensures.moves;
  count = c.self.invariant.count;
  end = subst (IsStill c.self.inside.next_end) (sym (returns c))
      (still_cleared c.args.self.now c.self.inside.next_end (subst (IsStill c.self.inside.next_end) c.self.view_is c.self.invariant.end));
}
