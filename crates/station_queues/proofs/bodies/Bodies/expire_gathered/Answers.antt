use Rattle.std.proofs.Common.{sym, subst, ap, ◌∙◌, List}
use Rattle.fragment_buffers.specs.PieceIntake.{unexpired}
use Rattle.fragment_buffers.specs.Reassembly.{Reassembly}
use Rattle.station_queues.specs.Bodies.{Held}
use Rattle.station_queues.proofs.Sound.{seen_moved, sound_moves}
use Rattle.station_queues.specs.FirstEnd.{IsStill}
use Rattle.station_queues.proofs.FirstEnds.{still_left}
use Rattle.station_queues.proofs.bodies.Bodies.expire_gathered.Goals as goal

pub returns : goal.returns
returns c =
    seen_moved c.self.inside.pool c.expire.new.pool c.self.inside.reassembly c.expire.new.self c.self.inside.waiting.items c.args.self.now _ c.self.view_is
    c.self.invariant.sound
    c.expire.ensures.moves (c.expire.ensures.gathered
    ∙ ap (λ (es : List Reassembly). unexpired es c.args.now) (ap (λ (h : Held). h.reassemblies) c.self.view_is))

pub invariant_of-self : goal.invariant_of-self
invariant_of-self c = record {
  sound = sound_moves c.self.inside.pool c.expire.new.pool c.self.inside.reassembly c.expire.new.self c.self.inside.waiting.items c.self.invariant.sound
      c.expire.ensures.keeps
      c.expire.ensures.bounded c.expire.ensures.moves;
  count = c.self.invariant.count;
  end = subst (IsStill c.self.inside.next_end) (sym (returns c))
      (still_left c.args.self.now c.args.now c.self.inside.next_end (subst (IsStill c.self.inside.next_end) c.self.view_is c.self.invariant.end));
}
