use Rattle.std.proofs.Common.{sym, subst, ap, ◌∙◌}
use Rattle.fragment_buffers.specs.PieceIntake.{taken}
use Rattle.station_queues.specs.Bodies.{Held}
use Rattle.station_queues.proofs.Sound.{seen_moved, sound_moves}
use Rattle.station_queues.specs.FirstEnd.{IsStill}
use Rattle.station_queues.proofs.FirstEnds.{still_taken_in}
use Rattle.station_queues.proofs.bodies.Bodies.gather.Goals as goal

pub returns-clause-held : goal.returns-clause-held
returns-clause-held c =
    seen_moved c.self.inside.pool c.take.new.pool c.self.inside.reassembly c.take.new.self c.self.inside.waiting.items c.args.self.now _ c.self.view_is
    c.self.invariant.sound
    c.take.ensures.moves (c.take.ensures.gathered
    ∙ ap (λ (h : Held). (taken h.reassemblies c.args.origin c.args.piece.now c.args.note c.args.now).held) c.self.view_is)

pub invariant_of-self : goal.invariant_of-self
invariant_of-self c = record {
  sound = sound_moves c.self.inside.pool c.take.new.pool c.self.inside.reassembly c.take.new.self c.self.inside.waiting.items c.self.invariant.sound
      c.take.ensures.keeps
      c.take.ensures.bounded c.take.ensures.moves;
  count = c.self.invariant.count;
  end = subst (IsStill c.earlier_end-self-inside.result) (sym (returns-clause-held c))
      (still_taken_in c.args.self.now c.args.origin c.args.piece.now c.args.note c.args.now c.self.inside.next_end c.earlier_end-self-inside.result
      c.earlier_end-self-inside.ensures
      (subst (IsStill c.self.inside.next_end) c.self.view_is c.self.invariant.end));
}
