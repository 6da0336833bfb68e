use Rattle.std.proofs.Common.{◌≡◌, ◌+◌, ◌<◌, length, ap, sym, subst, arith, ◌∙◌}
use Rattle.std.proofs.lemmas.List.{length-map}
use Rattle.std.specs.List.{remove}
use Rattle.fragment_buffers.specs.PieceIntake.{blocks}
use Rattle.fragment_buffers.proofs.PieceWrites.{stays-remove}
use Rattle.station_queues.specs.Bodies.{Held, Slot}
use Rattle.station_queues.specs.BodiesInPool.{IsSound, IsHeld, body_in, bodies_in}
use Rattle.station_queues.proofs.Sound.{Returns, sound_remove, gathered_remove, bodies_remove, seen_waiting, read_slot, blocks_less}
use Rattle.station_queues.specs.FirstEnd.{IsStill}
use Rattle.station_queues.proofs.FirstEnds.{still_removed}
use Rattle.station_queues.proofs.bodies.Bodies.drop_at.Goals as goal

there : (c : goal.After-give_back) → c.args.index < length c.self.inside.waiting.items
there c = omega (arith, c.requires, ap (λ (h : Held). length h.waiting) c.self.view_is, length-map c.self.inside.waiting.items (body_in c.self.inside.pool))

held : (c : goal.After-give_back) → IsHeld c.self.inside.pool c.self.inside.reassembly c.remove-waiting.result
held c =
    subst (IsHeld c.self.inside.pool c.self.inside.reassembly)
    (read_slot c.self.inside.waiting.items c.args.index c.remove-waiting.result c.remove-waiting.ensures.value (there c) c.remove-waiting.result)
    (c.self.invariant.sound.waits c.args.index c.remove-waiting.result (there c))

returned : (c : goal.After-give_back) → Returns c.self.inside.pool c.give_back.new.pool c.self.inside.waiting.items c.args.index c.remove-waiting.result
returned c = record {
  there = there c;
  is = read_slot c.self.inside.waiting.items c.args.index c.remove-waiting.result c.remove-waiting.ensures.value (there c);
  free = c.give_back.ensures.free ∙ ap (λ n. c.self.inside.pool.free + blocks n) (held c).long;
  others = λ d ne is. stays-remove c.self.inside.pool c.give_back.new.pool _ d c.give_back.ensures.chains ne is;
}

pub returns : goal.returns
returns c =
    seen_waiting c.self.inside.pool c.give_back.new.pool c.self.inside.reassembly c.self.inside.waiting.items c.remove-waiting.new.self.items c.args.self.now _
    c.self.view_is
    (gathered_remove c.self.inside.pool c.give_back.new.pool c.self.inside.reassembly c.self.inside.waiting.items c.args.index c.remove-waiting.result
    c.self.invariant.sound (returned c))
    (ap (bodies_in c.give_back.new.pool) c.remove-waiting.ensures.items
    ∙ bodies_remove c.self.inside.pool c.give_back.new.pool c.self.inside.reassembly c.self.inside.waiting.items c.args.index c.remove-waiting.result
    c.self.invariant.sound (returned c)
    ∙ ap (λ (h : Held). remove h.waiting c.args.index) c.self.view_is)

pub invariant_of-self : goal.invariant_of-self
invariant_of-self c =
    let less = blocks_less c.self.inside.waiting.items c.remove-waiting.new.self.items c.args.index c.remove-waiting.result c.remove-waiting.ensures.items
    (there c)
    (read_slot c.self.inside.waiting.items c.args.index c.remove-waiting.result c.remove-waiting.ensures.value (there c)) in
    let size : c.div_ceil.result ≡ blocks c.remove-waiting.result.size = c.div_ceil.ensures ∙ ap (λ (v : Slot). blocks v.size) c.waiting.view_is in
    record {
      sound = subst (IsSound c.give_back.new.pool c.self.inside.reassembly) (sym c.remove-waiting.ensures.items)
          (sound_remove c.self.inside.pool c.give_back.new.pool c.self.inside.reassembly c.self.inside.waiting.items c.args.index c.remove-waiting.result
          c.self.invariant.sound (returned c));
      count = omega (arith, c.self.invariant.count, less, size);
      end = subst (IsStill c.self.inside.next_end) (sym (returns c))
          (still_removed c.args.self.now c.args.index c.self.inside.next_end (subst (IsStill c.self.inside.next_end) c.self.view_is c.self.invariant.end));
    }
