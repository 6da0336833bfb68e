use Rattle.std.proofs.Common.{◌≡◌, ◌<◌, ◌∷◌, [], length, take, ap, arith, ◌∙◌}
use Rattle.std.proofs.lemmas.List.{length-append, length-map}
use Rattle.station_queues.specs.Bodies.{Held}
use Rattle.station_queues.specs.BodiesInPool.{body_in}
use Rattle.station_queues.specs.Frames.{body_at}
use Rattle.fragment_buffers.specs.WaitingBodies.{leaving}
use Rattle.station_queues.proofs.Leaves.{leaving-none, leaving-suc, leaving-all, few-units}
use Rattle.station_queues.proofs.bodies.Bodies.units_for.Goals as goal

pub loop-index-init : goal.loop-index-init
loop-index-init c = record { few = omega arith; units = λ own hop. ap length (leaving-none own c.args.dest hop) }

pub loop-index-preserved : goal.loop-index-preserved
loop-index-preserved c =
    let here : c.loop-index.index < length c.args.self.now.waiting =
    omega (
      arith,
      c.loop-index-test.true,
      c.len-index-end.ensures.value,
      ap (λ (h : Held). length h.waiting) c.self.view_is,
      length-map c.self.inside.waiting.items (body_in c.self.inside.pool),
    ) in
    record {
      few = omega (arith, c.loop-index.invariant.few, c.units_if-units.ensures.few);
      units = λ own hop. omega (
        arith,
        c.loop-index.invariant.units own hop,
        c.units_if-units.ensures.units own hop,
        ap length (leaving-suc own c.args.dest hop c.args.self.now.waiting c.loop-index.index here),
        length-append (leaving own c.args.dest hop (take c.loop-index.index c.args.self.now.waiting))
            (leaving own c.args.dest hop (body_at c.args.self.now.waiting c.loop-index.index ∷ [])),
      );
    }

pub returns-clause-few : goal.returns-clause-few
returns-clause-few c =
    let end : c.loop-index.units ≡ length (leaving 0 c.args.dest 0 c.args.self.now.waiting) = c.loop-index.invariant.units 0 0
    ∙ ap length (leaving-all 0 c.args.dest 0 c.args.self.now.waiting c.loop-index.index
    (omega (
      arith,
      c.loop-index-test.false,
      c.len-index-end.ensures.value,
      ap (λ (h : Held). length h.waiting) c.self.view_is,
      length-map c.self.inside.waiting.items (body_in c.self.inside.pool),
    ))) in
    omega (
      arith,
      end,
      few-units 0 c.args.dest 0 c.self.inside.pool c.self.inside.reassembly c.self.inside.waiting.items c.args.self.now c.self.view_is
          c.self.invariant.sound (omega (arith, c.len-index-end.ensures.value, c.len-index-end.ensures.fits)),
    )
