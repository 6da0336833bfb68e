use Rattle.std.proofs.Common.{Some, refl, ap, ◌∙◌}
use Rattle.fragment_buffers.specs.PieceIntake.{taken}
use Rattle.station_queues.specs.Bodies.{Held}
use Rattle.plc_station.specs.StationViews.{station_in}
use Rattle.plc_station.proofs.CarriedPlans.{on_memory, station_is}
use Rattle.plc_station.proofs.GatheredPieces.{gathered_is, changed, still}
use Rattle.plc_station.proofs.station.Station.gather.Goals as goal

pub returns-clause-carries : goal.returns-clause-carries
returns-clause-carries g c =
    let t = taken c.self.inside.bodies.reassemblies c.args.from c.args.piece.now c.args.note c.args.now in
    rw (← c.self.view_is)
    (on_memory c.self.inside.halted _ _ (λ running. rw (
      gathered_is (station_in c.self.inside.parts c.self.inside.bodies) c.args.from t,
      c.came.ensures,
      c.octets.ensures.value,
      c.gather-taken.ensures.answer,
      c.gather-taken.ensures.datagram,
      c.requires.ready.empty,
    )
    (changed _ _ _ _ _ refl refl
    (still c.self.inside.halted _ _ running
    ∙ ap Some (station_is _ _ refl refl refl refl refl refl (ap (λ (h : Held). h.reassemblies) c.gather-taken.ensures.held)
    (ap (λ (h : Held). h.waiting) c.gather-taken.ensures.held))))))
