use Rattle.std.proofs.Common.{◌≡◌, ◌++◌, Some, length, map, refl, sym, ap, ◌∙◌}
use Rattle.node_rules.specs.Ciphers.{network}
use Rattle.node_rules.specs.Frames.{spelled}
use Rattle.node_rules.specs.Memory.{StationMemory}
use Rattle.node_rules.specs.Drafts.{empty_draft, goes, leave, with_own_number, with_rank, sealed_by}
use Rattle.node_rules.specs.HearingRules.{dropped, offers}
use Rattle.station_queues.specs.Bodies.{Held}
use Rattle.fragment_buffers.specs.WaitingBodies.{leaving}
use Rattle.station_queues.specs.Frames.{frames_of}
use Rattle.node_rules.specs.Agreement.{AgreesWith}
use Rattle.plc_station.specs.Offers.{CanBeKept}
use Rattle.plc_station.specs.StationViews.{station_in}
use Rattle.plc_station.specs.SentFrames.{only_frames}
use Rattle.node_rules.specs.States.{State}
use Rattle.plc_station.proofs.CarriedPlans.{on_memory, at_some, of_some, lines_are}
use Rattle.std.specs.Prelude.{IfSome}
use Rattle.node_rules.specs.States.{unless_halted}
use Rattle.plc_station.proofs.Agreement.{agrees_counted, agrees_ranked, agrees_holding}
use Rattle.plc_station.proofs.EndedSteps.{ended, stopped, uncounted}
use Rattle.plc_station.proofs.Sealed.{sealed_alone}
use Rattle.plc_station.proofs.station.Station.learn.Goals as goal

pub keep-requires-clause-valid : goal.keep-requires-clause-valid
keep-requires-clause-valid g c =
    (of_some c.self.inside.halted (station_in c.self.inside.parts c.self.inside.bodies) (λ l. CanBeKept l.routing c.args.offer.now)
    (rw (← c.self.view_is) at c.requires.ready.running) (rw (← c.self.view_is) at c.requires.offer)).valid

pub keep-requires-clause-better : goal.keep-requires-clause-better
keep-requires-clause-better g c =
    (of_some c.self.inside.halted (station_in c.self.inside.parts c.self.inside.bodies) (λ l. CanBeKept l.routing c.args.offer.now)
    (rw (← c.self.view_is) at c.requires.ready.running) (rw (← c.self.view_is) at c.requires.offer)).better

pub keep-requires-clause-room : goal.keep-requires-clause-room
keep-requires-clause-room g c =
    (of_some c.self.inside.halted (station_in c.self.inside.parts c.self.inside.bodies) (λ l. CanBeKept l.routing c.args.offer.now)
    (rw (← c.self.view_is) at c.requires.ready.running) (rw (← c.self.view_is) at c.requires.offer)).room

pub returns-in_default-clause-carries : goal.returns-in_default-clause-carries
unfolding goes leave with_own_number with_rank empty_draft leaving
returns-in_default-clause-carries g c =
    rw (← c.self.view_is) (on_memory c.self.inside.halted _ _ (λ running. stopped dropped _ _
    (offers c.args.grant.now.address c.args.offer.now.origin c.args.offer.now.rank c.args.offer.now.by c.args.offer.now.time
    (station_in c.self.inside.parts c.self.inside.bodies))
    (offers c.args.grant.now.address c.args.offer.now.origin c.args.offer.now.rank c.args.offer.now.by c.args.offer.now.time
    (station_in c.self.inside.parts c.self.inside.bodies)) tt _ refl
    c.in_default.ensures.store c.requires.ready.empty refl))

pub returns-in_default-reserve-clause-carries : goal.returns-in_default-reserve-clause-carries
unfolding goes leave with_own_number with_rank empty_draft leaving
returns-in_default-reserve-clause-carries g c =
    let count : c.units_for-units.result
    ≡ length (offers c.args.grant.now.address c.args.offer.now.origin c.args.offer.now.rank c.args.offer.now.by c.args.offer.now.time
    (station_in c.self.inside.parts c.self.inside.bodies)).units = c.units_for-units.ensures.units c.args.grant.now.address c.args.offer.now.by in
    rw (← c.self.view_is) (on_memory c.self.inside.halted _ _ (λ running. uncounted dropped _ _
    (offers c.args.grant.now.address c.args.offer.now.origin c.args.offer.now.rank c.args.offer.now.by c.args.offer.now.time
    (station_in c.self.inside.parts c.self.inside.bodies))
    (offers c.args.grant.now.address c.args.offer.now.origin c.args.offer.now.rank c.args.offer.now.by c.args.offer.now.time
    (station_in c.self.inside.parts c.self.inside.bodies)) tt _ _ _ refl
    c.in-Ok.ensures.store count c.in_default-reserve.ensures.store c.requires.ready.empty refl))

pub returns-clause-carries : goal.returns-clause-carries
unfolding goes leave with_own_number with_rank empty_draft leaving
returns-clause-carries g c =
    let count : c.units_for-units.result
    ≡ length (offers c.args.grant.now.address c.args.offer.now.origin c.args.offer.now.rank c.args.offer.now.by c.args.offer.now.time
    (station_in c.self.inside.parts c.self.inside.bodies)).units = c.units_for-units.ensures.units c.args.grant.now.address c.args.offer.now.by in
    rw (← c.self.view_is) (on_memory c.self.inside.halted _ _ (λ running. ended dropped _ _
    (offers c.args.grant.now.address c.args.offer.now.origin c.args.offer.now.rank c.args.offer.now.by c.args.offer.now.time
    (station_in c.self.inside.parts c.self.inside.bodies))
    (offers c.args.grant.now.address c.args.offer.now.origin c.args.offer.now.rank c.args.offer.now.by c.args.offer.now.time
    (station_in c.self.inside.parts c.self.inside.bodies)) tt _ _ _ refl
    c.in-Ok.ensures.store count c.in-Ok-reserve.ensures.store
    (c.seal_leaving.ensures
    ∙ (λ i. record {
      frames = (c.requires.ready.empty i).frames
          ++ frames_of c.args.grant.now c.sealing_key-key.result (c.in-Ok-reserve.ensures.number i)
          (leaving c.args.grant.now.address c.args.offer.now.origin c.args.offer.now.by c.self.inside.bodies.waiting);
      tags = (c.requires.ready.empty i).tags;
    })
    ∙ ap only_frames (sealed_alone c.args.grant.now c.sealing_key-key.result c.self.inside.parts.counter.next
    (leaving c.args.grant.now.address c.args.offer.now.origin c.args.offer.now.by c.self.inside.bodies.waiting) c.sealing_key-key.ensures)
    ∙ (λ i. only_frames (map (spelled network) (sealed_by ((sym (at_some c.args.self.now.memory (λ l. l.ring ≡ Some c.args.grant.now)
    (station_in c.self.inside.parts c.self.inside.bodies) (ap (λ (s : State StationMemory). s.memory) (sym c.self.view_is) ∙ running) c.requires.ready.ring)) i)
    c.self.inside.parts.counter.next (leaving c.args.grant.now.address c.args.offer.now.origin c.args.offer.now.by c.self.inside.bodies.waiting)))))
    (lines_are _ _ _ _ refl c.in-Ok-reserve.ensures.counter refl c.in-Ok.ensures.routing refl refl (ap (λ (h : Held). h.reassemblies) c.drop_for.ensures)
    (ap (λ (h : Held). h.waiting) c.drop_for.ensures))))

pub returns-clause-after : goal.returns-clause-after
returns-clause-after g c = record {
  agrees =
      let before : IfSome (unless_halted c.self.inside.halted (station_in c.self.inside.parts c.self.inside.bodies))
      (λ l. AgreesWith l (g.K.Keeper.store c.self.inside.keeper).records) = rw (← c.self.view_is) at c.requires.ready.agrees in
      let running = rw (← c.self.view_is) at c.requires.ready.running in
      agrees_holding _ c.self.inside.bodies c.drop_for.new.self _
      (agrees_counted _ _ _ _ (agrees_ranked (station_in c.self.inside.parts c.self.inside.bodies) _ _ _ (of_some _ _ _ running before) c.in-Ok.ensures.kept
      c.in-Ok.ensures.elsewhere)
      c.in-Ok-reserve.ensures.kept c.in-Ok-reserve.ensures.elsewhere);
  replied = rw (← c.self.view_is) refl;
}
