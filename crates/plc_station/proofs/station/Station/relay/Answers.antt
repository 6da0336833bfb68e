use Rattle.std.proofs.Common.{◌≡◌, ◌∷◌, [], ◌++◌, ◌+◌, Some, length, map, refl, sym, ap, ◌∙◌, arith}
use Rattle.std.proofs.lemmas.List.{length-append}
use Rattle.loadng_messages.specs.Grammar as messages
use Rattle.mesh_header.specs.declared.unit.Unit.TheVariants.{Local}
use Rattle.node_rules.specs.Ciphers.{network}
use Rattle.node_rules.specs.Frames.{spelled}
use Rattle.node_rules.specs.Memory.{StationMemory}
use Rattle.node_rules.specs.Drafts.{empty_draft, goes, leave, with_own_number, with_rank, send_message, sealed_by}
use Rattle.node_rules.specs.HearingRules.{dropped, offers}
use Rattle.station_queues.specs.Bodies.{Held}
use Rattle.fragment_buffers.specs.WaitingBodies.{leaving}
use Rattle.node_rules.specs.Agreement.{AgreesWith}
use Rattle.plc_station.specs.Offers.{CanBeKept}
use Rattle.plc_station.specs.StationViews.{station_in}
use Rattle.plc_station.specs.SentFrames.{only_frames}
use Rattle.node_rules.specs.States.{State}
use Rattle.plc_station.proofs.CarriedPlans.{on_memory, at_some, of_some, lines_are}
use Rattle.std.specs.Prelude.{IfSome}
use Rattle.node_rules.specs.States.{unless_halted}
use Rattle.plc_station.proofs.Agreement.{agrees_counted, agrees_ranked, agrees_holding}
use Rattle.plc_station.proofs.EndedSteps.{ended, stopped, uncounted}
use Rattle.plc_station.proofs.station.Station.relay.Goals as goal

pub keep-requires-clause-valid : goal.keep-requires-clause-valid
keep-requires-clause-valid g c =
    (of_some c.self.inside.halted (station_in c.self.inside.parts c.self.inside.bodies) (λ l. CanBeKept l.routing c.args.offer.now)
    (rw (← c.self.view_is) at c.requires.ready.running) (rw (← c.self.view_is) at c.requires.offer)).valid

pub keep-requires-clause-better : goal.keep-requires-clause-better
keep-requires-clause-better g c =
    (of_some c.self.inside.halted (station_in c.self.inside.parts c.self.inside.bodies) (λ l. CanBeKept l.routing c.args.offer.now)
    (rw (← c.self.view_is) at c.requires.ready.running) (rw (← c.self.view_is) at c.requires.offer)).better

pub keep-requires-clause-room : goal.keep-requires-clause-room
keep-requires-clause-room g c =
    (of_some c.self.inside.halted (station_in c.self.inside.parts c.self.inside.bodies) (λ l. CanBeKept l.routing c.args.offer.now)
    (rw (← c.self.view_is) at c.requires.ready.running) (rw (← c.self.view_is) at c.requires.offer)).room

pub returns-in_default-clause-carries : goal.returns-in_default-clause-carries
unfolding goes leave with_own_number with_rank empty_draft leaving
returns-in_default-clause-carries g c =
    rw (← c.self.view_is) (on_memory c.self.inside.halted _ _ (λ running. stopped dropped _ _
    (send_message c.args.to c.args.message.now
    (offers c.args.grant.now.address c.args.offer.now.origin c.args.offer.now.rank c.args.offer.now.by c.args.offer.now.time
    (station_in c.self.inside.parts c.self.inside.bodies))) (send_message c.args.to c.args.message.now
    (offers c.args.grant.now.address c.args.offer.now.origin c.args.offer.now.rank c.args.offer.now.by c.args.offer.now.time
    (station_in c.self.inside.parts c.self.inside.bodies))) tt _ refl
    c.in_default.ensures.store c.requires.ready.empty refl))

pub returns-in_default-reserve-clause-carries : goal.returns-in_default-reserve-clause-carries
unfolding goes leave with_own_number with_rank empty_draft leaving
returns-in_default-reserve-clause-carries g c =
    let count : c.units_for-units.result + 1 ≡ length (send_message c.args.to c.args.message.now
    (offers c.args.grant.now.address c.args.offer.now.origin c.args.offer.now.rank c.args.offer.now.by c.args.offer.now.time
    (station_in c.self.inside.parts c.self.inside.bodies))).units = omega (
      arith,
      c.units_for-units.ensures.units c.args.grant.now.address c.args.offer.now.by,
      length-append (leaving c.args.grant.now.address c.args.offer.now.origin c.args.offer.now.by c.self.inside.bodies.waiting)
          ((record { to = c.args.to; unit = Local 1 (messages.spelling c.args.message.now); note = 0 }) ∷ []),
    ) in
    rw (← c.self.view_is) (on_memory c.self.inside.halted _ _ (λ running. uncounted dropped _ _
    (send_message c.args.to c.args.message.now
    (offers c.args.grant.now.address c.args.offer.now.origin c.args.offer.now.rank c.args.offer.now.by c.args.offer.now.time
    (station_in c.self.inside.parts c.self.inside.bodies))) (send_message c.args.to c.args.message.now
    (offers c.args.grant.now.address c.args.offer.now.origin c.args.offer.now.rank c.args.offer.now.by c.args.offer.now.time
    (station_in c.self.inside.parts c.self.inside.bodies))) tt _ _ _ refl
    c.in-Ok.ensures.store count c.in_default-reserve.ensures.store c.requires.ready.empty refl))

pub returns-clause-carries : goal.returns-clause-carries
unfolding goes leave with_own_number with_rank empty_draft leaving
returns-clause-carries g c =
    let count : c.units_for-units.result + 1 ≡ length (send_message c.args.to c.args.message.now
    (offers c.args.grant.now.address c.args.offer.now.origin c.args.offer.now.rank c.args.offer.now.by c.args.offer.now.time
    (station_in c.self.inside.parts c.self.inside.bodies))).units = omega (
      arith,
      c.units_for-units.ensures.units c.args.grant.now.address c.args.offer.now.by,
      length-append (leaving c.args.grant.now.address c.args.offer.now.origin c.args.offer.now.by c.self.inside.bodies.waiting)
          ((record { to = c.args.to; unit = Local 1 (messages.spelling c.args.message.now); note = 0 }) ∷ []),
    ) in
    rw (← c.self.view_is) (on_memory c.self.inside.halted _ _ (λ running. ended dropped _ _
    (send_message c.args.to c.args.message.now
    (offers c.args.grant.now.address c.args.offer.now.origin c.args.offer.now.rank c.args.offer.now.by c.args.offer.now.time
    (station_in c.self.inside.parts c.self.inside.bodies))) (send_message c.args.to c.args.message.now
    (offers c.args.grant.now.address c.args.offer.now.origin c.args.offer.now.rank c.args.offer.now.by c.args.offer.now.time
    (station_in c.self.inside.parts c.self.inside.bodies))) tt _ _ _ refl
    c.in-Ok.ensures.store count c.in-Ok-reserve.ensures.store
    (c.seal_waiting_then.ensures.sent
    ∙ (λ i. only_frames (map (spelled network) (sealed_by ((sym (at_some c.args.self.now.memory (λ l. l.ring ≡ Some c.args.grant.now)
    (station_in c.self.inside.parts c.self.inside.bodies) (ap (λ (s : State StationMemory). s.memory) (sym c.self.view_is) ∙ running) c.requires.ready.ring)) i)
    (c.in-Ok-reserve.ensures.number i) ((leaving c.args.grant.now.address c.args.offer.now.origin c.args.offer.now.by c.self.inside.bodies.waiting)
    ++ (record { to = c.args.to; unit = Local 1 (messages.spelling c.args.message.now); note = 0 }) ∷ [])))))
    (lines_are _ _ _ _ refl c.in-Ok-reserve.ensures.counter refl c.in-Ok.ensures.routing refl refl
    (ap (λ (h : Held). h.reassemblies) c.seal_waiting_then.ensures.left)
    (ap (λ (h : Held). h.waiting) c.seal_waiting_then.ensures.left))))

pub returns-clause-after : goal.returns-clause-after
returns-clause-after g c = record {
  agrees =
      let before : IfSome (unless_halted c.self.inside.halted (station_in c.self.inside.parts c.self.inside.bodies))
      (λ l. AgreesWith l (g.K.Keeper.store c.self.inside.keeper).records) = rw (← c.self.view_is) at c.requires.ready.agrees in
      let running = rw (← c.self.view_is) at c.requires.ready.running in
      agrees_holding _ c.self.inside.bodies c.seal_waiting_then.new.bodies _
      (agrees_counted _ _ _ _ (agrees_ranked (station_in c.self.inside.parts c.self.inside.bodies) _ _ _ (of_some _ _ _ running before) c.in-Ok.ensures.kept
      c.in-Ok.ensures.elsewhere)
      c.in-Ok-reserve.ensures.kept c.in-Ok-reserve.ensures.elsewhere);
  replied = rw (← c.self.view_is) refl;
}
