use Rattle.std.proofs.Common.{Ok, Err, length, sym, ap, subst, ◌∙◌}
use Rattle.std.proofs.lemmas.Result.{err_from_is_err_and}
use Rattle.plc_station.specs.NextSteps.{CanStep, stepping}
use Rattle.plc_station.specs.OwnLoads.{own_load, own_frames, own_draft}
use Rattle.plc_station.proofs.CarriedPlans.{if_some, at_some}
use Rattle.plc_station.proofs.Ways.{refused_as, carried_as}
use Rattle.plc_station.proofs.station.Station.sets_out.Goals as goal

pub returns-in_err-step-clause-carries : goal.returns-in_err-step-clause-carries
returns-in_err-step-clause-carries g c =
    let p = err_from_is_err_and c.from_residual.result c.from_residual.ensures.1 in
    rw p.1 (if_some c.args.self.now.memory _ (λ l m. refused_as c.args.self.now l p.0 _ _ m
    (ap (λ r. stepping l c.args.grant.now.address c.args.to c.args.note c.args.now (own_load c.args.kind c.args.octets.now l.next_tag)
    (own_draft c.args.kind c.args.octets.now l) r)
    (ap Err p.2 ∙ at_some c.args.self.now.memory _ l m (rw c.frames_in-count.ensures at c.in_err-step.ensures.step))) c.requires.ready.empty))

pub returns-in-Goes-clause-carries : goal.returns-in-Goes-clause-carries
returns-in-Goes-clause-carries g c =
    if_some c.args.self.now.memory _ (λ l m. carried_as _ _ _ _ _ _
    (ap (λ r. stepping l c.args.grant.now.address c.args.to c.args.note c.args.now (own_load c.args.kind c.args.octets.now l.next_tag)
    (own_draft c.args.kind c.args.octets.now l) r)
    (ap Ok (sym c.in-Goes.is) ∙ at_some c.args.self.now.memory _ l m (rw c.frames_in-count.ensures at c.in_ok-step.ensures.step)))
    (at_some c.args.self.now.memory _ l m c.goes.ensures.carries))

pub returns-in-Waits-clause-carries : goal.returns-in-Waits-clause-carries
returns-in-Waits-clause-carries g c =
    if_some c.args.self.now.memory _ (λ l m. carried_as _ _ _ _ _ _
    (ap (λ r. stepping l c.args.grant.now.address c.args.to c.args.note c.args.now (own_load c.args.kind c.args.octets.now l.next_tag)
    (own_draft c.args.kind c.args.octets.now l) r)
    (ap Ok (sym c.in-Waits.is) ∙ at_some c.args.self.now.memory _ l m (rw c.frames_in-count.ensures at c.in_ok-step.ensures.step)))
    (at_some c.args.self.now.memory _ l m c.waits.ensures.carries))

pub returns-in-Seeks-clause-carries : goal.returns-in-Seeks-clause-carries
returns-in-Seeks-clause-carries g c =
    if_some c.args.self.now.memory _ (λ l m. carried_as _ _ _ _ _ _
    (ap (λ r. stepping l c.args.grant.now.address c.args.to c.args.note c.args.now (own_load c.args.kind c.args.octets.now l.next_tag)
    (own_draft c.args.kind c.args.octets.now l) r)
    (ap Ok (sym c.in-Seeks.is) ∙ at_some c.args.self.now.memory _ l m (rw c.frames_in-count.ensures at c.in_ok-step.ensures.step)))
    (at_some c.args.self.now.memory _ l m c.seeks.ensures.carries))

pub goes-requires-clause-left : goal.goes-requires-clause-left
goes-requires-clause-left g c =
    if_some c.args.self.now.memory _ (λ l m. (subst (CanStep l (length c.args.octets.now) (own_frames c.args.kind (length c.args.octets.now))) c.in-Goes.is
    (at_some c.args.self.now.memory _ l m (rw c.frames_in-count.ensures at c.in_ok-step.ensures.fits))))

pub waits-requires-clause-room : goal.waits-requires-clause-room
waits-requires-clause-room g c =
    if_some c.args.self.now.memory _ (λ l m. (subst (CanStep l (length c.args.octets.now) (own_frames c.args.kind (length c.args.octets.now))) c.in-Waits.is
    (at_some c.args.self.now.memory _ l m (rw c.frames_in-count.ensures at c.in_ok-step.ensures.fits))))

pub seeks-requires-clause-room : goal.seeks-requires-clause-room
seeks-requires-clause-room g c =
    if_some c.args.self.now.memory _ (λ l m. (subst (CanStep l (length c.args.octets.now) (own_frames c.args.kind (length c.args.octets.now))) c.in-Seeks.is
    (at_some c.args.self.now.memory _ l m (rw c.frames_in-count.ensures at c.in_ok-step.ensures.fits))).room)

pub seeks-requires-clause-number : goal.seeks-requires-clause-number
seeks-requires-clause-number g c =
    if_some c.args.self.now.memory _ (λ l m. (subst (CanStep l (length c.args.octets.now) (own_frames c.args.kind (length c.args.octets.now))) c.in-Seeks.is
    (at_some c.args.self.now.memory _ l m (rw c.frames_in-count.ensures at c.in_ok-step.ensures.fits))).number)

pub seeks-requires-clause-left : goal.seeks-requires-clause-left
seeks-requires-clause-left g c =
    if_some c.args.self.now.memory _ (λ l m. (subst (CanStep l (length c.args.octets.now) (own_frames c.args.kind (length c.args.octets.now))) c.in-Seeks.is
    (at_some c.args.self.now.memory _ l m (rw c.frames_in-count.ensures at c.in_ok-step.ensures.fits))).left)
