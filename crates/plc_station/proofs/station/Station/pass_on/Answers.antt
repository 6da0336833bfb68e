use Rattle.std.proofs.Common.{Some, ◌∙◌}
use Rattle.std.proofs.lemmas.Result.{err_from_is_err_and}
use Rattle.loadng_messages.specs.declared.message.Message.TheVariants.{Rrep}
use Rattle.node_rules.specs.Drafts.{send_message}
use Rattle.node_rules.specs.HearingRules.{dropped, offers}
use Rattle.plc_station.proofs.CarriedPlans.{if_some, at_some}
use Rattle.plc_station.proofs.SentReplies.{kept_done, kept_failed, passed_goes, restated}
use Rattle.plc_station.proofs.station.Station.pass_on.Goals as goal

pub returns-in_err-relay-clause-carries : goal.returns-in_err-relay-clause-carries
returns-in_err-relay-clause-carries g c =
    let p = err_from_is_err_and c.from_residual.result c.from_residual.ensures.1 in
    rw (p.1, p.2) (rw c.one.ensures.value at c.in_err-relay.ensures.carries)

pub returns-in_err-relay-clause-replied : goal.returns-in_err-relay-clause-replied
returns-in_err-relay-clause-replied g c =
    if_some c.args.self.now.memory _ (λ l m. kept_failed dropped _ _
    (send_message c.args.hop (Rrep c.args.offer.now.rank.number c.args.offer.now.rank.cost c.args.offer.now.origin c.args.to)
    (offers c.args.grant.now.address c.args.offer.now.origin c.args.offer.now.rank c.args.offer.now.by c.args.offer.now.time l)) _ _ _
    (at_some _ _ l m (rw c.one.ensures.value at c.in_err-relay.ensures.carries)) (c.in_err-relay.ensures.after.replied ∙ c.requires.fresh))

pub returns-clause-carries : goal.returns-clause-carries
returns-clause-carries g c =
    if_some c.args.self.now.memory _
    (λ l m. restated _ _ (Some (record { to = c.args.hop; number = c.args.offer.now.rank.number; origin = c.args.offer.now.origin })) _ _ _
    (at_some _ _ l m (rw (c.one.ensures.value, ← c.self.view_is) at c.in_ok-relay.ensures.carries)))

pub returns-clause-agrees : goal.returns-clause-agrees
returns-clause-agrees g c = rw (← c.self.view_is) at c.in_ok-relay.ensures.after.agrees

pub returns-clause-replied : goal.returns-clause-replied
returns-clause-replied g c =
    if_some c.args.self.now.memory _ (λ l m. kept_done dropped _ _
    (send_message c.args.hop (Rrep c.args.offer.now.rank.number c.args.offer.now.rank.cost c.args.offer.now.origin c.args.to)
    (offers c.args.grant.now.address c.args.offer.now.origin c.args.offer.now.rank c.args.offer.now.by c.args.offer.now.time l)) _ _ _
    (at_some _ _ l m (rw (c.one.ensures.value, ← c.self.view_is) at c.in_ok-relay.ensures.carries))
    (passed_goes l c.args.grant.now c.args.grant.now.address c.args.offer.now.by c.args.hop c.args.offer.now.origin c.args.to c.args.offer.now.rank
    c.args.offer.now.time
    (at_some _ _ l m c.requires.ready.ring) c.in_ok-relay.ensures.key c.in_ok-relay.ensures.message))
