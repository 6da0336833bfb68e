use Rattle.node_rules.specs.declared.refusal.SendRefusal.TheVariants.{BadSize, ToSelf}
use Rattle.plc_station.proofs.CarriedPlans.{if_some, at_some}
use Rattle.plc_station.proofs.Ways.{bad_size, to_self, send_step, refused_as, carried_as}
use Rattle.plc_station.proofs.station.Station.send_from.Goals as goal

pub returns-then-has_bad_size-clause-carries : goal.returns-then-has_bad_size-clause-carries
returns-then-has_bad_size-clause-carries g c =
    if_some c.args.self.now.memory _ (λ l m. refused_as c.args.self.now l BadSize _ _ m
    (bad_size l c.args.grant.now.address c.args.to c.args.datagram.now c.args.note c.args.now c.if-has_bad_size.ensures) c.requires.ready.empty)

pub returns-then-is_own-clause-carries : goal.returns-then-is_own-clause-carries
returns-then-is_own-clause-carries g c =
    if_some c.args.self.now.memory _ (λ l m. refused_as c.args.self.now l ToSelf _ _ m
    (to_self l c.args.grant.now.address c.args.to c.args.datagram.now c.args.note c.args.now c.if-has_bad_size.ensures
    (rw c.number.ensures.value at (at_some c.args.self.now.memory _ l m c.if-is_own.ensures))) c.requires.ready.empty)

pub returns-clause-carries : goal.returns-clause-carries
returns-clause-carries g c =
    if_some c.args.self.now.memory _ (λ l m. carried_as _ _ _ _ _ _
    (send_step l c.args.grant.now.address c.args.to c.args.datagram.now c.args.note c.args.now (record {
      size = c.if-has_bad_size.ensures;
      other = (rw c.number.ensures.value at (at_some c.args.self.now.memory _ l m c.if-is_own.ensures));
    }))
    (at_some c.args.self.now.memory _ l m c.sets_out.ensures.carries))
