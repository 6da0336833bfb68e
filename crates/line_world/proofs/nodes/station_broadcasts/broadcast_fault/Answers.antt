-- Why a broadcast is not admitted.
use Rattle.std.proofs.Common.{◌∙◌, Err, sym, ap}
use Rattle.reach_rules.specs.Broadcasts.{mark_fault}
use Rattle.line_world.specs.FurtherOutcomes.{broadcast_of}
use Rattle.line_world.proofs.FurtherPlans.{fault_own, fault_other}
use Rattle.line_world.proofs.nodes.station_broadcasts.broadcast_fault.Goals as goal

pub returns-then-number : goal.returns-then-number
returns-then-number c =
    fault_own c.args.own c.args.log.now (broadcast_of c.args.broadcast.now) (sym c.number.ensures.value ∙ c.if-number.true ∙ c.number-2.ensures.value)

pub returns-in-Ok : goal.returns-in-Ok
returns-in-Ok c =
    ap mark_fault (sym c.in-Ok.is)
    ∙ fault_other c.args.own c.args.log.now (broadcast_of c.args.broadcast.now) c.room.result
    (λ e. c.if-number.false (c.number.ensures.value ∙ e ∙ sym c.number-2.ensures.value)) c.room.ensures

pub returns-in-Err-Old : goal.returns-in-Err-Old
returns-in-Err-Old c =
    ap mark_fault (sym (c.in-Err-Old.is ∙ ap (λ f. Err f) c.in-Err-Old.field-0-is))
    ∙ fault_other c.args.own c.args.log.now (broadcast_of c.args.broadcast.now) c.room.result
    (λ e. c.if-number.false (c.number.ensures.value ∙ e ∙ sym c.number-2.ensures.value)) c.room.ensures

pub returns-in-Err-OriginsFull : goal.returns-in-Err-OriginsFull
returns-in-Err-OriginsFull c =
    ap mark_fault (sym (c.in-Err-OriginsFull.is ∙ ap (λ f. Err f) c.in-Err-OriginsFull.field-0-is))
    ∙ fault_other c.args.own c.args.log.now (broadcast_of c.args.broadcast.now) c.room.result
    (λ e. c.if-number.false (c.number.ensures.value ∙ e ∙ sym c.number-2.ensures.value)) c.room.ensures
