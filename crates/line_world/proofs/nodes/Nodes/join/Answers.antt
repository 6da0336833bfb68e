-- What a meter did.
use Rattle.std.proofs.Common.{Err}
use Rattle.std.specs.Prelude.{IsSome}
use Rattle.meter_node.specs.MeterStates.{identity_of}
use Rattle.node_rules.specs.declared.refusal.JoinRefusal.TheVariants as joins
use Rattle.node_rules.specs.Meters as meters
use Rattle.node_rules.proofs.TablePlans.{meters_in_place}
use Rattle.line_rules.specs.Steps.{psk_of}
use Rattle.line_world.proofs.MeterActs.{meter_agrees, meter_sound, meter_stayed, meter_took}
use Rattle.line_world.proofs.NumberedNodes.{did, found_at, meter_at, sound_at, sound_with}
use Rattle.line_world.proofs.nodes.Nodes.join.Goals as goal

pub join-requires : goal.join-requires
join-requires c =
    let at = meter_at c.self.inside.coordinator c.self.inside.meters.items _ c.args.number c.index_mut.result.now c.self.view_is c.self.invariant
    c.requires.meter
    c.requires.there c.index_mut.ensures.value in
    record { agrees = meter_agrees c.index_mut.result.now (sound_at at) }

pub returns-clause-key : goal.returns-clause-key
returns-clause-key c =
    let at = meter_at c.self.inside.coordinator c.self.inside.meters.items _ c.args.number c.index_mut.result.now c.self.view_is c.self.invariant
    c.requires.meter
    c.requires.there c.index_mut.ensures.value in found_at at (λ n. IsSome (psk_of n)) (cc)

pub returns-clause-did : goal.returns-clause-did
returns-clause-did c =
    let at = meter_at c.self.inside.coordinator c.self.inside.meters.items _ c.args.number c.index_mut.result.now c.self.view_is c.self.invariant
    c.requires.meter
    c.requires.there c.index_mut.ensures.value in
    found_at at _ (did at _ c.join.new.self _ _
    (meter_took c.index_mut.result.now c.join.new.self (Err joins.Halted) (λ m. meters.join (identity_of c.index_mut.result.now) m c.args.agent c.args.now)
    c.join.result c.join.new.out (sound_at at) c.join.ensures.after.psk
    (meter_stayed c.index_mut.result.now c.join.new.self (Err joins.Halted) c.join.result c.join.new.out c.join.ensures.halted) c.join.ensures.carries))

pub invariant_of-self : goal.invariant_of-self
invariant_of-self c =
    let at = meter_at c.self.inside.coordinator c.self.inside.meters.items _ c.args.number c.index_mut.result.now c.self.view_is c.self.invariant
    c.requires.meter
    c.requires.there c.index_mut.ensures.value in
    sound_with at c.join.new.self
    (meter_sound c.index_mut.result.now c.join.new.self (Err joins.Halted) (λ m. meters.join (identity_of c.index_mut.result.now) m c.args.agent c.args.now)
    c.join.result c.join.new.out
    (λ m short. (meters_in_place (identity_of c.index_mut.result.now) m short).joins c.args.agent c.args.now) (sound_at at)
    (meter_stayed c.index_mut.result.now c.join.new.self (Err joins.Halted) c.join.result c.join.new.out c.join.ensures.halted) c.join.ensures.carries
    c.join.ensures.after.agrees)
