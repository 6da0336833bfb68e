-- What a meter did.
use Rattle.std.proofs.Common.{Err}
use Rattle.meter_node.specs.MeterStates.{identity_of}
use Rattle.node_rules.specs.CarriedPlans.{nothing}
use Rattle.node_rules.specs.declared.refusal.LeaveRefusal.TheVariants as leaves
use Rattle.node_rules.specs.Meters as meters
use Rattle.node_rules.specs.NodeSteps.{acts}
use Rattle.node_rules.proofs.TablePlans.{meters_in_place}
use Rattle.line_world.proofs.NodeActs.{gives_nothing}
use Rattle.line_world.proofs.MeterActs.{meter_agrees, meter_sound, meter_stayed, meter_took}
use Rattle.line_world.proofs.NumberedNodes.{did_at, meter_at, sound_at, sound_with}
use Rattle.line_world.proofs.nodes.Nodes.leave.Goals as goal

pub leave-requires : goal.leave-requires
leave-requires c =
    let at = meter_at c.self.inside.coordinator c.self.inside.meters.items _ c.args.number c.index_mut.result.now c.self.view_is c.self.invariant
    c.requires.meter
    c.requires.there c.index_mut.ensures.value in
    record { agrees = meter_agrees c.index_mut.result.now (sound_at at) }

pub returns : goal.returns
returns c =
    let at = meter_at c.self.inside.coordinator c.self.inside.meters.items _ c.args.number c.index_mut.result.now c.self.view_is c.self.invariant
    c.requires.meter
    c.requires.there c.index_mut.ensures.value in
    did_at at (λ n. acts n (Err leaves.Halted) meters.leave) c.leave.new.self c.leave.result nothing
    (meter_took c.index_mut.result.now c.leave.new.self (Err leaves.Halted) meters.leave c.leave.result nothing (sound_at at) c.leave.ensures.after.psk
    (meter_stayed c.index_mut.result.now c.leave.new.self (Err leaves.Halted) c.leave.result nothing
    (gives_nothing c.index_mut.result.now.station.memory _ _ c.leave.ensures.halted)) c.leave.ensures.carries)

pub invariant_of-self : goal.invariant_of-self
invariant_of-self c =
    let at = meter_at c.self.inside.coordinator c.self.inside.meters.items _ c.args.number c.index_mut.result.now c.self.view_is c.self.invariant
    c.requires.meter
    c.requires.there c.index_mut.ensures.value in
    sound_with at c.leave.new.self
    (meter_sound c.index_mut.result.now c.leave.new.self (Err leaves.Halted) meters.leave c.leave.result nothing
    (λ m short. (meters_in_place (identity_of c.index_mut.result.now) m short).leaves) (sound_at at)
    (meter_stayed c.index_mut.result.now c.leave.new.self (Err leaves.Halted) c.leave.result nothing
    (gives_nothing c.index_mut.result.now.station.memory _ _ c.leave.ensures.halted)) c.leave.ensures.carries c.leave.ensures.after.agrees)
