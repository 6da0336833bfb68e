-- A meter installs a grant.
use Rattle.std.proofs.Common.{Ok, sym, subst}
use Rattle.meter_node.specs.MeterStates.{identity_of}
use Rattle.node_rules.specs.Agreement.{Agrees}
use Rattle.node_rules.specs.CarriedPlans.{nothing}
use Rattle.node_rules.specs.Memory.{StationMemory}
use Rattle.node_rules.specs.Meters as meters
use Rattle.node_rules.specs.NodeSteps.{acts}
use Rattle.node_rules.specs.States.{State}
use Rattle.node_rules.proofs.TablePlans.{meters_in_place}
use Rattle.line_world.proofs.MeterActs.{meter_agrees, rests, running_sound, running_took, sound_back, with_its}
use Rattle.line_world.proofs.NumberedNodes.{did_at, meter_at, sound_at, sound_with}
use Rattle.line_world.proofs.nodes.Nodes.provision.Goals as goal

pub provision-requires : goal.provision-requires
provision-requires c =
    let at = meter_at c.self.inside.coordinator c.self.inside.meters.items _ c.args.number c.index_mut-meter.result.now c.self.view_is c.self.invariant
    c.requires.meter
    c.requires.there c.index_mut-meter.ensures.value in
    record {
      agrees = subst (λ (k : State StationMemory). Agrees k) (sym c.station.ensures.value) (meter_agrees c.index_mut-meter.result.now (sound_at at));
    }

pub returns-then-halted : goal.returns-then-halted
returns-then-halted c =
    let at = meter_at c.self.inside.coordinator c.self.inside.meters.items _ c.args.number c.index_mut-meter.result.now c.self.view_is c.self.invariant
    c.requires.meter
    c.requires.there c.index_mut-meter.ensures.value in
    did_at at (λ n. acts n (Ok tt) (λ m. meters.provision m c.args.grant.now)) (with_its c.station.result.now c.index_mut-meter.result.now) (Ok tt) nothing
    (rests c.index_mut-meter.result.now c.station.result.now (Ok tt) (λ m. meters.provision m c.args.grant.now) c.station.ensures.value (sound_at at)
    c.if-halted.ensures)

pub invariant_of-self : goal.invariant_of-self
invariant_of-self c =
    let at = meter_at c.self.inside.coordinator c.self.inside.meters.items _ c.args.number c.index_mut-meter.result.now c.self.view_is c.self.invariant
    c.requires.meter
    c.requires.there c.index_mut-meter.ensures.value in
    sound_with at (with_its c.station.result.now c.index_mut-meter.result.now)
    (sound_back c.index_mut-meter.result.now c.station.result.now c.station.ensures.value (sound_at at))

pub returns : goal.returns
returns c =
    let at = meter_at c.self.inside.coordinator c.self.inside.meters.items _ c.args.number c.index_mut-meter.result.now c.self.view_is c.self.invariant
    c.requires.meter
    c.requires.there c.index_mut-meter.ensures.value in
    did_at at (λ n. acts n (Ok tt) (λ m. meters.provision m c.args.grant.now)) c.provision.new.self c.provision.result nothing
    (running_took c.index_mut-meter.result.now c.provision.new.self c.station.result.now (Ok tt) (λ m. meters.provision m c.args.grant.now) c.provision.result
    nothing c.station.ensures.value (sound_at at)
    c.provision.ensures.after.psk c.if-halted.ensures c.provision.ensures.carries)

pub invariant_of-self-2 : goal.invariant_of-self-2
invariant_of-self-2 c =
    let at = meter_at c.self.inside.coordinator c.self.inside.meters.items _ c.args.number c.index_mut-meter.result.now c.self.view_is c.self.invariant
    c.requires.meter
    c.requires.there c.index_mut-meter.ensures.value in
    sound_with at c.provision.new.self
    (running_sound c.index_mut-meter.result.now c.provision.new.self c.station.result.now (Ok tt) (λ m. meters.provision m c.args.grant.now) c.provision.result
    nothing
    (λ m short. (meters_in_place (identity_of c.index_mut-meter.result.now) m short).provisions c.args.grant.now)
    c.station.ensures.value (sound_at at) c.if-halted.ensures c.provision.ensures.carries c.provision.ensures.after.agrees)
