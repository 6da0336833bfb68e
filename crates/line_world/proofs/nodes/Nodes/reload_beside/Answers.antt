-- What the store of a node leaves beside its memory.
use Rattle.std.proofs.Common.{◌≡◌, ap, ◌∙◌, arith}
use Rattle.plc_base.specs.Keeper.{Store}
use Rattle.node_rules.specs.Memory.{Node, StationMemory}
use Rattle.node_rules.specs.States.{State}
use Rattle.reach_rules.specs.ReachingNodes.{restarted}
use Rattle.store_tables.specs.SlotTables.{read_into}
use Rattle.line_world.proofs.LentReaches.{keeper_back}
use Rattle.line_world.proofs.LentStations.{over}
use Rattle.line_world.proofs.LentNodes.{coordinator_lends, meter_lends, found_lent, sound_back, unchanged}
use Rattle.line_world.proofs.nodes.Nodes.reload_beside.Goals as goal

pub returns-then-number-gt0-clause-value : goal.returns-then-number-gt0-clause-value
returns-then-number-gt0-clause-value c =
    let its = meter_lends c.self.inside.coordinator c.self.inside.meters.items _ c.args.number c.index_mut.result.now c.station.result.now c.self.view_is
    c.self.invariant
    c.if-number-gt0.true c.requires.there c.index_mut.ensures.value c.station.ensures.value in
    found_lent its (λ (n : Node). read_into c.reload.result c.reload.new.self ≡ restarted n.store.records)
    (c.reload.ensures ∙ ap (λ (k : Store). restarted k.records)
    (c.keeper_mut.ensures.value ∙ ap (λ (k : State StationMemory). k.store) c.station.ensures.value))

pub returns-then-number-gt0-clause-same : goal.returns-then-number-gt0-clause-same
returns-then-number-gt0-clause-same c =
    let its = meter_lends c.self.inside.coordinator c.self.inside.meters.items _ c.args.number c.index_mut.result.now c.station.result.now c.self.view_is
    c.self.invariant
    c.if-number-gt0.true c.requires.there c.index_mut.ensures.value c.station.ensures.value in unchanged its (over c.keeper_mut.result.now c.station.result.now)
    (keeper_back c.station.result.now c.keeper_mut.result.now c.keeper_mut.ensures.value)

pub invariant_of-self : goal.invariant_of-self
invariant_of-self c =
    let its = meter_lends c.self.inside.coordinator c.self.inside.meters.items _ c.args.number c.index_mut.result.now c.station.result.now c.self.view_is
    c.self.invariant
    c.if-number-gt0.true c.requires.there c.index_mut.ensures.value c.station.ensures.value in
    sound_back its (over c.keeper_mut.result.now c.station.result.now)
    (keeper_back c.station.result.now c.keeper_mut.result.now c.keeper_mut.ensures.value)

pub returns-clause-value : goal.returns-clause-value
returns-clause-value c =
    let its = coordinator_lends c.self.inside.coordinator c.self.inside.meters.items _ c.args.number c.in-Some.coordinator c.station-2.result.now c.self.view_is
    c.self.invariant c.in-Some.is
    (omega (arith, c.if-number-gt0.false)) c.station-2.ensures.value in
    found_lent its (λ (n : Node). read_into c.reload-2.result c.reload-2.new.self ≡ restarted n.store.records)
    (c.reload-2.ensures ∙ ap (λ (k : Store). restarted k.records)
    (c.keeper_mut-2.ensures.value ∙ ap (λ (k : State StationMemory). k.store) c.station-2.ensures.value))

pub returns-clause-same : goal.returns-clause-same
returns-clause-same c =
    let its = coordinator_lends c.self.inside.coordinator c.self.inside.meters.items _ c.args.number c.in-Some.coordinator c.station-2.result.now c.self.view_is
    c.self.invariant c.in-Some.is
    (omega (arith, c.if-number-gt0.false)) c.station-2.ensures.value in unchanged its (over c.keeper_mut-2.result.now c.station-2.result.now)
    (keeper_back c.station-2.result.now c.keeper_mut-2.result.now c.keeper_mut-2.ensures.value)

pub invariant_of-self-2 : goal.invariant_of-self-2
invariant_of-self-2 c =
    let its = coordinator_lends c.self.inside.coordinator c.self.inside.meters.items _ c.args.number c.in-Some.coordinator c.station-2.result.now c.self.view_is
    c.self.invariant c.in-Some.is
    (omega (arith, c.if-number-gt0.false)) c.station-2.ensures.value in sound_back its (over c.keeper_mut-2.result.now c.station-2.result.now)
    (keeper_back c.station-2.result.now c.keeper_mut-2.result.now c.keeper_mut-2.ensures.value)
