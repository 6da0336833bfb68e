-- A node hears a frame.
use Rattle.std.proofs.Common.{◌∙◌, arith}
use Rattle.line_world.specs.Receptions.{MayHear}
use Rattle.line_world.proofs.CoordinatorActs.{holds}
use Rattle.line_world.proofs.CoordinatorReceptions as coordinator
use Rattle.line_world.proofs.HearingSteps as meter
use Rattle.line_world.proofs.HearingSteps.{came_up, running}
use Rattle.line_world.proofs.MeterActs.{meter_agrees}
use Rattle.line_world.proofs.NumberedNodes.{at_place, coordinator_at, did, found_at, found_its, its, its_did, its_sound, its_sound_with, meter_at, sound_at}
use Rattle.line_world.proofs.NumberedNodes.{sound_with}
use Rattle.line_world.proofs.nodes.Nodes.hear.Goals as goal

pub hear-heard-requires-clause-ready : goal.hear-heard-requires-clause-ready
hear-heard-requires-clause-ready c =
    let at = meter_at c.self.inside.coordinator c.self.inside.meters.items _ c.args.number c.index_mut-meter.result.now c.self.view_is c.self.invariant
    c.if-number-gt0.true
    c.requires.there c.index_mut-meter.ensures.value in
    let may = at_place at (λ n. MayHear n c.args.got) c.requires.accepted in
    record { running = running c.index_mut-meter.result.now c.args.got may; agrees = meter_agrees c.index_mut-meter.result.now (sound_at at) }

pub hear-heard-requires-clause-came : goal.hear-heard-requires-clause-came
hear-heard-requires-clause-came c =
    let at = meter_at c.self.inside.coordinator c.self.inside.meters.items _ c.args.number c.index_mut-meter.result.now c.self.view_is c.self.invariant
    c.if-number-gt0.true
    c.requires.there c.index_mut-meter.ensures.value in
    let may = at_place at (λ n. MayHear n c.args.got) c.requires.accepted in
    came_up c.index_mut-meter.result.now c.args.got may

pub returns-then-number-gt0-clause-received : goal.returns-then-number-gt0-clause-received
returns-then-number-gt0-clause-received c =
    let at = meter_at c.self.inside.coordinator c.self.inside.meters.items _ c.args.number c.index_mut-meter.result.now c.self.view_is c.self.invariant
    c.if-number-gt0.true
    c.requires.there c.index_mut-meter.ensures.value in
    let may = at_place at (λ n. MayHear n c.args.got) c.requires.accepted in
    found_at at _ (record {
      reports = meter.reported c.index_mut-meter.result.now c.hear-heard.new.self c.args.got c.args.cost c.args.note c.args.now c.hear-heard.result
          c.hear-heard.new.out (sound_at at) may c.hear-heard.ensures.after.psk c.hear-heard.ensures.carries
          c.reception_of_meter.result c.reception_of_meter.ensures.reports;
      did = did at _ c.hear-heard.new.self _ _ (meter.heard c.index_mut-meter.result.now c.hear-heard.new.self c.args.got c.args.cost c.args.note c.args.now
          c.hear-heard.result c.hear-heard.new.out (sound_at at) may c.hear-heard.ensures.after.psk c.hear-heard.ensures.carries);
    })

pub returns-then-number-gt0-clause-replied : goal.returns-then-number-gt0-clause-replied
returns-then-number-gt0-clause-replied c =
    let at = meter_at c.self.inside.coordinator c.self.inside.meters.items _ c.args.number c.index_mut-meter.result.now c.self.view_is c.self.invariant
    c.if-number-gt0.true
    c.requires.there c.index_mut-meter.ensures.value in
    let may = at_place at (λ n. MayHear n c.args.got) c.requires.accepted in
    λ is. found_at at _ (c.reception_of_meter.ensures.replied
    ∙ meter.replied_is c.index_mut-meter.result.now c.hear-heard.new.self c.args.got c.args.cost c.args.note c.args.now c.hear-heard.result
    c.hear-heard.new.out (sound_at at) may c.hear-heard.ensures.after.psk c.hear-heard.ensures.carries c.hear-heard.new.self.station.replied
    c.reply_of-replied.result
    (c.reply_of-replied.ensures ∙ c.last_reply.ensures) c.hear-heard.ensures.replied is)

pub invariant_of-self : goal.invariant_of-self
invariant_of-self c =
    let at = meter_at c.self.inside.coordinator c.self.inside.meters.items _ c.args.number c.index_mut-meter.result.now c.self.view_is c.self.invariant
    c.if-number-gt0.true
    c.requires.there c.index_mut-meter.ensures.value in
    let may = at_place at (λ n. MayHear n c.args.got) c.requires.accepted in
    sound_with at c.hear-heard.new.self (meter.heard_sound c.index_mut-meter.result.now c.hear-heard.new.self c.args.got c.args.cost c.args.note c.args.now
    c.hear-heard.result c.hear-heard.new.out (sound_at at) may c.hear-heard.ensures.carries c.hear-heard.ensures.after.agrees)

pub hear-heard-requires-2 : goal.hear-heard-requires-2
hear-heard-requires-2 c =
    let at = coordinator_at c.self.inside.coordinator c.self.inside.meters.items _ c.args.number c.in-Some.coordinator c.self.view_is c.self.invariant
    c.in-Some.is (omega (arith, c.if-number-gt0.false)) in
    let may = its at (λ n. MayHear n c.args.got) c.requires.accepted in
    record { ready = record { running = may.running; holds = holds c.in-Some.coordinator (its_sound at) } }

pub returns-clause-received : goal.returns-clause-received
returns-clause-received c =
    let at = coordinator_at c.self.inside.coordinator c.self.inside.meters.items _ c.args.number c.in-Some.coordinator c.self.view_is c.self.invariant
    c.in-Some.is (omega (arith, c.if-number-gt0.false)) in
    let may = its at (λ n. MayHear n c.args.got) c.requires.accepted in
    found_its at _ (record {
      reports = coordinator.reported c.in-Some.coordinator c.hear-heard-2.new.self c.args.got c.args.cost c.args.note c.args.now c.hear-heard-2.result
          c.hear-heard-2.new.out (its_sound at) may c.hear-heard-2.ensures.carries
          c.reception_of_coordinator.result c.reception_of_coordinator.ensures.reports;
      did = its_did at _ c.hear-heard-2.new.self _ _ (coordinator.heard c.in-Some.coordinator c.hear-heard-2.new.self c.args.got c.args.cost c.args.note
          c.args.now c.hear-heard-2.result c.hear-heard-2.new.out (its_sound at) may c.hear-heard-2.ensures.carries);
    })

pub returns-clause-replied : goal.returns-clause-replied
returns-clause-replied c =
    let at = coordinator_at c.self.inside.coordinator c.self.inside.meters.items _ c.args.number c.in-Some.coordinator c.self.view_is c.self.invariant
    c.in-Some.is (omega (arith, c.if-number-gt0.false)) in
    let may = its at (λ n. MayHear n c.args.got) c.requires.accepted in
    λ is. found_its at _ (c.reception_of_coordinator.ensures.replied
    ∙ coordinator.replied_is c.in-Some.coordinator c.hear-heard-2.new.self c.args.got c.args.cost c.args.note c.args.now c.hear-heard-2.result
    c.hear-heard-2.new.out (its_sound at) may c.hear-heard-2.ensures.carries c.hear-heard-2.new.self.station.replied c.reply_of-replied-2.result
    (c.reply_of-replied-2.ensures ∙ c.last_reply-2.ensures) c.hear-heard-2.ensures.replied is)

pub invariant_of-self-2 : goal.invariant_of-self-2
invariant_of-self-2 c =
    let at = coordinator_at c.self.inside.coordinator c.self.inside.meters.items _ c.args.number c.in-Some.coordinator c.self.view_is c.self.invariant
    c.in-Some.is (omega (arith, c.if-number-gt0.false)) in
    let may = its at (λ n. MayHear n c.args.got) c.requires.accepted in
    its_sound_with at c.hear-heard-2.new.self (coordinator.heard_sound c.in-Some.coordinator c.hear-heard-2.new.self c.args.got c.args.cost c.args.note
    c.args.now c.hear-heard-2.result c.hear-heard-2.new.out (its_sound at) may c.hear-heard-2.ensures.carries c.hear-heard-2.ensures.holds)
