-- What is old at each node ends.
use Rattle.std.proofs.Common.{◌∷◌, List, map, ap, refl, ◌∙◌}
use Rattle.line_rules.specs.Steps.{ticked}
use Rattle.node_rules.specs.Memory.{Memory, Node}
use Rattle.node_rules.specs.States.{State}
use Rattle.line_world.proofs.CoordinatorActs.{ended, holds, stored_sound}
use Rattle.line_world.proofs.NumberedNodes.{coordinator_at, its_sound, view_of}
use Rattle.line_world.proofs.nodes.Nodes.tick.Goals as goal

pub tick-requires : goal.tick-requires
tick-requires c =
    let at = coordinator_at c.self.inside.coordinator c.self.inside.meters.items _ 0 c.in-Some.coordinator c.self.view_is c.self.invariant c.in-Some.is refl in
    record { holds = holds c.in-Some.coordinator (its_sound at) }

pub tick_meters-requires : goal.tick_meters-requires
tick_meters-requires c =
    record { sound = c.self.invariant.meters }

pub returns : goal.returns
returns c =
    let at = coordinator_at c.self.inside.coordinator c.self.inside.meters.items _ 0 c.in-Some.coordinator c.self.view_is c.self.invariant c.in-Some.is refl in
    (λ i. ended c.args.now c.in-Some.coordinator c.tick.new.self c.tick.ensures.state i ∷ c.tick_meters.ensures.meters i)
    ∙ ap (λ (ns : List Node). map (ticked c.args.now) ns) (view_of at)

pub invariant_of-self-2 : goal.invariant_of-self-2
invariant_of-self-2 c =
    let at = coordinator_at c.self.inside.coordinator c.self.inside.meters.items _ 0 c.in-Some.coordinator c.self.view_is c.self.invariant c.in-Some.is refl in
    record {
      coordinator =
          stored_sound c.in-Some.coordinator c.tick.new.self (its_sound at) (ap (λ (s : State Memory). s.store) c.tick.ensures.state) c.tick.ensures.holds;
      meters = c.tick_meters.ensures.sound;
      begun = tt;
    }
