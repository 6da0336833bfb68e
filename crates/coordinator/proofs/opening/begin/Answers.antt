use Rattle.std.proofs.Common.{[], sym, ap, ◌∙◌}
use Rattle.std.specs.Prelude.{is_some}
use Rattle.std.specs.Option.{option_map}
use Rattle.group_keys.specs.KeyRing.{Ring}
use Rattle.node_rules.specs.RestartStates.{first_grant}
use Rattle.plc_station.proofs.CarriedPlans.{if_some, at_some}
use Rattle.coordinator.specs.CoordinatorStates.{memory_in, state_in}
use Rattle.coordinator.proofs.Beginnings.{rests}
use Rattle.coordinator.proofs.opening.begin.Goals as goal

pub returns-then-is_some-clause-carries : goal.returns-then-is_some-clause-carries
returns-then-is_some-clause-carries g c =
    λ b. if_some c.args.station.now.memory _ (λ l running.
    rests (memory_in [] [] b l) (first_grant c.args.key.now) (state_in c.args.station.now [] [] b)
    (ap (option_map (memory_in [] [] b)) running)
    (sym (c.if-is_some.ensures ∙ ap (λ (r : Ring). is_some r) (c.grant.ensures ∙ at_some c.args.station.now.memory _ l running c.ring.ensures))))
