-- The node that an event names.
use Rattle.std.specs.Prelude.{ℕ, ◌==◌, Result, Ok, Err, if◌then◌else◌}
use Rattle.std.specs.Option.{option_map_or}
use Rattle.node_rules.specs.Memory.{Node}
use Rattle.line_events.specs.declared.event.StepFault.{StepFault}
use Rattle.line_events.specs.declared.event.StepFault.TheVariants as faults
use Rattle.line_rules.specs.Steps.{has_begun}
use Rattle.line_rules.specs.Worlds.{World, node_at}

-- the number of a node that is there, once there is a coordinator
abbrev pub found : World → ℕ → Result ℕ StepFault
found w number =
    if has_begun w then option_map_or (λ (x : Node). Ok number) (node_at w number) (Err faults.Node) else Err faults.Setup

-- the number of a meter that is there: node 0 is none
abbrev pub found_meter : World → ℕ → Result ℕ StepFault
found_meter w number =
    if has_begun w then (if number == 0 then Err faults.Node else found w number) else Err faults.Setup
