-- What a step of the world's code says against the step of the rules.
use Rattle.std.specs.Prelude.{◌≡◌, ℕ, ⊤, Bool, true, false, not, ◌==◌, is_some, Result, Ok, Err, IsOk, IfErr}
use Rattle.std.specs.Option.{option_map_or}
use Rattle.node_rules.specs.Memory.{Node, node_address}
use Rattle.line_events.specs.declared.event.Event.{Event}
use Rattle.line_events.specs.declared.event.Event.TheVariants as events
use Rattle.line_events.specs.declared.event.StepFault.{StepFault}
use Rattle.line_events.specs.declared.event.StepFault.TheVariants as faults
use Rattle.line_events.specs.declared.happenings.Happenings.{Happenings}
use Rattle.line_rules.specs.Worlds.{World, Trace, node_at}
use Rattle.line_rules.specs.Steps.{Step}
use Rattle.line_world.specs.Bounds.{IsBounded}

-- The event was taken: the world is the one after it, and what happened is what the report says of it.
pub record Takes (happenings : Happenings) (new : World) (step : Step) : Type 0 where
  pub trace : Trace
  pub taken : step ≡ Ok (new, trace)
  pub reported : happenings ≡ trace.happenings

-- What a call answered is what the step says, or memory ran out for an event that the rules take. After a fault nothing has changed.
abbrev pub Gives : World → Result Happenings StepFault → World → Step → Type 0
Gives old (Ok h) new step = Takes h new step
Gives old (Err faults.Memory) new step = IsOk step × (new ≡ old)
Gives old (Err faults.Setup) new step = (step ≡ Err faults.Setup) × (new ≡ old)
Gives old (Err faults.Node) new step = (step ≡ Err faults.Node) × (new ≡ old)
Gives old (Err faults.Flight) new step = (step ≡ Err faults.Flight) × (new ≡ old)

-- whether this is the number of a node that has an address
abbrev pub has_address : World → ℕ → Bool
has_address w number = option_map_or (λ (x : Node). is_some (node_address x)) (node_at w number) false

-- Whether an event takes memory: a node is made, or frames may go out. None goes out to a node without an address, nor where the
-- coordinator turns to another key itself.
abbrev pub takes_memory : World → Event → Bool
takes_memory w (events.Coordinator eui key) = true
takes_memory w (events.Meter eui psk) = true
takes_memory w (events.Join node agent) = has_address w agent
takes_memory w (events.Send from to datagram) = has_address w to
takes_memory w (events.Deliver flight node cost) = true
takes_memory w (events.Inject node cost octets) = true
takes_memory w (events.Challenge node) = true
takes_memory w (events.Activate node index) = not (node == 0)
takes_memory w (events.Kick node) = true
takes_memory w (events.Bcast node datagram) = true
takes_memory w (events.Scan node) = true
takes_memory w (events.Choose node k) = true
takes_memory w (events.Path from to) = has_address w to
takes_memory w _ = false

abbrev pub is_memory : StepFault → Bool
is_memory faults.Memory = true
is_memory _ = false

-- a call that takes no memory does not fail for want of it
abbrev pub HasMemory : Bool → Result Happenings StepFault → Type 0
HasMemory true result = ⊤
HasMemory false result = IfErr result (λ fault. is_memory fault ≡ false)

-- What an event of a line did: what the step says, memory ran out only where the event may take some, and the bounds hold.
pub record Steps (takes : Bool) (old : World) (result : Result Happenings StepFault) (new : World)
    (step : Step) : Type 0 where
  pub gives : Gives old result new step
  pub memory : HasMemory takes result
  pub bounds : IsBounded new
