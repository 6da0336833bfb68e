-- A node that accepted a frame may hear it.
use Rattle.std.proofs.Common.{◌≡◌, Option, Some, None, Result, Ok, Err}
use Rattle.std.specs.Prelude.{IfSome, IfNone, IfOk, IsSome}
use Rattle.std.specs.Option.{option_map}
use Rattle.plc_base.specs.declared.out_frame.Out.{Out}
use Rattle.node_rules.specs.Accepted.{Accepted}
use Rattle.node_rules.specs.declared.refusal.FrameRefusal.{FrameRefusal}
use Rattle.node_rules.specs.declared.refusal.FrameRefusal.TheVariants.{Halted}
use Rattle.node_rules.specs.CarriedPlans.{Carries}
use Rattle.node_rules.specs.States.{State}
use Rattle.node_rules.specs.Frames.{Arrived}
use Rattle.node_rules.specs.Memory.{StationMemory}
use Rattle.node_rules.specs.Laws.{WaitingFits}
use Rattle.node_rules.specs.Acceptance.{accept}
use Rattle.meter_node.specs.MeterAnswers.{CameUp}
use Rattle.meter_node.specs.MeterStates.{MeterState, memory_with}
use Rattle.meter_node.proofs.AcceptingRules.{accepted_came}
use Rattle.line_world.specs.Nodes.{of_meter}
use Rattle.line_world.specs.Receptions.{MayHear}
use Rattle.line_world.proofs.MeterActs.{with_its}

-- what holds of what a station holds, of its meter's memory
of_memory : (y : MeterState) (o : Option StationMemory) (got : Accepted) → IsSome o → IfSome o (CameUp got.path)
    → IsSome (option_map (memory_with y) o) × IfSome (option_map (memory_with y) o) (λ m. CameUp got.path m.station)
of_memory y None got is h = absurd (cc)
of_memory y (Some l) got is h = ((cc), h)

waiting_in : (y : MeterState) (o : Option StationMemory) → IfSome o (λ l. WaitingFits l) → IfSome (option_map (memory_with y) o) (λ m. WaitingFits m.station)
waiting_in y None w = tt
waiting_in y (Some l) w = w

-- a meter that accepted a frame may hear it
pub meter_may_hear : (x : MeterState) (s t : State StationMemory) (a : Option Arrived) (r : Result Accepted FrameRefusal) (out : Out)
    → IfNone s.memory ((r ≡ Err Halted) × (t ≡ s)) → IfSome s.memory (λ l. Carries s (accept l s.eui a) r out t)
    → IfOk r (λ _. IsSome t.memory) → IfSome t.memory (λ l. WaitingFits l) → IfOk r (λ got. MayHear (of_meter (with_its t x)) got)
meter_may_hear x s t a (Ok got) out halted carries running waits =
    let both = of_memory (with_its t x) t.memory got running (accepted_came s t a got out halted carries) in
    record { running = both.0; came = both.1; waits = waiting_in (with_its t x) t.memory waits }
meter_may_hear x s t a (Err reason) out halted carries running waits = tt
