-- What a node makes of a frame that it accepted, for the line.
use Rattle.std.specs.Prelude.{◌≡◌, ⊤, ℕ, List, is_some, IsSome, IfSome}
use Rattle.std.specs.Option.{option_map}
use Rattle.plc_base.specs.declared.out_frame.Out.{Out}
use Rattle.node_rules.specs.Accepted.{Accepted}
use Rattle.node_rules.specs.Memory.{Memory, Node, Role, Coordinator, Meter}
use Rattle.node_rules.specs.Laws.{WaitingFits}
use Rattle.node_rules.specs.NodeSteps.{NodeStep}
use Rattle.line_rules.specs.Answers as rules
use Rattle.meter_node.specs.MeterAnswers.{CameUp}
use Rattle.line_world.specs.declared.nodes.reception.HandedUp.{HandedUp}
use Rattle.line_world.specs.declared.nodes.reception.Reception.{Reception}
use Rattle.line_world.specs.NodeOutcomes.{Did}

-- a frame came to a meter as its station accepts them
abbrev pub CameTo : Role → Accepted → Memory → Type 0
CameTo Coordinator got m = ⊤
CameTo (Meter psk) got m = CameUp got.path m.station

-- A node may hear a frame: it is not halted, its station accepted the frame, and what waits fits.
pub record MayHear (x : Node) (got : Accepted) : Type 0 where
  pub running : IsSome x.memory
  pub came : IfSome x.memory (λ m. CameTo x.role got m)
  pub waits : IfSome x.memory (λ m. WaitingFits m.station)

-- a datagram that the rules hand up, as a node hands it up
abbrev pub handed_up : rules.Up → HandedUp
handed_up u = record { note = u.note; octets = u.octets }

-- The word and what is reported beside it are those of the reception.
pub record ReportsReception (reported : Reception) (r : rules.Reception) : Type 0 where
  pub answer : reported.answer ≡ r.answer
  pub up : reported.up ≡ option_map handed_up r.up
  pub took : reported.took ≡ is_some r.took
  pub done : reported.done ≡ option_map (λ (d : rules.CompletedJoining). d.eui) r.done

-- The node of this number heard a frame.
pub record Received (step : NodeStep rules.Reception) (old : List Node) (number : ℕ) (reported : Reception)
    (out : Out) (new : List Node) : Type 0 where
  pub reports : ReportsReception reported step.answer
  pub did : Did step old number step.answer out new
