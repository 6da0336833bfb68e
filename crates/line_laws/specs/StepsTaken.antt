-- The steps that asks for a path took, each with the node that took it.
use Rattle.std.specs.Prelude.{◌≡◌, ◌⊎◌, ℕ, true, false, List, [], ◌∷◌, Some, IfSome}
use Rattle.mesh_header.specs.declared.unit.Unit.TheVariants as units
use Rattle.path_requests.specs.declared.message.PathMessage.TheVariants.{Ask}
use Rattle.path_requests.specs.Reader.{path_in}
use Rattle.path_requests.specs.Walks.{ends_with}
use Rattle.node_rules.specs.Ciphers.{network}
use Rattle.node_rules.specs.Memory.{Node, node_address, node_route}
use Rattle.line_events.specs.declared.event.Event.{Event}
use Rattle.line_events.specs.declared.event.Event.TheVariants as events
use Rattle.line_rules.specs.Runs.{Entry, IsLineRun}
use Rattle.line_rules.specs.Worlds.{Stepping, World, node_at, start}
use Rattle.line_laws.specs.ReachTraces.{FrameCame}

-- A line asks a node for the way to another one, which has this address.
pub record AskSent (w : World) (event : Event) (number target : ℕ) : Type 0 where
  pub other : ℕ
  pub line : event ≡ events.Path number other
  pub node : Node
  pub there : node_at w other ≡ Some node
  pub address : node_address node ≡ Some target

-- An ask for the way to this address came to a node, sealed for it alone by the neighbour whose address is the last of the ask's walk.
pub record AskCame (w : World) (event : Event) (number target : ℕ) : Type 0 where
  pub from : ℕ
  pub body : List ℕ
  pub came : FrameCame w event number from false (units.Local 5 body)
  pub walk : List ℕ
  pub read : path_in body ≡ Some (Ask target walk)
  pub last : ends_with from walk ≡ true

-- A step was taken by a node of this address, which was asked by a line or heard the ask, and whose valid next hop to the target is where it leads.
pub record IsStepTaken (w : World) (x : Entry) (s : Stepping) : Type 0 where
  pub number : ℕ
  pub node : Node
  pub there : node_at x.after number ≡ Some node
  pub address : node_address node ≡ Some s.from
  pub route : node_route node s.target ≡ Some s.to
  pub asked : AskSent w x.event number s.target ⊎ AskCame w x.event number s.target

-- so it is of each step that a run has
abbrev pub AreStepsTaken : World → List Entry → Type 0
AreStepsTaken w [] = Unit {0}
AreStepsTaken w (x ∷ xs) = IfSome x.trace.further.stepping (IsStepTaken w x) × AreStepsTaken x.after xs

-- and so it is of every run of the network, forged or not, over restarts and failed writes
abbrev pub EveryStepIsTaken : Type 0
EveryStepIsTaken = (entries : List Entry) → IsLineRun network entries → AreStepsTaken start entries
