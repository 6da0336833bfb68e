-- What a node does by its further rules, as the line has it.
use Rattle.std.specs.Prelude.{◌≡◌, ℕ, List, Option, is_some, Result, Ok, Err, IfNone, IfSome, slice_set, if◌then◌else◌}
use Rattle.plc_base.specs.declared.out_frame.Out.{Out}
use Rattle.broadcast_log.specs.declared.broadcast.Broadcast.{Broadcast}
use Rattle.broadcast_log.specs.Log.{AgreesWith}
use Rattle.neighbour_checks.specs.Neighbours.{Neighbours}
use Rattle.node_rules.specs.declared.refusal.Dropped.TheVariants.{Store}
use Rattle.node_rules.specs.declared.refusal.LocalRefusal.{LocalRefusal}
use Rattle.node_rules.specs.declared.refusal.LocalRefusal.TheVariants as locals
use Rattle.node_rules.specs.CarriedPlans.{Carries, nothing}
use Rattle.node_rules.specs.Memory.{StationMemory, Memory, Node}
use Rattle.node_rules.specs.MemoryDrafts.{in_memory}
use Rattle.node_rules.specs.Neighbours.{CarriesAfter, followed}
use Rattle.node_rules.specs.NodeSteps.{NodeStep}
use Rattle.node_rules.specs.Plans.{Plan, within}
use Rattle.node_rules.specs.States.{State}
use Rattle.reach_rules.specs.declared.heard.CommandHeard.{CommandHeard}
use Rattle.reach_rules.specs.declared.heard.CommandHeard.TheVariants as commands
use Rattle.reach_rules.specs.declared.refusal.ReachDropped.{ReachDropped}
use Rattle.reach_rules.specs.declared.refusal.ReachDropped.TheVariants.{Known}
use Rattle.reach_rules.specs.CheckedReplies.{hear_acknowledgement}
use Rattle.reach_rules.specs.ReachingNodes.{Beside, Reaching, nothing_beside}
use Rattle.reach_rules.specs.FurtherReceptions.{NeighbourCommand, hear_command}
use Rattle.line_rules.specs.Answers.{command_word}
use Rattle.line_rules.specs.Further.{without_log, broadcast_up, path_line, reaches, beside_after}
use Rattle.line_world.specs.declared.nodes.command.CommandRef.{CommandRef}
use Rattle.line_world.specs.declared.nodes.command.Commanded.{Commanded}
use Rattle.line_world.specs.declared.nodes.station_broadcasts.BroadcastRef.{BroadcastRef}
use Rattle.line_world.specs.declared.nodes.station_further.PathHeard.{PathHeard}
use Rattle.line_world.specs.declared.nodes.station_further.PathHeard.TheVariants as paths
use Rattle.line_world.specs.NodeOutcomes.{Did, given_by}

-- # Answers

-- an answer, its value read as another
abbrev pub answer_as : {A B E : Type 0} → (A → B) → Result A E → Result B E
answer_as reads (Ok a) = Ok (reads a)
answer_as reads (Err reason) = Err reason

-- # Commands

-- a command, as its rule takes it
abbrev pub command_of : CommandRef → NeighbourCommand
command_of c = record { from = c.from; to_all = c.to_all; code = c.code; body = c.body }

-- a broadcast that stands in its body, as the log has it
abbrev pub broadcast_of : BroadcastRef → Broadcast
broadcast_of b = record { hops = b.hops; origin = b.origin; number = b.number; octets = b.octets }

-- What is reported of a command is what its rule says.
pub record ReportsCommand (reported : Commanded) (number : ℕ) (r : Result CommandHeard ReachDropped) : Type 0 where
  pub answer : reported.answer ≡ command_word r
  pub bup : reported.bup ≡ broadcast_up number r
  pub path : reported.path ≡ path_line number r

-- what a node made of a path message, as its rule says it
abbrev pub path_heard : PathHeard → CommandHeard
path_heard paths.Relayed = commands.Relayed
path_heard paths.Answered = commands.Answered
path_heard (paths.Path walk) = commands.Path walk

-- the answer to a broadcast
abbrev pub handed_up : Broadcast → Result (Unit {0}) ReachDropped → Result CommandHeard ReachDropped
handed_up b (Ok u) = Ok (commands.Broadcast b.origin b.number b.octets)
handed_up b (Err reason) = Err reason

-- the answer to a command that was sent, in the words of another rule
abbrev pub ended_by : {E : Type 0} → (spent store : E) → Result (Unit {0}) LocalRefusal → Result (Unit {0}) E
ended_by spent store (Ok u) = Ok u
ended_by spent store (Err locals.Halted) = Err store
ended_by spent store (Err locals.NotJoined) = Err store
ended_by spent store (Err locals.CounterSpent) = Err spent
ended_by spent store (Err locals.Store) = Err store

-- the answer to an acknowledgement, and the checks that are left
abbrev pub check_ended : Neighbours → NeighbourCommand → Result CommandHeard ReachDropped × Neighbours
check_ended s c =
    let plan : Plan (Reaching (Unit {0})) (Result CommandHeard ReachDropped) =
    hear_acknowledgement (record { memory = tt; beside = record nothing_beside { checks = s } }) c.from c.to_all c.body in
    (plan.answer, plan.memory.beside.checks)

-- An acknowledgement ended a check, or was dropped.
pub record EndsCheck (old : Neighbours) (c : NeighbourCommand) (r : Result (Unit {0}) ReachDropped) (new : Neighbours) : Type 0 where
  pub answer : answer_as (λ _. commands.Acked) r ≡ (check_ended old c).0
  pub checks : new ≡ (check_ended old c).1

-- # Stations

-- a plan of the further rules, as it is for what a station holds
abbrev pub of_held : {A : Type 0} → Beside → (Reaching StationMemory → Plan (Reaching StationMemory) A) → StationMemory
    → Plan StationMemory A
of_held b plan l = within (λ y. y.memory) (λ a. a) (plan (record { memory = l; beside = b }))

-- what then stands beside the station; one that has halted knows nothing of its log
abbrev pub beside_left : {A : Type 0} → Beside → (Reaching StationMemory → Plan (Reaching StationMemory) A) → StationMemory
    → Option StationMemory → Beside
beside_left b plan l left =
    if is_some left then (plan (record { memory = l; beside = b })).memory.beside else without_log b

-- A station carried out a plan of its further rules, after what was given out before in the step. A halted one did nothing.
pub record Reaches {A : Type 0} (old : State StationMemory) (b : Beside) (halted : A)
    (plan : Reaching StationMemory → Plan (Reaching StationMemory) A) (answer : A) (before out : Out)
    (new : State StationMemory) (c : Beside) : Type 0 where
  pub stayed : IfNone old.memory ((answer ≡ halted) × ((out ≡ nothing) × ((new ≡ old) × (c ≡ b))))
  pub carried : IfSome old.memory (λ l. CarriesAfter old (of_held b plan l) answer before out new)
  pub beside : IfSome old.memory (λ l. c ≡ beside_left b plan l new.memory)

-- The same of what comes first in the step.
pub record ReachesFirst {A : Type 0} (old : State StationMemory) (b : Beside) (halted : A)
    (plan : Reaching StationMemory → Plan (Reaching StationMemory) A) (answer : A) (out : Out) (new : State StationMemory)
    (c : Beside) : Type 0 where
  pub stayed : IfNone old.memory ((answer ≡ halted) × ((out ≡ nothing) × ((new ≡ old) × (c ≡ b))))
  pub carried : IfSome old.memory (λ l. Carries old (of_held b plan l) answer out new)
  pub beside : IfSome old.memory (λ l. c ≡ beside_left b plan l new.memory)

-- A station heard a command, and this is reported of it.
pub record ReachesCommand (old : State StationMemory) (b : Beside)
    (plan : Reaching StationMemory → Plan (Reaching StationMemory) (Result CommandHeard ReachDropped)) (reported : Commanded)
    (number : ℕ) (before out : Out) (new : State StationMemory) (c : Beside) : Type 0 where
  pub answer : Result CommandHeard ReachDropped
  pub reports : ReportsCommand reported number answer
  pub reaches : Reaches old b (Err (Known Store)) plan answer before out new c

-- # Nodes

-- what a step gives out after what was given out before; where its node is halted nothing is left of either
abbrev pub given_after : {A : Type 0} → Out → NodeStep A → Out
given_after before d = if is_some d.node.memory then followed before (given_by d) else nothing

-- The node of this number took this step, after what was given out before, and the others are as they were.
pub record DidAfter {A : Type 0} (step : NodeStep A) (old : List Node) (number : ℕ) (answer : A) (before out : Out)
    (new : List Node) : Type 0 where
  pub answer_is : answer ≡ step.answer
  pub out_is : out ≡ given_after before step
  pub nodes_are : new ≡ slice_set old number step.node

-- The node of this number carried out a plan of its further rules, and this is what stands beside it then.
pub record Reached {A : Type 0} (x : Node) (b : Beside) (halted : A)
    (plan : Reaching Memory → Plan (Reaching Memory) A) (old : List Node) (number : ℕ) (answer : A) (before out : Out)
    (new : List Node) (c : Beside) : Type 0 where
  pub did : DidAfter (reaches x b halted plan) old number answer before out new
  pub beside : c ≡ beside_after x b plan (reaches x b halted plan).node

-- The same of what comes first in the step.
pub record ReachedFirst {A : Type 0} (x : Node) (b : Beside) (halted : A)
    (plan : Reaching Memory → Plan (Reaching Memory) A) (old : List Node) (number : ℕ) (answer : A) (out : Out)
    (new : List Node) (c : Beside) : Type 0 where
  pub did : Did (reaches x b halted plan) old number answer out new
  pub beside : c ≡ beside_after x b plan (reaches x b halted plan).node

-- A node heard a command, and this is reported of it.
pub record ReachedCommand (x : Node) (b : Beside) (c : NeighbourCommand) (old : List Node) (number : ℕ) (reported : Commanded)
    (before out : Out) (new : List Node) (left : Beside) : Type 0 where
  pub reports : ReportsCommand reported number (reaches x b (Err (Known Store)) (λ y. hear_command in_memory y c)).answer
  pub reached : Reached x b (Err (Known Store)) (λ y. hear_command in_memory y c) old number
      (reaches x b (Err (Known Store)) (λ y. hear_command in_memory y c)).answer before out new left

-- the log of a node that is not halted is what its store gives
abbrev pub IsLogOf : Beside → Node → Type 0
IsLogOf b x = IfSome x.memory (λ _. AgreesWith b.log x.store.records)
