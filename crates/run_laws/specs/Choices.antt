-- By which agent a meter joins that chooses one.
use Rattle.std.specs.Prelude.{◌≡◌, ℕ, Bool, true, false, List, [], ◌∷◌, ◌++◌, is_some, IfSome, Some}
use Rattle.pan_discovery.specs.Agents.{kth_of}
use Rattle.pan_discovery.specs.History.{after_history}
use Rattle.node_rules.specs.Ciphers.{network}
use Rattle.node_rules.specs.Memory.{Memory, MeterSession, Node, ByAgent}
use Rattle.line_events.specs.declared.event.Answer.{Answer}
use Rattle.line_events.specs.declared.event.Answer.TheVariants as answers
use Rattle.line_events.specs.declared.event.Event.{Event}
use Rattle.line_events.specs.declared.event.Event.TheVariants as events
use Rattle.line_events.specs.declared.happenings.AgentLine.{AgentLine}
use Rattle.line_rules.specs.FurtherRuns.{scan_history}
use Rattle.line_rules.specs.Runs.{Entry, IsLineRun}
use Rattle.line_rules.specs.Worlds.{World, node_at}

-- whether a meter began to join
abbrev pub is_asked : Answer → Bool
is_asked answers.Asked = true
is_asked _ = false

-- The node of a number has a joining session by the agent of an address.
pub record JoinsBy (w : World) (number address : ℕ) : Type 0 where
  pub node : Node
  pub there : node_at w number ≡ Some node
  pub memory : Memory
  pub runs : node.memory ≡ Some memory
  pub session : MeterSession
  pub is : memory.session ≡ Some session
  pub by : session.session_way ≡ ByAgent address

-- The agent that is reported where a meter chose the k-th: of all senders of beacons that it heard since its scan began, each at its least total, the k-th
-- in the order of totals. The meter has begun to join by it.
pub record IsChosen (before : List Entry) (after : World) (number k : ℕ) (line : AgentLine) : Type 0 where
  pub node : line.node ≡ number
  pub kth : kth_of (after_history (scan_history number [] before)).agents k ≡ Some (line.address, line.total)
  pub joins : JoinsBy after number line.address

-- an agent is reported where the answer is Asked, and it is the chosen one
abbrev pub IsChosenRight : List Entry → Entry → Event → Type 0
IsChosenRight before x (events.Choose number k) =
    (is_some x.trace.happenings.agent ≡ is_asked x.trace.happenings.answer)
    × IfSome x.trace.happenings.agent (IsChosen before x.after number k)
IsChosenRight before x event = Unit {0}

-- so it is of each event of a run
abbrev pub AreChosenRightAfter : List Entry → List Entry → Type 0
AreChosenRightAfter before [] = Unit {0}
AreChosenRightAfter before (x ∷ xs) = IsChosenRight before x x.event × AreChosenRightAfter (before ++ x ∷ []) xs

abbrev pub EveryChoiceIsRight : Type 0
EveryChoiceIsRight = (entries : List Entry) → IsLineRun network entries → AreChosenRightAfter [] entries
