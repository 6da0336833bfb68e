-- What the coordinator says to a meter in answer, by the way of the meter's session.
use Rattle.std.specs.Prelude.{ℕ, ⊤, length, List, [], Option, None, Result}
use Rattle.plc_base.specs.Keeper.{Write}
use Rattle.plc_base.specs.declared.tags.TagList.{TagList}
use Rattle.joining_messages.specs.declared.message.JoinMessage.{JoinMessage}
use Rattle.node_rules.specs.declared.heard.Way.{Way}
use Rattle.node_rules.specs.declared.heard.Way.TheVariants.{Air, Near, Mesh}
use Rattle.node_rules.specs.declared.heard.CoordinatorHeard.{CoordinatorHeard}
use Rattle.node_rules.specs.declared.refusal.Dropped.{Dropped}
use Rattle.node_rules.specs.Memory.{Memory}
use Rattle.node_rules.specs.MemoryDrafts.{in_memory}
use Rattle.node_rules.specs.Plans.{Plan}
use Rattle.node_rules.specs.Drafts.{Draft, checked, sealing}
use Rattle.node_rules.specs.JoiningPackets.{command_of}
use Rattle.node_rules.specs.HearingRules.{dropped, dropped_for}
use Rattle.node_rules.specs.Calls.{command_fault}
use Rattle.node_rules.specs.ComposedPlans.{begun}
use Rattle.node_rules.specs.Coordinators.{Hearing, says, say_lack, ends}
use Rattle.coordinator.specs.MeshCommands.{RoomFor}

-- there is room for what is said: only a command needs any
abbrev pub RoomToSay : Memory → Way → JoinMessage → Type 0
RoomToSay m (Air eui) join = ⊤
RoomToSay m (Near agent) join = ⊤
RoomToSay m (Mesh origin) join = RoomFor m origin join

-- what is lacking for it
abbrev pub say_fault : Memory → Way → JoinMessage → Option Dropped
say_fault m (Air eui) join = None
say_fault m (Near agent) join = None
say_fault m (Mesh origin) join = command_fault dropped dropped_for m.station origin (length (command_of join))

-- what was done before it: the puts, the memory that is left, and the pair tags
abbrev pub done_by : List Write → Memory → TagList → Draft Memory
done_by puts n tags = begun puts n [] tags.made tags.opened

-- it is said where there is room for it, and given out with these pair tags
abbrev pub saying : Memory → Way → JoinMessage → TagList → ℕ → Plan Memory (Result (Unit {0}) Dropped)
saying m way join tags now = sealing in_memory dropped (says way join now (done_by [] m tags)) tt

-- it is said after other doings, and what is answered
abbrev pub said_after : Memory → Way → JoinMessage → ℕ → Draft Memory → CoordinatorHeard → Hearing
said_after m way join now d answer = checked dropped m (say_lack m way join) (ends m (says way join now d) answer)
