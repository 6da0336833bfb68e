-- Messages that go in a command for which there is room.
use Rattle.std.specs.Prelude.{ℕ, ◌&&◌, Bool, List, nat_lt, is_some, length, Option}
use Rattle.joining_messages.specs.declared.message.JoinMessage.{JoinMessage}
use Rattle.node_rules.specs.declared.refusal.CoordinatorRefusal.{CoordinatorRefusal}
use Rattle.node_rules.specs.Memory.{Memory, Command, next_hop}
use Rattle.node_rules.specs.MemoryDrafts.{with_station}
use Rattle.node_rules.specs.Plans.{within}
use Rattle.node_rules.specs.Drafts.{counters_left}
use Rattle.node_rules.specs.JoiningPackets.{command_of}
use Rattle.node_rules.specs.Calls.{command_fault}
use Rattle.node_rules.specs.ComposedPlans.{HasRoom, answer_if_sent, command_alone}
use Rattle.node_rules.specs.Coordinators.{Ordering, orders, lacking}

-- there is room for the command that carries a message
abbrev pub RoomFor : Memory → ℕ → JoinMessage → Type 0
RoomFor m to join = HasRoom m.station to (length (command_of join))

-- what is lacking for it
abbrev pub lacks : Memory → ℕ → ℕ → Option CoordinatorRefusal
lacks m to octets = command_fault orders lacking m.station to octets

-- a command goes, from the coordinator's address
abbrev pub command_sent : Memory → ℕ → List ℕ → ℕ → Ordering (Unit {0})
command_sent m to octets now =
    within (λ l. with_station l m) (answer_if_sent orders tt) (command_alone m.station 0 to (Command octets) now)

-- the one that carries a message
abbrev pub sent_command : Memory → ℕ → JoinMessage → ℕ → Ordering (Unit {0})
sent_command m to join now = command_sent m to (command_of join) now

-- whether there is a route to an address, and a counter for a frame
abbrev pub reaches : Memory → ℕ → Bool
reaches m to = is_some (next_hop m.station to) && nat_lt 0 (counters_left m.station)
