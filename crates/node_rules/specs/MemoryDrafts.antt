-- The same words over all that a meter or the coordinator holds in memory.
use Rattle.std.specs.Prelude.{ℕ, List, [], ◌∷◌, ◌++◌, length, drop, nat_lt, Option, Some, None, Result, Ok, Err, slice_get}
use Rattle.std.specs.Option.{option_map, option_map_or}
use Rattle.plc_base.specs.declared.address.Eui.{Eui}
use Rattle.plc_base.specs.declared.key.RandomOctets.{RandomOctets}
use Rattle.plc_base.specs.declared.tags.PairTag.{PairTag}
use Rattle.joining_messages.specs.declared.message.JoinMessage.{JoinMessage}
use Rattle.eap_psk.specs.declared.fault.EapFault.{EapFault}
use Rattle.eap_psk.specs.declared.fault.EapFault.TheVariants as eap
use Rattle.node_rules.specs.declared.heard.Way.{Way}
use Rattle.node_rules.specs.declared.heard.Heard.{Heard}
use Rattle.node_rules.specs.declared.heard.Heard.TheVariants.{Joining}
use Rattle.node_rules.specs.declared.refusal.Dropped.{Dropped}
use Rattle.node_rules.specs.declared.refusal.Dropped.TheVariants as drops
use Rattle.node_rules.specs.declared.refusal.RandomFault.{RandomFault}
use Rattle.node_rules.specs.declared.refusal.RandomFault.TheVariants.{RandomsFull}
use Rattle.node_rules.specs.Frames.{Up, Down}
use Rattle.node_rules.specs.Memory.{StationMemory, Memory, address_of}
use Rattle.node_rules.specs.Plans.{Plan}
use Rattle.node_rules.specs.Drafts.{Draft, StationPlace, Ends, empty_draft, refused, sealing, choose, lack}
use Rattle.node_rules.specs.Calls as calls
use Rattle.node_rules.specs.HearingRules.{dropped_for}
use Rattle.node_rules.specs.JoiningPackets.{command_of}

-- the memory with another line
abbrev pub with_station : StationMemory → Memory → Memory
with_station l m = record m { station = l }

-- a memory holds what its node is on the line
abbrev pub in_memory : StationPlace Memory
in_memory = record { station = λ m. m.station; with_station = with_station }

-- what is being done on the line, and the same back in the memory
abbrev pub station_part : Draft Memory → Draft StationMemory
station_part d =
    record {
      puts = d.puts;
      memory = d.memory.station;
      units = d.units;
      plain = d.plain;
      made = d.made;
      opened = d.opened;
    }

-- what was done on the line, in the memory
abbrev pub memory_part : Draft Memory → Draft StationMemory → Draft Memory
memory_part d l =
    record {
      puts = l.puts;
      memory = with_station l.memory d.memory;
      units = l.units;
      plain = l.plain;
      made = l.made;
      opened = l.opened;
    }

-- a word of the line
unfoldable pub on_station : (Draft StationMemory → Draft StationMemory) → Draft Memory → Draft Memory
on_station word d = memory_part d (word (station_part d))

-- a change of the memory beside the line, of which nothing is stored
unfoldable pub with_memory_by : (Memory → Memory) → Draft Memory → Draft Memory
with_memory_by change d = record d { memory = change d.memory }

-- pair tags are made, and checked
unfoldable pub with_pair_tags : List PairTag → List PairTag → Draft Memory → Draft Memory
with_pair_tags made opened d = record d { made = d.made ++ made; opened = d.opened ++ opened }

-- a plain frame goes up to an agent, or down to the node of its message
unfoldable pub goes_up : ℕ → Eui → JoinMessage → Draft Memory → Draft Memory
goes_up agent own message d = record d { plain = d.plain ++ Up agent own message ∷ [] }

-- a plain frame goes down to the node of its message
unfoldable pub goes_down : ℕ → JoinMessage → Draft Memory → Draft Memory
goes_down own message d = record d { plain = d.plain ++ Down own message ∷ [] }

-- a joining message sets out in a command, from the address of the ring that is left
unfoldable pub is_commanded : ℕ → JoinMessage → ℕ → Draft Memory → Draft Memory
is_commanded to message now d =
    option_map_or (λ own. on_station (calls.commands own to (command_of message) now) d) (address_of d.memory.station) d

-- what such a command lacks
abbrev pub command_lack : Memory → ℕ → JoinMessage → Option Dropped
command_lack m to message = option_map dropped_for (lack m.station to (length (command_of message)))

-- # Random values

-- the oldest random value, and the memory without it
abbrev pub oldest : Memory → Option RandomOctets
oldest m = slice_get m.randoms 0

-- the memory without the oldest random value
abbrev pub without_oldest : Memory → Memory
without_oldest m = record m { randoms = drop 1 m.randoms }

-- a random value takes no counter and is not stored, so neither end is met
abbrev pub given_ends : Ends RandomFault
given_ends = record { spent = RandomsFull; store = RandomsFull }

-- a random value more, of which 8 are held at most
abbrev pub give_random : Memory → RandomOctets → Plan Memory (Result (Unit {0}) RandomFault)
give_random m value =
    choose (nat_lt 7 (length m.randoms)) (refused given_ends m RandomsFull)
    (sealing in_memory given_ends
    (with_memory_by (λ n. record n { randoms = n.randoms ++ value ∷ [] }) (empty_draft m)) tt)

-- # Joining commands that the station hands on

-- A joining command for this node, unread.
pub record Unread : Type 0 where
  pub way : Way
  pub body : List ℕ

-- whether a station's answer is one
abbrev pub unread : Result Heard Dropped → Option Unread
unread (Err reason) = None
unread (Ok (Joining way body)) = Some (record { way = way; body = body })
unread (Ok _) = None

-- the faults of a packet among the reasons of a drop
abbrev pub packet_fault : EapFault → Dropped
packet_fault eap.Form = drops.Form
packet_fault eap.OtherSession = drops.OtherSession
packet_fault eap.BadMac = drops.BadMac
packet_fault eap.BadChannel = drops.BadChannel
packet_fault eap.NoSuccess = drops.NoSuccess
