-- What a node holds beside its store is within its sizes, whatever the ciphers are.
use Rattle.std.specs.Prelude.{◌<◌, ◌≤◌, ◌^◌, All, length}
use Rattle.fragment_buffers.specs.PieceIntake.{blocks_held}
use Rattle.node_rules.specs.Memory.{StationMemory, Body, Load, Datagram, Command, Memory}
use Rattle.node_rules.specs.Laws.{WaitingFits}

-- a load, but for how long a command is: other ciphers than the network's may make packets of any length
abbrev pub IsAnyLoad : Load → Type 0
IsAnyLoad (Datagram octets tag) = (1 ≤ length octets) × (length octets ≤ 1280) × (tag < 2 ^ 16)
IsAnyLoad (Command octets) = 1 ≤ length octets

-- What is gathered and what waits, and the tag of the next datagram.
pub record IsStationSized (l : StationMemory) : Type 0 where
  pub reassemblies : (length l.reassemblies ≤ 8) × (blocks_held l.reassemblies ≤ 80)
  pub waiting : WaitingFits l
  pub loads : All (λ (b : Body). IsAnyLoad b.load) l.waiting
  pub tag : l.next_tag < 2 ^ 16

-- The same with sessions and random values.
pub record IsMemorySized (m : Memory) : Type 0 where
  pub station : IsStationSized m.station
  pub sessions : length m.sessions ≤ 8
  pub randoms : length m.randoms ≤ 8
