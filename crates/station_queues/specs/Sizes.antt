-- How much a node gathers, and how much waits at it.
use Rattle.std.specs.Prelude.{◌≤◌, length}
use Rattle.std.specs.List.{All}
use Rattle.fragment_buffers.specs.Loads.{Load, Datagram, Command}
use Rattle.fragment_buffers.specs.PieceIntake.{blocks_held}
use Rattle.fragment_buffers.specs.WaitingBodies.{Body, waiting_blocks}
use Rattle.station_queues.specs.Bodies.{Held}

-- a datagram has 1 to 1,280 octets, a command 1 to 374
abbrev pub IsLoadSized : Load → Type 0
IsLoadSized (Datagram octets tag) = (1 ≤ length octets) × (length octets ≤ 1280)
IsLoadSized (Command octets) = (1 ≤ length octets) × (length octets ≤ 374)

-- At most 8 reassemblies in 80 blocks, and at most 8 bodies that wait, in 80 other ones.
pub record AreSized (h : Held) : Type 0 where
  pub reassemblies : length h.reassemblies ≤ 8
  pub gathered : blocks_held h.reassemblies ≤ 80
  pub bodies : length h.waiting ≤ 8
  pub waiting : waiting_blocks h.waiting ≤ 80
  pub loads : All (λ (b : Body). IsLoadSized b.load) h.waiting
