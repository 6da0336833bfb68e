-- What a station sends by itself: a datagram or a command.
use Rattle.std.specs.Prelude.{◌≡◌, ◌≤◌, ℕ, List, Option, Some, None}
use Rattle.plc_base.specs.declared.limits.TheConstants.{LONGEST_DATAGRAM}
use Rattle.plc_base.specs.Keeper.{Write}
use Rattle.fragment_buffers.specs.Fragmentation.{pieces_of}
use Rattle.fragment_buffers.specs.Loads.{Load, load_of}
use Rattle.fragment_buffers.specs.NextTag.{take_write, tag_left}
use Rattle.station_queues.specs.declared.bodies.TheConstants.{LONGEST_COMMAND}
use Rattle.node_rules.specs.Memory.{StationMemory}
use Rattle.node_rules.specs.Drafts.{Draft, empty_draft}
use Rattle.node_rules.specs.Calls.{tag_taken}
use Rattle.plc_station.specs.declared.loads.LoadKind.{LoadKind}
use Rattle.plc_station.specs.declared.loads.LoadKind.TheVariants.{Datagram, Command}

-- this many octets may go out as a load
pub record IsLoad (kind : LoadKind) (octets : ℕ) : Type 0 where
  pub some : 1 ≤ octets
  pub fits : octets ≤ LONGEST_DATAGRAM
  pub command : kind ≡ Command → octets ≤ LONGEST_COMMAND

-- its tag, where the next one is known
abbrev pub own_tag : LoadKind → ℕ → Option ℕ
own_tag Datagram next = Some next
own_tag Command next = None

-- the load
abbrev pub own_load : LoadKind → List ℕ → ℕ → Load
own_load kind octets next = load_of (own_tag kind next) octets

-- in how many frames one of this many octets goes out
abbrev pub own_frames : LoadKind → ℕ → ℕ
own_frames Datagram octets = pieces_of octets
own_frames Command octets = 1

-- what is stored before one of this many octets has its tag
abbrev pub own_write : LoadKind → ℕ → ℕ → Option Write
own_write Datagram octets next = take_write octets next
own_write Command octets next = None

-- the next tag then
abbrev pub own_tag_left : LoadKind → ℕ → ℕ → ℕ
own_tag_left Datagram octets next = tag_left octets next
own_tag_left Command octets next = next

-- what is done before it is sent
abbrev pub own_draft : LoadKind → List ℕ → StationMemory → Draft StationMemory
own_draft Datagram octets l = tag_taken octets (empty_draft l)
own_draft Command octets l = empty_draft l
