-- Whose address is whose, and who a frame is for.
use Rattle.std.specs.Prelude.{ℕ, ◌+◌, ◌-◌, min, eqb, ltb, cond, List, [], ◌∷◌, length, Option, Some, None}
use Rattle.std.specs.Ordering.{nat_cmp}
use Rattle.std.specs.BTreeMap.{insert_entry, is_at}
use Rattle.std.specs.Map.{lookup}
use Rattle.std.specs.Int.{w64, to_be_bytes, from_be_bytes}
use Rattle.plc_base.specs.declared.address.Eui.{Eui}
use Rattle.plc_base.specs.declared.fields.Fault.{Fault}
use Rattle.mac_frames.specs.declared.fault.FrameFaultKind.{FrameFaultKind}
use Rattle.mac_frames.specs.declared.head.MacHead.{MacHead}
use Rattle.mac_frames.specs.declared.head.MacHead.TheVariants as heads
use Rattle.mac_frames.specs.Faults.{frame_fault}
use Rattle.mac_frames.specs.Reader.{head_in}
use Rattle.line_air.specs.declared.frame.Target.{Target}
use Rattle.line_air.specs.declared.frame.Target.TheVariants.{All, Node, Nobody}
use Rattle.line_figures.specs.declared.frames.FrameKind.{FrameKind}
use Rattle.line_figures.specs.declared.frames.FrameKind.TheVariants as kinds
use Rattle.line_simulation.specs.declared.book.Outline.{Outline}

-- The addresses of the nodes of a line.
pub record Addresses : Type 0 where
  -- how many nodes are on the line
  pub nodes : ℕ
  pub by_address : List (ℕ × ℕ)
  -- how many meters were joined in the workshop
  pub depots : ℕ

-- the coordinator has address 0, and no other node has one
abbrev pub first_addresses : ℕ → Addresses
first_addresses nodes = record { nodes = nodes; by_address = (0, 0) ∷ []; depots = 0 }

-- # EUIs

-- the number of the EUI of node 0; those of the other nodes follow
abbrev pub first_eui : ℕ
first_eui = 0x00247D0000000001

-- the number of the EUI of the spare meter, which is on no line
abbrev pub spare_eui : ℕ
spare_eui = 0x00247DFFFFFFFFFF

unfoldable pub eui_of : ℕ → Addresses → Eui
eui_of node book = cond (ltb node book.nodes) (record { 0 = to_be_bytes w64 (first_eui + node) }) (record { 0 = to_be_bytes w64 spare_eui })

-- # Addresses

-- a node of the line was given an address
unfoldable pub granted : ℕ → ℕ → Addresses → Addresses
granted node address book =
    cond (ltb node book.nodes) (record book { by_address = insert_entry nat_cmp book.by_address address node }) book

abbrev pub one_depot_more : Addresses → Addresses
one_depot_more book = record book { depots = min (book.depots + 1) 65535 }

-- a meter was joined in the workshop: it has the next address
unfoldable pub joined : ℕ → Addresses → Addresses
joined node book = granted node (min (book.depots + 1) 65535) (one_depot_more book)

-- # Who a frame is for

abbrev pub node_or_nobody : Option ℕ → Target
node_or_nobody None = Nobody
node_or_nobody (Some node) = Node node

unfoldable pub target_by_address : ℕ → Addresses → Target
target_by_address address book =
    cond (eqb address 65535) All (node_or_nobody (lookup (is_at (nat_cmp address)) book.by_address))

abbrev pub target_by_number : ℕ → Addresses → Target
target_by_number number book =
    cond (ltb number first_eui) Nobody (cond (ltb (number - first_eui) book.nodes) (Node (number - first_eui)) Nobody)

unfoldable pub target_by_eui : Eui → Addresses → Target
target_by_eui eui book = target_by_number (from_be_bytes w64 eui.0) book

-- what a sealed frame of this many octets is: a route reply has 30 octets, a route error 26, and no other frame to one node so few
unfoldable pub kind_of : ℕ → ℕ → FrameKind
kind_of to octets =
    cond (eqb to 65535) kinds.Request (cond (eqb octets 30) kinds.Reply (cond (eqb octets 26) kinds.Error kinds.Data))

-- a frame has at most 1,000 octets on the air
abbrev pub outlined : ℕ → Target → FrameKind → Outline
outlined octets target kind = record { target = target; kind = kind; octets = min octets 1000 }

abbrev pub outline_by : MacHead → ℕ → Addresses → Outline
outline_by (heads.Sealed ack seq pan to from counter index) octets book =
    outlined octets (target_by_address to book) (kind_of to octets)
outline_by (heads.Up ack version seq pan to from) octets book = outlined octets (target_by_address to book) kinds.Plain
outline_by (heads.Down ack version seq pan to from) octets book = outlined octets (target_by_eui to book) kinds.Plain

abbrev pub outline_unless : Option (Fault FrameFaultKind) → MacHead → ℕ → Addresses → Outline
outline_unless None head octets book = outline_by head octets book
outline_unless (Some fault) head octets book = outlined octets Nobody kinds.Plain

-- who a frame of these octets is for, and what it is
unfoldable pub outline_of : List ℕ → Addresses → Outline
outline_of octets book = outline_unless (frame_fault octets) (head_in octets) (length octets) book
