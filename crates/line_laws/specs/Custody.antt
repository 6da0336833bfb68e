-- Where the octets of a datagram are.
use Rattle.std.specs.Prelude.{ℕ, ◌+◌, ◌*◌, cond, eqb, nat_lt, nat_le, ◌&&◌, length}
use Rattle.std.specs.List.{sum_by}
use Rattle.mesh_header.specs.declared.unit.Unit.{Unit as MeshUnit}
use Rattle.mesh_header.specs.declared.unit.Unit.TheVariants as units
use Rattle.fragment_buffers.specs.Reassembly.{PlacedPiece, Reassembly}
use Rattle.node_rules.specs.declared.heard.Heard.{Heard}
use Rattle.node_rules.specs.declared.heard.Heard.TheVariants as heard
use Rattle.node_rules.specs.Frames.{SealedUnit, Sent, Sealed, Up, Down}
use Rattle.node_rules.specs.Memory.{StationMemory, Body, Load, Datagram, Command}
use Rattle.node_rules.specs.Drafts.{UnsealedUnit}

-- # Counting the octet at a position of the datagram of a note

-- so much, where the note is this one
abbrev pub weigh : ℕ → ℕ → ℕ → ℕ
weigh n note k = cond (eqb note n) k 0

-- 1 where the position lies below the size
abbrev pub below : ℕ → ℕ → ℕ
below i size = cond (nat_lt i size) 1 0

-- 1 where the position lies in this many octets from there on
abbrev pub covers : ℕ → ℕ → ℕ → ℕ
covers i from count = cond (nat_le from i && nat_lt i (from + count)) 1 0

abbrev pub content_is : ℕ → MeshUnit → ℕ
content_is i (units.Whole mesh octets) = below i (length octets)
content_is i (units.Part mesh piece) = covers i (piece.offset * 8) (length piece.octets)
content_is i (units.Carried mesh body) = 0
content_is i (units.Local code body) = 0

abbrev pub load_is : ℕ → Load → ℕ
load_is i (Datagram octets tag) = below i (length octets)
load_is i (Command octets) = 0

abbrev pub out_is : ℕ → ℕ → UnsealedUnit → ℕ
out_is n i o = weigh n o.note (content_is i o.unit)

abbrev pub body_is : ℕ → ℕ → Body → ℕ
body_is n i b = weigh n b.note (load_is i b.load)

abbrev pub sealed_unit_is : ℕ → ℕ → SealedUnit → ℕ
sealed_unit_is n i l = weigh n l.note (content_is i l.unit)

abbrev pub sent_is : ℕ → ℕ → Sent → ℕ
sent_is n i (Sealed l) = sealed_unit_is n i l
sent_is n i (Up agent from message) = 0
sent_is n i (Down from message) = 0

abbrev pub placed_is : ℕ → PlacedPiece → ℕ
placed_is i p = covers i p.start (length p.octets)

abbrev pub held_is : ℕ → ℕ → Reassembly → ℕ
held_is n i r = weigh n r.note (sum_by (placed_is i) r.pieces)

abbrev pub up_is : ℕ → ℕ → Heard → ℕ
up_is n i (heard.Up from note octets) = weigh n note (below i (length octets))
up_is n i _ = 0

-- what waits and what is gathered at a node
abbrev pub keeps : ℕ → ℕ → StationMemory → ℕ
keeps n i l = sum_by (body_is n i) l.waiting + sum_by (held_is n i) l.reassemblies
