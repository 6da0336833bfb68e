-- The frames that units are sealed to.
use Rattle.std.specs.Prelude.{ℕ, ◌+◌, List, [], ◌∷◌, map, take, get_or, Some}
use Rattle.plc_base.specs.Grant.{Granted}
use Rattle.plc_base.specs.declared.key.Key.{Key}
use Rattle.plc_base.specs.declared.out_frame.Out.{Out}
use Rattle.plc_base.specs.declared.out_frame.OutFrame.{OutFrame}
use Rattle.mac_frames.specs.declared.head.MacHead.{MacHead}
use Rattle.mac_frames.specs.Grammar.{header_then}
use Rattle.mac_frames.specs.Sent.{sent_head, sealed_body}
use Rattle.mesh_header.specs.declared.unit.Unit.TheVariants.{Part}
use Rattle.mesh_header.specs.Grammar.{spelling}
use Rattle.fragment_buffers.specs.Fragmentation.{pieces_cut}
use Rattle.fragment_buffers.specs.Loads.{UnsealedUnit, all_go, own_mesh, Command}
use Rattle.fragment_buffers.specs.WaitingBodies.{Body}

-- the frame of a unit with this head under a key
abbrev pub frame_with : MacHead → Key → UnsealedUnit → OutFrame
frame_with head key o =
    record { octets = header_then head (sealed_body key.0 head (spelling o.unit)); note = o.note; key = Some key }

-- the frame of a unit under a grant's active key, with a counter
unfoldable pub unit_frame : Granted → Key → ℕ → UnsealedUnit → OutFrame
unit_frame g key counter o = frame_with (sent_head o.to g.address counter g.active) key o

-- units as frames, with counters from the first on
abbrev pub frames_of : Granted → Key → ℕ → List UnsealedUnit → List OutFrame
frames_of g key first [] = []
frames_of g key first (o ∷ rest) = unit_frame g key first o ∷ frames_of g key (first + 1) rest

-- other frames, and the same tags
abbrev pub with_frames : List OutFrame → Out → Out
with_frames frames out = record out { frames = frames }

-- the frames of this many pieces of a datagram, the first ones
abbrev pub pieces_sent : Granted → Key → (first to hop note : ℕ) → List ℕ → (tag count : ℕ) → List OutFrame
pieces_sent g key first to hop note datagram tag count =
    frames_of g key first
    (take count (all_go hop note (map (λ piece. Part (own_mesh g.address to) piece) (pieces_cut datagram tag))))

-- the body at a place
abbrev pub body_at : List Body → ℕ → Body
body_at ws i = get_or ws i (record { to = 0; note = 0; since = 0; load = Command [] })
