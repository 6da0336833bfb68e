-- The heads that a struct of numbers says, and the numbers of a head.
use Rattle.std.specs.Prelude.{ℕ, Bool, nat_lt, not, ◌==◌, ◌&&◌, if◌then◌else◌}
use Rattle.plc_base.specs.Addresses.{eui_number, is_address}
use Rattle.mac_frames.specs.declared.head.MacHead.{MacHead}
use Rattle.mac_frames.specs.declared.head.MacHead.TheVariants.{Sealed, Up, Down}
use Rattle.frames_c.specs.declared.head.FramesHead.{FramesHead}

-- whether the numbers say the head of a sealed frame
unfoldable pub is_sealed_head : FramesHead → Bool
is_sealed_head h =
    h.kind == 0 && h.version == 1 && nat_lt h.ack 2 && h.device == 0 && nat_lt h.index 2 && not (h.to == 0xFFFE) && is_address h.from

-- the head that they say
abbrev pub mac_head : FramesHead → MacHead
mac_head h = Sealed (h.ack == 1) h.seq h.pan h.to h.from h.counter h.index

-- a yes or no as a number
abbrev pub flag : Bool → ℕ
flag b = if b then 1 else 0

-- the numbers of a head
abbrev pub c_head : MacHead → FramesHead
c_head (Sealed ack seq pan to from counter index) =
    record { device = 0; counter = counter; pan = pan; to = to; from = from; kind = 0; version = 1; ack = flag ack; seq = seq; index = index }
c_head (Up ack version seq pan to from) =
    record { device = eui_number from; counter = 0; pan = pan; to = to; from = 0; kind = 1; version = version; ack = flag ack; seq = seq; index = 0 }
c_head (Down ack version seq pan to from) =
    record { device = eui_number to; counter = 0; pan = pan; to = 0; from = from; kind = 2; version = version; ack = flag ack; seq = seq; index = 0 }
