-- What holds of the frames that a meter accepts.
use Rattle.std.specs.Prelude.{◌≡◌, Option, Ok}
use Rattle.plc_base.specs.declared.address.Eui.{Eui}
use Rattle.node_rules.specs.Accepted.{Accepted}
use Rattle.node_rules.specs.Frames.{Arrived}
use Rattle.node_rules.specs.Memory.{StationMemory}
use Rattle.node_rules.specs.Acceptance.{accept}
use Rattle.meter_node.specs.MeterAnswers.{CameUp}

-- a frame that is accepted can come to the meter that accepting it leaves
abbrev pub AcceptedFramesCame : Type 0
AcceptedFramesCame =
    (l : StationMemory) (own : Eui) (a : Option Arrived) (got : Accepted) → (accept l own a).answer ≡ Ok got
    → CameUp got.path (accept l own a).memory
