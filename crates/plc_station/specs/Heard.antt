-- Frames that may be heard.
use Rattle.std.specs.Prelude.{ℕ, ◌≤◌, List, length, Result, Ok, Err, ⊤}
use Rattle.node_rules.specs.Accepted.{Accepted}
use Rattle.node_rules.specs.declared.heard.Path.{Path}
use Rattle.node_rules.specs.declared.heard.Path.TheVariants.{Sealed, Up, Down}
use Rattle.node_rules.specs.declared.refusal.FrameRefusal.{FrameRefusal}

-- a sealed frame has at most 381 octets inside
abbrev pub FitsPath : Path → ℕ → Type 0
FitsPath (Sealed from all key) octets = octets ≤ 381
FitsPath (Up from) octets = ⊤
FitsPath (Down from) octets = ⊤

-- an accepted frame is as `accept` answers it
abbrev pub Fits : Accepted → Type 0
Fits got = FitsPath got.path (length got.payload)

-- what is accepted where a frame was opened: how it came, and what its buffer holds
abbrev pub accepted_on : Result Path FrameRefusal → List ℕ → Result Accepted FrameRefusal
accepted_on (Ok path) payload = Ok (record { path = path; payload = payload })
accepted_on (Err reason) payload = Err reason
