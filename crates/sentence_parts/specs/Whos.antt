-- Which node an address or an EUI-64 belongs to.
use Rattle.std.specs.Prelude.{ℕ, ◌==◌, Bool, List, Option, None, Some, if◌then◌else◌, nat_lt, position, slice_get}
use Rattle.plc_base.specs.declared.address.Eui.{Eui}
use Rattle.plc_base.specs.Addresses.{eui_number}
use Rattle.frame_facts.specs.declared.gist.FrameTarget.{FrameTarget}
use Rattle.frame_facts.specs.declared.gist.FrameTarget.TheVariants as targets
use Rattle.frame_facts.specs.declared.gist.Gist.{Gist}
use Rattle.frame_facts.specs.declared.gist.Gist.TheVariants as gists
use Rattle.frame_facts.specs.Gists.{payload_gist}
use Rattle.sentence_parts.specs.declared.part.Who.{Who}
use Rattle.sentence_parts.specs.declared.part.Who.TheVariants as whos

abbrev pub who_found : Option ℕ → ℕ → Who
who_found None address = whos.Address address
who_found (Some node) address = whos.Node node

-- the node with a short address, where `homes` has the node of each address
abbrev pub who_at : ℕ → List ℕ → Who
who_at address homes = if address == 65535 then whos.All else who_found (slice_get homes address) address

abbrev pub is_same : Eui → Eui → Bool
is_same eui other = eui_number other == eui_number eui

-- the node at a place, which has a number of 32 bits
abbrev pub node_at : Option ℕ → Option ℕ
node_at None = None
node_at (Some place) = if nat_lt place 4294967296 then Some place else None

-- the node with an EUI-64, where `euis` has that of each node
abbrev pub node_with : Eui → List Eui → Option ℕ
node_with eui euis = node_at (position (is_same eui) euis)

abbrev pub who_or : Option ℕ → Eui → Who
who_or None eui = whos.Device eui
who_or (Some node) eui = whos.Node node

abbrev pub who_with : Eui → List Eui → Who
who_with eui euis = who_or (node_with eui euis) eui

-- the node that a frame is for
abbrev pub who_of : FrameTarget → List ℕ → List Eui → Who
who_of targets.Nobody homes euis = whos.Nobody
who_of targets.All homes euis = whos.All
who_of (targets.Node address) homes euis = who_at address homes
who_of (targets.Device eui) homes euis = who_with eui euis

-- # Devices

-- the node whose EUI-64 is in the header of a frame
abbrev pub target_device : FrameTarget → List Eui → Option ℕ
target_device (targets.Device eui) euis = node_with eui euis
target_device _ euis = None

abbrev pub gist_device : Gist → FrameTarget → List Eui → Option ℕ
gist_device (gists.Joins eui) target euis = node_with eui euis
gist_device _ target euis = target_device target euis

-- the node that a joining message is about, or that a frame is for by its EUI-64
abbrev pub device_of : FrameTarget → Option (List ℕ) → List Eui → Option ℕ
device_of target None euis = target_device target euis
device_of target (Some payload) euis = gist_device (payload_gist payload) target euis
