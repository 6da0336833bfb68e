-- What beacon requests and beacons are, and the one spelling of each.
use Rattle.std.specs.Prelude.{◌≡◌, ◌<◌, ◌^◌, ◌==◌, ℕ, List, [], ◌∷◌, ◌++◌, if◌then◌else◌}
use Rattle.byteorder.specs.Endian.{big_bytes, little_bytes}
use Rattle.plc_base.specs.Addresses.{IsAddress}
use Rattle.pan_discovery.specs.declared.message.Discovery.{Discovery}
use Rattle.pan_discovery.specs.declared.message.Discovery.TheVariants.{Request, Beacon}

-- the messages, by kind
abbrev pub IsDiscovery : Discovery → Type 0
IsDiscovery (Request seq) = seq < 2 ^ 8
IsDiscovery (Beacon seq pan from cost) = (seq < 2 ^ 8) × (pan < 2 ^ 16) × IsAddress from × (cost < 2 ^ 16)

-- A beacon request command to all nodes of all networks (IEEE 802.15.4-2006, 7.3.7).
abbrev pub request_spelling : (seq : ℕ) → List ℕ
request_spelling seq = 0x03 ∷ 0x08 ∷ seq ∷ 0xFF ∷ 0xFF ∷ 0xFF ∷ 0xFF ∷ 0x07 ∷ []

-- The second octet of a superframe specification (7.2.2.1.2). It admits nodes, and says whether the sender is the
-- coordinator.
abbrev pub role : (from : ℕ) → ℕ
role from = if from == 0 then 0xCF else 0x8F

-- A beacon without superframes, guaranteed slots and pending addresses (7.2.2.1), whose payload is the cost.
abbrev pub beacon_spelling : (seq pan from cost : ℕ) → List ℕ
beacon_spelling seq pan from cost =
    0x00 ∷ 0x80 ∷ seq ∷ little_bytes 2 pan
    ++ (little_bytes 2 from ++ (0xFF ∷ role from ∷ 0x00 ∷ 0x00 ∷ big_bytes 2 cost))

-- the one spelling of each
abbrev pub discovery_spelling : Discovery → List ℕ
discovery_spelling (Request seq) = request_spelling seq
discovery_spelling (Beacon seq pan from cost) = beacon_spelling seq pan from cost

-- the octets are the message's, all of them
abbrev pub SpellsDiscovery : Discovery → List ℕ → Type 0
SpellsDiscovery message octets = IsDiscovery message × (octets ≡ discovery_spelling message)
