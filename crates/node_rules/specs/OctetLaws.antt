-- What nodes read and open of octets that came is octets.
use Rattle.std.specs.Prelude.{◌≡◌, ℕ, ◌<◌, List, Some, IfSome}
use Rattle.plc_base.specs.Fields.{AreOctets}
use Rattle.plc_base.specs.declared.key.Key.{Key}
use Rattle.node_rules.specs.Accepted.{Accepted}
use Rattle.node_rules.specs.declared.heard.Way.{Way}
use Rattle.node_rules.specs.declared.heard.Way.TheVariants.{Mesh}
use Rattle.node_rules.specs.Ciphers.{Ciphers, network}
use Rattle.node_rules.specs.Frames.{Arrived, arrived}
use Rattle.node_rules.specs.Memory.{StationMemory}
use Rattle.node_rules.specs.HearingRules.{hear}
use Rattle.node_rules.specs.MemoryDrafts.{Unread, unread}

-- # What a station hands on

-- over the mesh something comes from one node
abbrev pub WayFits : Way → Type 0
WayFits (Mesh origin) = origin < 0xFFFE
WayFits _ = Unit {0}

-- octets, from one node where they came over the mesh
abbrev pub UnreadFits : Unread → Type 0
UnreadFits u = AreOctets u.body × WayFits u.way

-- a joining command that a station hands on, of a payload of octets
abbrev pub UnreadsAreOctets : Type 0
UnreadsAreOctets =
    (l : StationMemory) (got : Accepted) (cost note now : ℕ) → AreOctets got.payload
    → IfSome (unread (hear l got cost note now).answer) UnreadFits

-- # Frames that came

-- the body of a frame in octets is octets
abbrev pub ArrivedBodiesAreOctets : Type 0
ArrivedBodiesAreOctets =
    (ciphers : Ciphers) (octets : List ℕ) (a : Arrived) → AreOctets octets → arrived ciphers octets ≡ Some a
    → AreOctets a.body

-- what the network's ciphers open of it under a key of octets is octets
abbrev pub NetworkOpensOctets : Type 0
NetworkOpensOctets =
    (octets : List ℕ) (a : Arrived) (key : Key) (payload : List ℕ) → AreOctets octets → AreOctets key.0
    → arrived network octets ≡ Some a → a.opened key ≡ Some payload → AreOctets payload
