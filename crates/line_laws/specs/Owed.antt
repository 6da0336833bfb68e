-- What the readings and the ciphers have to say of ranges.
use Rattle.std.specs.Prelude.{◌≡◌, ℕ, List, Some, None}
use Rattle.plc_base.specs.declared.key.Key.{Key}
use Rattle.plc_base.specs.Grant.{Granted}
use Rattle.eap_psk.specs.declared.peer.Peer.{Peer}
use Rattle.node_rules.specs.Ciphers.{Ciphers}
use Rattle.node_rules.specs.Frames.{Arrived, arrived}
pub use Rattle.plc_base.specs.Fields.{AreOctets}
use Rattle.line_laws.specs.Stores.{IsReadable}

-- What is read out of octets that came, under keys that are octets, is in its ranges.
pub record KeepsRanges (ciphers : Ciphers) : Type 0 where
  pub opened : (octets : List ℕ) (a : Arrived) (key : Key) (payload : List ℕ) → AreOctets octets → AreOctets key.0
      → arrived ciphers octets ≡ Some a → a.opened key ≡ Some payload → AreOctets payload
  pub granted : (psk : Key) (peer : Peer) (packet : List ℕ) (granted : Granted) → AreOctets psk.0 → AreOctets packet
      → ciphers.third_fault psk peer packet ≡ None → ciphers.granted psk peer packet ≡ Some granted → IsReadable granted
