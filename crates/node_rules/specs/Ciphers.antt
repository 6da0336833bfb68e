-- What frames and the packets of a joining are made with.
use Rattle.std.specs.Prelude.{◌≡◌, ℕ, ◌+◌, List, length, Option, Some}
use Rattle.plc_base.specs.declared.key.Key.{Key}
use Rattle.plc_base.specs.declared.key.RandomOctets.{RandomOctets}
use Rattle.plc_base.specs.Grant.{Granted}
use Rattle.mac_frames.specs.declared.head.MacHead.{MacHead}
use Rattle.mac_frames.specs.Grammar.{header}
use Rattle.mac_frames.specs.SealedFrames.{opened_in}
use Rattle.mac_frames.specs.Sent.{sealed_body}
use Rattle.eap_psk.specs.Keys.{keys_of}
use Rattle.eap_psk.specs.Sessions as sessions
use Rattle.eap_psk.specs.Faults as eap_faults
use Rattle.eap_psk.specs.declared.fault.EapFault.{EapFault}
use Rattle.eap_psk.specs.declared.server.Server.{Server}
use Rattle.eap_psk.specs.declared.peer.Peer.{Peer}

-- How payloads are sealed and opened, and what the two ends of a joining say and check. The network has CCM* and EAP-PSK over AES; a
-- run that is to be computed may have plainer ones in their place.
pub record Ciphers : Type 0 where
  -- the body of a sealed frame: by key, head and payload
  pub seals : Key → MacHead → List ℕ → List ℕ
  -- the payload of a body, where its tag is right: by key, head, the octets before the body, and the body
  pub opens : Key → MacHead → List ℕ → List ℕ → Option (List ℕ)
  -- the second packet: by pair key, identifier and peer
  pub second : Key → ℕ → Peer → List ℕ
  -- the third: by pair key, server, the RAND_P that it took, and the grant
  pub third : Key → Server → RandomOctets → Granted → List ℕ
  -- the fourth: by pair key, identifier and peer
  pub fourth : Key → ℕ → Peer → List ℕ
  -- the first fault of each, at the end that takes it
  pub second_fault : Key → Server → List ℕ → Option EapFault
  pub third_fault : Key → Peer → List ℕ → Option EapFault
  pub fourth_fault : Key → Server → RandomOctets → List ℕ → Option EapFault
  -- the grant in a third packet without a fault
  pub granted : Key → Peer → List ℕ → Option Granted

-- # Frames: CCM* with tags of 4 octets, under the nonce of the head, over all octets before the body

-- the payload under the key and the nonce of its head, and the four octets of the tag over header and payload
abbrev pub sealed_with_ccm : Key → MacHead → List ℕ → List ℕ
sealed_with_ccm key head payload = sealed_body key.0 head payload

-- the payload where the tag is right
abbrev pub opened_with_ccm : Key → MacHead → List ℕ → List ℕ → Option (List ℕ)
opened_with_ccm key head front body = opened_in key.0 head front body

-- What a key sealed, the same key opens, under the same head and after the octets of that head; a tag has four octets.
pub record OpensWhatItSeals (ciphers : Ciphers) : Type 0 where
  pub opens : (key : Key) (head : MacHead) (payload : List ℕ)
      → ciphers.opens key head (header head) (ciphers.seals key head payload) ≡ Some payload
  pub tag : (key : Key) (head : MacHead) (payload : List ℕ)
      → length (ciphers.seals key head payload) ≡ length payload + 4

-- # The network's

-- CCM* for frames, and EAP-PSK (RFC 4764) for the packets of a joining
abbrev pub network : Ciphers
network = record {
  seals = sealed_with_ccm;
  opens = opened_with_ccm;
  second = λ psk identifier peer. sessions.second_packet (keys_of psk.0) identifier peer;
  third = λ psk server rand_p granted. sessions.third_packet (keys_of psk.0) 2 (sessions.peer_of server rand_p) granted;
  fourth = λ psk identifier peer. sessions.fourth_packet (keys_of psk.0) identifier peer;
  second_fault = λ psk server packet. eap_faults.second_fault (keys_of psk.0) server packet;
  third_fault = λ psk peer packet. eap_faults.third_fault (keys_of psk.0) peer packet;
  fourth_fault = λ psk server rand_p packet. eap_faults.fourth_fault (keys_of psk.0) server rand_p.0 packet;
  granted = λ psk peer packet. sessions.granted_by (keys_of psk.0) peer packet;
}
