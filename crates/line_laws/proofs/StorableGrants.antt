-- A grant that is read out of octets can be stored: also one that the network's ciphers opened.
use Rattle.std.proofs.Common.{◌≡◌, ℕ, ◌<◌, List, length, Option, Some, None, refl, arith}
use Rattle.std.specs.Prelude.{IfSome}
use Rattle.std.proofs.lemmas.List.Elements.{All-cons, All-replicate}
use Rattle.plc_base.specs.Fields.{after}
use Rattle.plc_base.specs.declared.key.Key.{Key}
use Rattle.plc_base.specs.Grant.{Granted}
use Rattle.plc_base.proofs.OctetLists.{after_octets}
use Rattle.joining_messages.specs.Grants.{IsPlace, IsGranted}
use Rattle.joining_messages.specs.Reader.{grant_in}
use Rattle.joining_messages.specs.Laws.{GrantHasOctets}
use Rattle.joining_messages.proofs.GrantReadings.{grant_spelled}
use Rattle.joining_messages.proofs.JoinOctets.{read_grant_octets}
use Rattle.eap_psk.specs.declared.peer.Peer.{Peer}
use Rattle.node_rules.specs.Ciphers.{network}
use Rattle.aes_modes.specs.Cipher.{xor_bytes, encrypted}
use Rattle.aes_modes.proofs.CipherOctets.{encrypted_octets, eax_octets}
use Rattle.eap_psk.specs.Keys.{PairKeys, keys_of, derived, numbered_block, nonce_block, channel_text}
use Rattle.eap_psk.specs.Sessions.{tek_of}
use Rattle.line_laws.specs.Stores.{IsHeld, IsReadable}
use Rattle.line_laws.specs.Owed.{AreOctets, KeepsRanges}
use Rattle.node_rules.proofs.NetworkOpens.{network_opens}

-- a key of 16 octets is held
pub held : (k : Key) → length k.0 ≡ 16 → AreOctets k.0 → IsHeld (Some k)
held k long are = (omega (arith, long), All-cons (λ x. x < 256) 1 k.0 (omega arith) are)

-- no key is
pub none_held : IsHeld None
none_held = (refl, All-replicate (λ x. x < 256) 17 0 (omega arith))

is_held : (key : Option Key) → IsPlace key → IfSome key (λ k. AreOctets k.0) → IsHeld key
is_held None long are = none_held
is_held (Some k) long are = held k long are

-- the grant of a parameter list is read back
pub grant_readable : (octets : List ℕ) (g : Granted) → AreOctets octets → grant_in octets ≡ Some g → IsReadable g
grant_readable octets g are e =
    let fits : IsGranted g = (grant_spelled g octets are e).0 in
    let has : GrantHasOctets g = read_grant_octets g octets are e in
    record { grant = fits.active; address = fits.address; key0 = is_held g.key0 fits.first has.key0; key1 = is_held g.key1 fits.second has.key1 }

-- so is what the network's third packet grants, which is octets, under a pair key of octets
pub network_grants : (psk : Key) (peer : Peer) (packet : List ℕ) (g : Granted) → AreOctets psk.0 → AreOctets packet → network.granted psk peer packet ≡ Some g
    → IsReadable g
unfolding derived
network_grants psk peer packet g fits are e =
    let keys : PairKeys = keys_of psk.0 in
    let kdk : AreOctets keys.kdk = encrypted_octets psk.0 (xor_bytes (encrypted psk.0 (numbered_block 0)) (numbered_block 2)) fits in
    let tek : AreOctets (tek_of keys peer.rand_p) = encrypted_octets keys.kdk (xor_bytes (encrypted keys.kdk peer.rand_p.0) (numbered_block 1)) kdk in
    let text : List ℕ = channel_text (tek_of keys peer.rand_p) 0 (after 58 packet) in
    grant_readable (after 2 text) g
    (after_octets 2 text (eax_octets (tek_of keys peer.rand_p) (nonce_block 0) (after 58 packet) tek (after_octets 58 packet are))) e

-- The network keeps the ranges.
pub network_ranges : KeepsRanges network
network_ranges = record { opened = network_opens; granted = λ psk peer packet granted fits are right is. network_grants psk peer packet granted fits are is }
