-- The packets of a session of octets are octets.
use Rattle.std.proofs.Common.{ℕ, ◌+◌, ◌*◌, ◌<◌, List, [], ◌∷◌, ◌++◌, length, arith}
use Rattle.plc_base.specs.Fields.{AreOctets}
use Rattle.plc_base.specs.Grant.{Granted}
use Rattle.byteorder.specs.Endian.{big_bytes}
use Rattle.plc_base.proofs.OctetLists.{front, both, none, puts, joins, big_octets, big_spelt}
use Rattle.aes_modes.specs.Cipher.{xor_bytes, encrypted}
use Rattle.aes_modes.proofs.CipherOctets.{encrypted_octets, cmac_octets, eax_octets, eax_tag_octets}
use Rattle.joining_messages.specs.Grants.{grant_spelling}
use Rattle.joining_messages.specs.Laws.{GrantHasOctets}
use Rattle.joining_messages.proofs.JoinOctets.{grant_octets}
use Rattle.eap_psk.specs.Keys.{derived, keys_of, mac_p, mac_s, mac_p_text, mac_s_text, nonce_block, numbered_block, channel, channel_text, channel_tag}
use Rattle.eap_psk.specs.Messages.{head, third_head, fourth_head, granting_text, success_text}
use Rattle.eap_psk.specs.Sessions.{tek_of, second_packet, third_packet, fourth_packet}
use Rattle.eap_psk.specs.declared.peer.Peer.{Peer}
use Rattle.eap_psk.specs.Laws.{FirstPacketsAreOctets, SecondPacketsAreOctets, ThirdPacketsAreOctets, FourthPacketsAreOctets}

head_octets : (code identifier count number : ℕ) (rand_s : List ℕ) → code < 256 → identifier < 256 → 64 * number < 256 → AreOctets rand_s
    → AreOctets (head code identifier count number rand_s)
head_octets code identifier count number rand_s a b c all =
    (puts a (puts b (joins (big_spelt 2 count) (puts {x = 0x2F} (omega arith) (puts c (record { are = all })))))).are

derived_octets : (key block : List ℕ) (n : ℕ) → AreOctets key → AreOctets (derived key block n)
unfolding derived
derived_octets key block n fits = encrypted_octets key (xor_bytes (encrypted key block) (numbered_block n)) fits

channel_octets : (tek : List ℕ) (nonce : ℕ) (header text : List ℕ) → AreOctets tek → AreOctets text → AreOctets (channel tek nonce header text)
unfolding channel
channel_octets tek nonce header text fits all =
    let sealed : AreOctets (channel_text tek nonce text) = eax_octets tek (nonce_block nonce) text fits all in
    both (big_bytes 4 nonce) (channel_tag tek nonce header (channel_text tek nonce text) ++ channel_text tek nonce text) (big_octets 4 nonce)
    (both (channel_tag tek nonce header (channel_text tek nonce text)) (channel_text tek nonce text)
    (eax_tag_octets tek (nonce_block nonce) header (channel_text tek nonce text) fits) sealed)

granting_octets : (g : Granted) → GrantHasOctets g → AreOctets (granting_text g)
granting_octets g h = front 0xA0 (2 ∷ grant_spelling g) (omega arith) (front 2 (grant_spelling g) (omega arith) (grant_octets g h))

pub first_octets : FirstPacketsAreOctets
first_octets identifier rand_s id_s low random named =
    both (head 1 identifier 30 0 rand_s) id_s (head_octets 1 identifier 30 0 rand_s (omega arith) low (omega arith) random) named

module _ (psk : List ℕ) (pair : AreOctets psk) where
  ak : AreOctets (keys_of psk).ak
  ak = derived_octets psk (numbered_block 0) 1 pair

  tek : (rand_p : _) → AreOctets (tek_of (keys_of psk) rand_p)
  tek rand_p = derived_octets (keys_of psk).kdk rand_p.0 1 (derived_octets psk (numbered_block 0) 2 pair)

  made_second : (identifier : ℕ) (peer : Peer) → identifier < 256 → AreOctets peer.eui.0 → AreOctets peer.rand_s.0 → AreOctets peer.rand_p.0
      → AreOctets (second_packet (keys_of psk) identifier peer)
  made_second identifier peer low own rand_s rand_p =
      let mac : List ℕ = mac_p (keys_of psk).ak peer.eui.0 peer.id_s.0 peer.rand_s.0 peer.rand_p.0 in
      both (head 2 identifier 62 1 peer.rand_s.0) (peer.rand_p.0 ++ (mac ++ peer.eui.0))
      (head_octets 2 identifier 62 1 peer.rand_s.0 (omega arith) low (omega arith) rand_s)
      (both peer.rand_p.0 (mac ++ peer.eui.0) rand_p
      (both mac peer.eui.0 (cmac_octets (keys_of psk).ak (mac_p_text peer.eui.0 peer.id_s.0 peer.rand_s.0 peer.rand_p.0) ak) own))

  made_third : (identifier : ℕ) (peer : Peer) (g : Granted) → identifier < 256 → AreOctets peer.rand_s.0 → GrantHasOctets g
      → AreOctets (third_packet (keys_of psk) identifier peer g)
  made_third identifier peer g low rand_s granted =
      let text : List ℕ = granting_text g in
      let before : List ℕ = third_head identifier peer.rand_s.0 (length text) in
      let mac : List ℕ = mac_s (keys_of psk).ak peer.id_s.0 peer.rand_p.0 in
      let sealed : List ℕ = channel (tek_of (keys_of psk) peer.rand_p) 0 before text in
      both before (mac ++ sealed) (head_octets 1 identifier (58 + length text) 2 peer.rand_s.0 (omega arith) low (omega arith) rand_s)
      (both mac sealed (cmac_octets (keys_of psk).ak (mac_s_text peer.id_s.0 peer.rand_p.0) ak)
      (channel_octets (tek_of (keys_of psk) peer.rand_p) 0 before text (tek peer.rand_p) (granting_octets g granted)))

  made_fourth : (identifier : ℕ) (peer : Peer) → identifier < 256 → AreOctets peer.rand_s.0 → AreOctets (fourth_packet (keys_of psk) identifier peer)
  made_fourth identifier peer low rand_s =
      let before : List ℕ = fourth_head identifier peer.rand_s.0 in
      let sealed : List ℕ = channel (tek_of (keys_of psk) peer.rand_p) 1 before success_text in
      both before sealed (head_octets 2 identifier 43 3 peer.rand_s.0 (omega arith) low (omega arith) rand_s)
      (channel_octets (tek_of (keys_of psk) peer.rand_p) 1 before success_text (tek peer.rand_p) (front 0x80 [] (omega arith) none))

pub second_octets : SecondPacketsAreOctets
second_octets psk identifier peer pair = made_second psk pair identifier peer

pub third_octets : ThirdPacketsAreOctets
third_octets psk identifier peer grant pair = made_third psk pair identifier peer grant

pub fourth_octets : FourthPacketsAreOctets
fourth_octets psk identifier peer pair = made_fourth psk pair identifier peer
