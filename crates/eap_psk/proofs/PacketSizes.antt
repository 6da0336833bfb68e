-- How many octets the packets of a session have at most.
use Rattle.std.proofs.Common.{◌≡◌, ℕ, ◌+◌, ◌≤◌, List, [], ◌++◌, length, Option, Some, None, arith}
use Rattle.std.proofs.lemmas.List.{length-append}
use Rattle.plc_base.specs.declared.key.Key.{Key}
use Rattle.aes_modes.proofs.Texts.{length-cmac, length-eax_tag, length-eax_text}
use Rattle.joining_messages.specs.Grants.{IsPlace, key_then}
use Rattle.eap_psk.specs.Keys.{mac_p, mac_s, mac_p_text, mac_s_text, nonce_block, channel, channel_text, channel_tag}
use Rattle.eap_psk.specs.Messages.{head, third_head, fourth_head, granting_text, success_text}
use Rattle.eap_psk.specs.Sessions.{tek_of}
use Rattle.eap_psk.specs.Laws.{FirstPacketsFit, SecondPacketsFit, ThirdPacketsFit, FourthPacketsFit}

pub first_fits : FirstPacketsFit
first_fits identifier rand_s id_s short eight = let both = length-append (head 1 identifier 30 0 rand_s) id_s in omega arith

pub second_fits : SecondPacketsFit
second_fits keys identifier peer s p eight =
    let front : List ℕ = head 2 identifier 62 1 peer.rand_s.0 in
    let mac : List ℕ = mac_p keys.ak peer.eui.0 peer.id_s.0 peer.rand_s.0 peer.rand_p.0 in
    let sixteen : length mac ≡ 16 = length-cmac keys.ak (mac_p_text peer.eui.0 peer.id_s.0 peer.rand_s.0 peer.rand_p.0) in
    let one : length front ≤ 22 = omega arith in
    omega (arith, length-append front (peer.rand_p.0 ++ (mac ++ peer.eui.0)), length-append peer.rand_p.0 (mac ++ peer.eui.0), length-append mac peer.eui.0)

length-channel : (tek : List ℕ) (nonce : ℕ) (header text : List ℕ) → length (channel tek nonce header text) ≡ 20 + length text
unfolding channel
length-channel tek nonce header text =
    let sealed : List ℕ = channel_text tek nonce text in
    let tag : List ℕ = channel_tag tek nonce header sealed in
    omega (arith, length-append tag sealed, length-eax_tag tek (nonce_block nonce) header sealed, length-eax_text tek (nonce_block nonce) text)

places_short : (a b : Option Key) → IsPlace a → IsPlace b → length (key_then 0 a (key_then 1 b [])) ≤ 38
places_short None None ha hb = omega arith
places_short None (Some k) ha hb = omega (arith, length-append k.0 [])
places_short (Some k) None ha hb = omega (arith, length-append k.0 [])
places_short (Some k) (Some l) ha hb = omega (arith, length-append k.0 (key_then 1 (Some l) []), length-append l.0 [])

pub third_fits : ThirdPacketsFit
third_fits keys identifier peer granted s first second =
    let tek : List ℕ = tek_of keys peer.rand_p in
    let text : List ℕ = granting_text granted in
    let few : length text ≤ 47 = omega (arith, places_short granted.key0 granted.key1 first second) in
    let mac : List ℕ = mac_s keys.ak peer.id_s.0 peer.rand_p.0 in
    let front : List ℕ = third_head identifier peer.rand_s.0 (length text) in
    let last : List ℕ = channel tek 0 front text in
    let sixteen : length mac ≡ 16 = length-cmac keys.ak (mac_s_text peer.id_s.0 peer.rand_p.0) in
    let one : length front ≤ 22 = omega arith in
    omega (arith, length-append front (mac ++ last), length-append mac last, length-channel tek 0 front text)

pub fourth_fits : FourthPacketsFit
fourth_fits keys identifier peer s =
    let tek : List ℕ = tek_of keys peer.rand_p in
    let front : List ℕ = fourth_head identifier peer.rand_s.0 in
    let last : List ℕ = channel tek 1 front success_text in
    let one : length front ≤ 22 = omega arith in
    omega (arith, length-append front last, length-channel tek 1 front success_text)
