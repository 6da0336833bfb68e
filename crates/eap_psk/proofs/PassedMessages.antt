-- A message that is passed on as it was made is taken.
use Rattle.std.proofs.Common.{◌≡◌, ℕ, ◌+◌, ◌*◌, ◌^◌, ◌<◌, ◌≤◌, true, List, [], ◌∷◌, ◌++◌, length, Option, Some, None, take, drop, refl, sym, ap, ◌∙◌, arith}
use Rattle.std.proofs.Common.{length-append}
use Rattle.std.proofs.Math.Seq.{drop-append_seam, drop-append-add, take-append_seam}
use Rattle.std.proofs.lemmas.List.{take_all}
use Rattle.std.proofs.lemmas.Grind.{common_steps}
use Rattle.byteorder.specs.Endian.{big_bytes}
use Rattle.plc_base.specs.Fields.{after, octet, two, four, part}
use Rattle.plc_base.proofs.Places.{four_behind, two_behind}
use Rattle.plc_base.specs.Grant.{Granted}
use Rattle.plc_base.specs.declared.key.Key.{Key}
use Rattle.joining_messages.specs.Grants.{IsGranted, IsPlace, grant_spelling, is_parameter_list, key_then}
use Rattle.joining_messages.proofs.GrantLaws.{spelled_true}
use Rattle.aes_modes.proofs.Texts.{eax_text-twice, length-cmac, length-eax_tag, length-eax_text}
use Rattle.eap_psk.specs.declared.server.Server.{Server}
use Rattle.eap_psk.specs.declared.peer.Peer.{Peer}
use Rattle.eap_psk.specs.Keys.{PairKeys, nonce_block, channel, channel_tag, channel_text, mac_p, mac_p_text, mac_s, mac_s_text, transient_key}
use Rattle.eap_psk.specs.Messages.{First, Second, Third, Fourth, head, third_head, fourth_head, granting_text, success_text}
use Rattle.eap_psk.specs.Faults.{same, head_stands, is_first, is_second, is_third, is_fourth, is_granting, rand_p_of, first_fault, second_fault, third_fault}
use Rattle.eap_psk.specs.Faults.{fourth_fault}
use Rattle.eap_psk.proofs.Same.{same_true}

-- a part after a front, further on, and whole
part_at : (at n : ℕ) (front field rest : List ℕ) → length front ≡ at → length field ≡ n → part at n (front ++ (field ++ rest)) ≡ field
unfolding part
part_at at n front field rest la lf =
    ap (λ (k : ℕ). take n (drop k (front ++ (field ++ rest)))) (sym la) ∙ ap (λ (xs : List ℕ). take n xs) (drop-append_seam front (field ++ rest))
    ∙ ap (λ (k : ℕ). take k (field ++ rest)) (sym lf) ∙ take-append_seam field rest

part_past : (at k n : ℕ) (front rest : List ℕ) → length front + k ≡ at → part at n (front ++ rest) ≡ part k n rest
unfolding part
part_past at k n front rest la = ap (λ (i : ℕ). take n (drop i (front ++ rest))) (sym la) ∙ ap (λ (xs : List ℕ). take n xs) (drop-append-add front rest k)

part_whole : (n : ℕ) (xs : List ℕ) → length xs ≡ n → part 0 n xs ≡ xs
unfolding part
part_whole n xs len = take_all n xs (omega arith)

after_past : (at k : ℕ) (front rest : List ℕ) → length front + k ≡ at → after at (front ++ rest) ≡ after k rest
unfolding after
after_past at k front rest la = ap (λ (i : ℕ). drop i (front ++ rest)) (sym la) ∙ drop-append-add front rest k

four_past : (at k : ℕ) (front rest : List ℕ) → length front + k ≡ at → four at (front ++ rest) ≡ four k rest
unfolding four
four_past at k front rest la = ap (λ (i : ℕ). four i (front ++ rest)) (sym la) ∙ grind (arith, common_steps, drop-append-add front rest k)

head_true : (code identifier count number : ℕ) (rand_s rest : List ℕ) → length (head code identifier count number rand_s ++ rest) ≡ count → count < 65536
    → head_stands code number (head code identifier count number rand_s ++ rest) ≡ true
unfolding head_stands octet
head_true code identifier count number rand_s rest len small =
    let octets : List ℕ = head code identifier count number rand_s ++ rest in
    let size : two 2 octets ≡ count = two_behind (code ∷ identifier ∷ []) count (0x2F ∷ 64 * number ∷ rand_s ++ rest) small in
    rw (size, len) (grind (arith, common_steps))

pub first_taken : (identifier : ℕ) (rand_s id_s packet : List ℕ) → length rand_s ≡ 16 → length id_s ≡ 8 → First identifier rand_s id_s packet
    → first_fault packet ≡ None
unfolding is_first
first_taken identifier rand_s id_s packet hr hi is =
    let octets : List ℕ = head 1 identifier 30 0 rand_s ++ id_s in
    let len : length octets ≡ 30 = omega (arith, length-append rand_s id_s) in
    let stands : head_stands 1 0 octets ≡ true = head_true 1 identifier 30 0 rand_s id_s len (omega arith) in
    let passes : first_fault octets ≡ None = rw (len, stands) refl in
    ap first_fault is ∙ passes

pub second_taken : (keys : PairKeys) (server : Server) (rand_p packet : List ℕ) → length server.rand_s.0 ≡ 16 → length rand_p ≡ 16 → length server.eui.0 ≡ 8
    → Second keys.ak 1 server.rand_s.0 rand_p server.id_s.0 server.eui.0 packet → (second_fault keys server packet ≡ None) × (rand_p_of packet ≡ rand_p)
unfolding is_second octet
second_taken keys server rand_p packet hs hp hi is =
    let rs : List ℕ = server.rand_s.0 in
    let id_p : List ℕ = server.eui.0 in
    let mac : List ℕ = mac_p keys.ak id_p server.id_s.0 rs rand_p in
    let front : List ℕ = head 2 1 62 1 rs in
    let octets : List ℕ = front ++ (rand_p ++ (mac ++ id_p)) in
    let hm : length mac ≡ 16 = length-cmac keys.ak (mac_p_text id_p server.id_s.0 rs rand_p) in
    let lf : length front ≡ 22 = omega (arith, hs) in
    let len : length octets ≡ 62 = omega (arith, length-append front (rand_p ++ (mac ++ id_p)), length-append rand_p (mac ++ id_p), length-append mac id_p) in
    let stands : head_stands 2 1 octets ≡ true = head_true 2 1 62 1 rs (rand_p ++ (mac ++ id_p)) len (omega arith) in
    let form : is_second octets ≡ true = rw (len, stands) refl in
    let e1 : part 6 16 octets ≡ rs = part_at 6 16 (2 ∷ 1 ∷ big_bytes 2 62 ++ (0x2F ∷ 64 ∷ [])) rs (rand_p ++ (mac ++ id_p)) refl hs in
    let e2 : part 22 16 octets ≡ rand_p = part_at 22 16 front rand_p (mac ++ id_p) lf hp in
    let e3 : part 38 16 octets ≡ mac = part_past 38 16 16 front (rand_p ++ (mac ++ id_p)) (omega arith) ∙ part_at 16 16 rand_p mac id_p hp hm in
    let e4 : part 54 8 octets ≡ id_p =
    part_past 54 32 8 front (rand_p ++ (mac ++ id_p)) (omega arith) ∙ part_past 32 16 8 rand_p (mac ++ id_p) (omega arith)
    ∙ part_past 16 0 8 mac id_p (omega arith) ∙ part_whole 8 id_p hi in
    let s1 : same (part 6 16 octets) rs ≡ true = same_true (part 6 16 octets) rs e1 in
    let s2 : same (part 54 8 octets) id_p ≡ true = same_true (part 54 8 octets) id_p e4 in
    let s3 : same (part 38 16 octets) (mac_p keys.ak id_p server.id_s.0 rs (part 22 16 octets)) ≡ true =
    same_true (part 38 16 octets) (mac_p keys.ak id_p server.id_s.0 rs (part 22 16 octets))
    (e3 ∙ ap (λ (p : List ℕ). mac_p keys.ak id_p server.id_s.0 rs p) (sym e2)) in
    let passes : second_fault keys server octets ≡ None = rw (form, s1, s2, s3) refl in
    (ap (second_fault keys server) is ∙ passes, ap (λ (xs : List ℕ). rand_p_of xs) is ∙ e2)

-- what stands in a channel
channel_nonce : (tek : List ℕ) (nonce : ℕ) (header text : List ℕ) → nonce < 2 ^ 32 → four 0 (channel tek nonce header text) ≡ nonce
unfolding channel
channel_nonce tek nonce header text small =
    four_behind [] nonce (channel_tag tek nonce header (channel_text tek nonce text) ++ channel_text tek nonce text) small

channel_tag_part : (tek : List ℕ) (nonce : ℕ) (header text : List ℕ)
    → part 4 16 (channel tek nonce header text) ≡ channel_tag tek nonce header (channel_text tek nonce text)
unfolding channel
channel_tag_part tek nonce header text =
    part_at 4 16 (big_bytes 4 nonce) (channel_tag tek nonce header (channel_text tek nonce text)) (channel_text tek nonce text) refl
    (length-eax_tag tek (nonce_block nonce) header (channel_text tek nonce text))

pub channel_sealed : (tek : List ℕ) (nonce : ℕ) (header text : List ℕ) → after 20 (channel tek nonce header text) ≡ channel_text tek nonce text
unfolding channel after
channel_sealed tek nonce header text =
    let tag : List ℕ = channel_tag tek nonce header (channel_text tek nonce text) in
    let sixteen : length tag ≡ 16 = length-eax_tag tek (nonce_block nonce) header (channel_text tek nonce text) in
    ap (λ (k : ℕ). drop k (tag ++ channel_text tek nonce text)) (sym sixteen) ∙ drop-append_seam tag (channel_text tek nonce text)

length-channel : (tek : List ℕ) (nonce : ℕ) (header text : List ℕ) → length (channel tek nonce header text) ≡ 20 + length text
unfolding channel
length-channel tek nonce header text =
    let sealed : List ℕ = channel_text tek nonce text in
    let tag : List ℕ = channel_tag tek nonce header sealed in
    omega (arith, length-append tag sealed, length-eax_tag tek (nonce_block nonce) header sealed, length-eax_text tek (nonce_block nonce) text)

-- the plain text comes back
pub channel_back : (tek : List ℕ) (nonce : ℕ) (text : List ℕ) → channel_text tek nonce (channel_text tek nonce text) ≡ text
channel_back tek nonce text = eax_text-twice tek (nonce_block nonce) text

granting_true : (list : List ℕ) → is_parameter_list list ≡ true → is_granting (0xA0 ∷ 2 ∷ list) ≡ true
unfolding is_granting octet after
granting_true list h = grind (arith, common_steps)

places_short : (a b : Option Key) → IsPlace a → IsPlace b → length (key_then 0 a (key_then 1 b [])) ≤ 38
places_short None None ha hb = omega arith
places_short None (Some k) ha hb = omega (arith, length-append k.0 [])
places_short (Some k) None ha hb = omega (arith, length-append k.0 [])
places_short (Some k) (Some l) ha hb = omega (arith, length-append k.0 (key_then 1 (Some l) []), length-append l.0 [])

pub third_taken : (keys : PairKeys) (peer : Peer) (identifier : ℕ) (grant : Granted) (packet : List ℕ) → length peer.rand_s.0 ≡ 16 → IsGranted grant
    → Third keys.ak (transient_key keys.kdk peer.rand_p.0) identifier peer.rand_s.0 peer.rand_p.0 peer.id_s.0 (granting_text grant) packet
    → third_fault keys peer packet ≡ None
unfolding is_third
third_taken keys peer identifier grant packet hs hg is =
    let tek : List ℕ = transient_key keys.kdk peer.rand_p.0 in
    let rs : List ℕ = peer.rand_s.0 in
    let text : List ℕ = granting_text grant in
    let count : ℕ = 58 + length text in
    let short : length text ≤ 47 = omega (arith, places_short grant.key0 grant.key1 hg.first hg.second) in
    let mac : List ℕ = mac_s keys.ak peer.id_s.0 peer.rand_p.0 in
    let front : List ℕ = third_head identifier rs (length text) in
    let sealed : List ℕ = channel_text tek 0 text in
    let last : List ℕ = channel tek 0 front text in
    let octets : List ℕ = front ++ (mac ++ last) in
    let hm : length mac ≡ 16 = length-cmac keys.ak (mac_s_text peer.id_s.0 peer.rand_p.0) in
    let lf : length front ≡ 22 = omega (arith, hs) in
    let len : length octets ≡ count = omega (arith, length-append front (mac ++ last), length-append mac last, length-channel tek 0 front text) in
    let stands : head_stands 1 2 octets ≡ true = head_true 1 identifier count 2 rs (mac ++ last) len (omega arith) in
    let nonce : four 38 octets ≡ 0 = four_past 38 16 front (mac ++ last) (omega arith) ∙ four_past 16 0 mac last (omega arith)
    ∙ channel_nonce tek 0 front text (omega arith) in
    let form : is_third octets ≡ true = rw (len, stands, nonce) (grind (arith, common_steps)) in
    let e1 : part 6 16 octets ≡ rs = part_at 6 16 (1 ∷ identifier ∷ big_bytes 2 count ++ (0x2F ∷ 128 ∷ [])) rs (mac ++ last) refl hs in
    let e2 : part 22 16 octets ≡ mac = part_at 22 16 front mac last lf hm in
    let e3 : part 42 16 octets ≡ channel_tag tek 0 front sealed =
    part_past 42 20 16 front (mac ++ last) (omega arith) ∙ part_past 20 4 16 mac last (omega arith) ∙ channel_tag_part tek 0 front text in
    let e4 : after 58 octets ≡ sealed = after_past 58 36 front (mac ++ last) (omega arith) ∙ after_past 36 20 mac last (omega arith)
    ∙ channel_sealed tek 0 front text in
    let e5 : part 0 22 octets ≡ front = part_at 0 22 [] front (mac ++ last) refl lf in
    let e6 : channel_tag tek 0 front sealed ≡ channel_tag tek 0 (part 0 22 octets) (after 58 octets) =
    ap (λ (h : List ℕ). channel_tag tek 0 h sealed) (sym e5) ∙ ap (λ (xs : List ℕ). channel_tag tek 0 (part 0 22 octets) xs) (sym e4) in
    let back : channel_text tek 0 (after 58 octets) ≡ text = ap (channel_text tek 0) e4 ∙ channel_back tek 0 text in
    let s1 : same (part 6 16 octets) rs ≡ true = same_true (part 6 16 octets) rs e1 in
    let s2 : same (part 22 16 octets) mac ≡ true = same_true (part 22 16 octets) mac e2 in
    let s3 : same (part 42 16 octets) (channel_tag tek 0 (part 0 22 octets) (after 58 octets))
    ≡ true = same_true (part 42 16 octets) (channel_tag tek 0 (part 0 22 octets) (after 58 octets)) (e3 ∙ e6) in
    let s4 : is_granting (channel_text tek 0 (after 58 octets)) ≡ true = ap is_granting back ∙ granting_true (grant_spelling grant) (spelled_true grant hg) in
    let passes : third_fault keys peer octets ≡ None = rw (form, s1, s2, s3, s4) refl in
    ap (third_fault keys peer) is ∙ passes

pub fourth_taken : (keys : PairKeys) (server : Server) (rand_p packet : List ℕ) → length server.rand_s.0 ≡ 16
    → Fourth (transient_key keys.kdk rand_p) 2 server.rand_s.0 packet → fourth_fault keys server rand_p packet ≡ None
unfolding is_fourth octet
fourth_taken keys server rand_p packet hs is =
    let tek : List ℕ = transient_key keys.kdk rand_p in
    let rs : List ℕ = server.rand_s.0 in
    let front : List ℕ = fourth_head 2 rs in
    let sealed : List ℕ = channel_text tek 1 success_text in
    let last : List ℕ = channel tek 1 front success_text in
    let octets : List ℕ = front ++ last in
    let lf : length front ≡ 22 = omega (arith, hs) in
    let len : length octets ≡ 43 = omega (arith, length-append front last, length-channel tek 1 front success_text) in
    let stands : head_stands 2 3 octets ≡ true = head_true 2 2 43 3 rs last len (omega arith) in
    let nonce : four 22 octets ≡ 1 = four_past 22 0 front last (omega arith) ∙ channel_nonce tek 1 front success_text (omega arith) in
    let form : is_fourth octets ≡ true = rw (len, stands, nonce) refl in
    let e1 : part 6 16 octets ≡ rs = part_at 6 16 (2 ∷ 2 ∷ big_bytes 2 43 ++ (0x2F ∷ 192 ∷ [])) rs last refl hs in
    let e3 : part 26 16 octets ≡ channel_tag tek 1 front sealed = part_past 26 4 16 front last (omega arith) ∙ channel_tag_part tek 1 front success_text in
    let e4 : after 42 octets ≡ sealed = after_past 42 20 front last (omega arith) ∙ channel_sealed tek 1 front success_text in
    let e5 : part 0 22 octets ≡ front = part_at 0 22 [] front last refl lf in
    let e6 : channel_tag tek 1 front sealed ≡ channel_tag tek 1 (part 0 22 octets) (after 42 octets) =
    ap (λ (h : List ℕ). channel_tag tek 1 h sealed) (sym e5) ∙ ap (λ (xs : List ℕ). channel_tag tek 1 (part 0 22 octets) xs) (sym e4) in
    let back : channel_text tek 1 (after 42 octets) ≡ success_text = ap (channel_text tek 1) e4 ∙ channel_back tek 1 success_text in
    let s1 : same (part 6 16 octets) rs ≡ true = same_true (part 6 16 octets) rs e1 in
    let s3 : same (part 26 16 octets) (channel_tag tek 1 (part 0 22 octets) (after 42 octets))
    ≡ true = same_true (part 26 16 octets) (channel_tag tek 1 (part 0 22 octets) (after 42 octets)) (e3 ∙ e6) in
    let passes : fourth_fault keys server rand_p octets ≡ None = rw (form, s1, s3, back) refl in
    ap (fourth_fault keys server rand_p) is ∙ passes
