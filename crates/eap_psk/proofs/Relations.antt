-- What the checks of a packet say together: the relation of its message.
use Rattle.std.proofs.Common.{◌≡◌, ◌≤◌, ℕ, ◌+◌, ◌-◌, List, [], ◌∷◌, ◌++◌, length, ap, ◌∙◌, arith}
use Rattle.std.specs.Prelude.{slice_index}
use Rattle.std.proofs.lemmas.List.{length-drop}
use Rattle.byteorder.specs.Endian.{big_bytes}
use Rattle.plc_base.specs.Fields.{after}
use Rattle.joining_messages.proofs.Rests.{one_is}
use Rattle.aes_modes.proofs.Texts.{eax_text-twice, length-eax_text}
use Rattle.eap_psk.specs.Keys.{nonce_block, channel, channel_tag, channel_text, mac_s}
use Rattle.eap_psk.specs.Messages.{Third, Fourth, head, third_head, fourth_head, success_text}

-- a channel that was opened has its plain text's spelling
channel_read : (tek : List ℕ) (nonce : ℕ) (header sealed text tag : List ℕ) → tag ≡ channel_tag tek nonce header sealed → text ≡ channel_text tek nonce sealed
    → big_bytes 4 nonce ++ (tag ++ sealed) ≡ channel tek nonce header text
unfolding channel
channel_read tek nonce header sealed text tag tag_is text_is =
    let back : channel_text tek nonce text ≡ sealed = ap (channel_text tek nonce) text_is ∙ eax_text-twice tek (nonce_block nonce) sealed in
    rw back (ap (λ (t : List ℕ). big_bytes 4 nonce ++ (t ++ sealed)) tag_is)

length-after : (at : ℕ) (octets : List ℕ) → length (after at octets) ≡ length octets - at
unfolding after
length-after at octets = length-drop at octets

pub third_read : (ak tek header packet text rand_s rand_p id_s mac tag : List ℕ) (identifier : ℕ)
    → packet ≡ head 1 identifier (length packet) 2 rand_s ++ (mac ++ (big_bytes 4 0 ++ (tag ++ after 58 packet))) → 58 ≤ length packet
    → header ≡ head 1 identifier (length packet) 2 rand_s → mac ≡ mac_s ak id_s rand_p → tag ≡ channel_tag tek 0 header (after 58 packet)
    → text ≡ channel_text tek 0 (after 58 packet)
    → Third ak tek identifier rand_s rand_p id_s text packet
third_read ak tek header packet text rand_s rand_p id_s mac tag identifier is long header_is mac_is tag_is text_is =
    let len : length text ≡ length packet - 58 = ap (λ (xs : List ℕ). length xs) text_is ∙ length-eax_text tek (nonce_block 0) (after 58 packet)
    ∙ length-after 58 packet in
    let count : length packet ≡ 58 + length text = omega arith in
    let named : head 1 identifier (length packet) 2 rand_s ≡ third_head identifier rand_s (length text) = ap (λ (n : ℕ). head 1 identifier n 2 rand_s) count in
    let front : header ≡ third_head identifier rand_s (length text) = header_is ∙ named in
    let sealed : big_bytes 4 0 ++ (tag ++ after 58 packet) ≡ channel tek 0 (third_head identifier rand_s (length text)) text =
    channel_read tek 0 header (after 58 packet) text tag tag_is text_is ∙ ap (λ (h : List ℕ). channel tek 0 h text) front in
    is ∙ ap (λ (h : List ℕ). h ++ (mac ++ (big_bytes 4 0 ++ (tag ++ after 58 packet)))) named
    ∙ ap (λ (xs : List ℕ). third_head identifier rand_s (length text) ++ (mac ++ xs)) sealed
    ∙ ap (λ (m : List ℕ). third_head identifier rand_s (length text) ++ (m ++ channel tek 0 (third_head identifier rand_s (length text)) text)) mac_is

pub fourth_read : (tek header packet text rand_s tag : List ℕ)
    → packet ≡ head 2 2 43 3 rand_s ++ (big_bytes 4 1 ++ (tag ++ after 42 packet)) → length packet ≡ 43
    → header ≡ head 2 2 43 3 rand_s → tag ≡ channel_tag tek 1 header (after 42 packet) → text ≡ channel_text tek 1 (after 42 packet) → slice_index text 0 ≡ 0x80
    → Fourth tek 2 rand_s packet
fourth_read tek header packet text rand_s tag is long header_is tag_is text_is success =
    let len : length text ≡ 1 = ap (λ (xs : List ℕ). length xs) text_is ∙ length-eax_text tek (nonce_block 1) (after 42 packet) ∙ length-after 42 packet
    ∙ omega arith in
    let said : text ≡ success_text = one_is text len ∙ ap (λ (x : ℕ). x ∷ []) success in
    let sealed : big_bytes 4 1 ++ (tag ++ after 42 packet) ≡ channel tek 1 (fourth_head 2 rand_s) success_text =
    channel_read tek 1 header (after 42 packet) text tag tag_is text_is ∙ ap (λ (h : List ℕ). channel tek 1 h text) header_is
    ∙ ap (λ (t : List ℕ). channel tek 1 (fourth_head 2 rand_s) t) said in
    is ∙ ap (λ (xs : List ℕ). fourth_head 2 rand_s ++ xs) sealed
