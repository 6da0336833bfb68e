-- What AES and its modes make under keys that are octets is octets: blocks and tags of whatever, texts of octets.
use Rattle.std.proofs.Common.{ℕ, zero, suc, ◌+◌, ◌*◌, ◌/◌, ◌%◌, ◌<◌, ◌^◌, List, [], ◌∷◌, ◌++◌, length, take, drop, bit_xor, arith}
use Rattle.std.specs.Prelude.{slice_index, get_or}
use Rattle.std.specs.List.{range_with_len}
use Rattle.std.specs.Int.{w128, from_be_bytes, to_be_bytes}
use Rattle.std.proofs.lemmas.Nat.{xor_of_8}
use Rattle.std.proofs.lemmas.List.Elements.{All-nil, All-cons, All-head, All-tail, All-append, All-map, All-take, All-replicate}
use Rattle.plc_base.specs.Fields.{AreOctets}
use Rattle.plc_base.proofs.NumbersOfOctets.{below}
use Rattle.aes_modes.specs.Field.{s_box, affine_bit, affine_bits, inverse}
use Rattle.aes_modes.specs.Chains.{zero_block, chained, padded}
use Rattle.aes_modes.specs.Cipher.{xor_bytes, sub_bytes, shift_rows, round_constant, word, next_round_key, round_key, last_round, state_after, encrypted}
use Rattle.aes_modes.specs.Cmac.{cmac, blocks_before, last_block}
use Rattle.aes_modes.specs.KeyStream.{stream_blocks, masked}
use Rattle.aes_modes.specs.Ccm.{ccm_text, ccm_tag, ccm_mac, ccm_stream_block, ccm_counter_block, ccm_first_block, ccm_header_blocks}
use Rattle.aes_modes.specs.Eax.{eax_text, eax_tag, eax_stream_block, numbered_mac}
use Rattle.aes_modes.specs.Laws.{BlocksAreOctets, CmacsAreOctets, CcmTextsAreOctets, CcmTagsAreOctets, EaxTextsAreOctets, EaxTagsAreOctets}

abbrev IsOctet : ℕ → Type 0
IsOctet x = x < 256

-- # Lists of octets

octet_xor : (a b : ℕ) → a < 256 → b < 256 → bit_xor a b < 256
octet_xor a b low high = xor_of_8 a b low high

xor_octets : (a b : List ℕ) → AreOctets a → AreOctets b → AreOctets (xor_bytes a b)
xor_octets [] b low high = All-nil IsOctet
xor_octets (x ∷ xs) [] low high = All-nil IsOctet
xor_octets (x ∷ xs) (y ∷ ys) low high =
    All-cons IsOctet (bit_xor x y) (xor_bytes xs ys) (octet_xor x y (All-head IsOctet x xs low) (All-head IsOctet y ys high))
    (xor_octets xs ys (All-tail IsOctet x xs low) (All-tail IsOctet y ys high))

four : (a b c d : ℕ) → a < 256 → b < 256 → c < 256 → d < 256 → AreOctets (a ∷ b ∷ c ∷ d ∷ [])
four a b c d x y z w =
    All-cons IsOctet a (b ∷ c ∷ d ∷ []) x (All-cons IsOctet b (c ∷ d ∷ []) y (All-cons IsOctet c (d ∷ []) z (All-cons IsOctet d [] w (All-nil IsOctet))))

-- # The S-box

one_bit : (b i : ℕ) → affine_bit b i < 2
one_bit b i = omega arith

eight_bits : (a b c d e f g h : ℕ) → a < 2 → b < 2 → c < 2 → d < 2 → e < 2 → f < 2 → g < 2 → h < 2
    → 0 + a * 1 + b * 2 + c * 4 + d * 8 + e * 16 + f * 32 + g * 64 + h * 128 < 256
eight_bits a b c d e f g h la lb lc ld le lf lg lh = omega arith

affine_octet : (b : ℕ) → affine_bits 8 b < 256
affine_octet b =
    eight_bits (affine_bit b 0) (affine_bit b 1) (affine_bit b 2) (affine_bit b 3) (affine_bit b 4) (affine_bit b 5) (affine_bit b 6) (affine_bit b 7)
    (one_bit b 0) (one_bit b 1) (one_bit b 2) (one_bit b 3) (one_bit b 4) (one_bit b 5) (one_bit b 6) (one_bit b 7)

box_octet : (b : ℕ) → s_box b < 256
unfolding s_box
box_octet b = affine_octet (inverse b)

boxes_octets : (s : List ℕ) → AreOctets (sub_bytes s)
boxes_octets s = All-map IsOctet s_box s (λ i d lt. box_octet (get_or s i d))

rows_octets : (s : List ℕ) → AreOctets s → AreOctets (shift_rows s)
rows_octets s all = All-map IsOctet (λ k. slice_index s ((k + 4 * (k % 4)) % 16)) (range_with_len 0 16)
    (λ i d lt. below s all ((get_or (range_with_len 0 16) i d + 4 * (get_or (range_with_len 0 16) i d % 4)) % 16))

-- # Round keys

word_octets : (k : List ℕ) (i : ℕ) → AreOctets k → AreOctets (word k i)
word_octets k i all = four (slice_index k i) (slice_index k (i + 1)) (slice_index k (i + 2)) (slice_index k (i + 3)) (below k all i) (below k all (i + 1))
    (below k all (i + 2)) (below k all (i + 3))

next_octets : (c : ℕ) (k : List ℕ) → c < 256 → AreOctets k → AreOctets (next_round_key c k)
unfolding next_round_key
next_octets c k low all =
    let temp : List ℕ = bit_xor (s_box (slice_index k 13)) c ∷ s_box (slice_index k 14) ∷ s_box (slice_index k 15) ∷ s_box (slice_index k 12) ∷ [] in
    let t : AreOctets temp = four (bit_xor (s_box (slice_index k 13)) c) (s_box (slice_index k 14)) (s_box (slice_index k 15)) (s_box (slice_index k 12))
    (octet_xor (s_box (slice_index k 13)) c (box_octet (slice_index k 13)) low) (box_octet (slice_index k 14)) (box_octet (slice_index k 15))
    (box_octet (slice_index k 12)) in
    let a : List ℕ = xor_bytes (word k 0) temp in
    let b : List ℕ = xor_bytes (word k 4) a in
    let d : List ℕ = xor_bytes (word k 8) b in
    let e : List ℕ = xor_bytes (word k 12) d in
    let w0 : AreOctets a = xor_octets (word k 0) temp (word_octets k 0 all) t in
    let w1 : AreOctets b = xor_octets (word k 4) a (word_octets k 4 all) w0 in
    let w2 : AreOctets d = xor_octets (word k 8) b (word_octets k 8 all) w1 in
    let w3 : AreOctets e = xor_octets (word k 12) d (word_octets k 12 all) w2 in
    All-append IsOctet a (b ++ d ++ e) w0 (All-append IsOctet b (d ++ e) w1 (All-append IsOctet d e w2 w3))

round_octets : (key : List ℕ) (n : ℕ) → round_constant n < 256 → AreOctets (round_key key n) → AreOctets (round_key key (suc n))
unfolding round_key
round_octets key n low all = next_octets (round_constant n) (round_key key n) low all

first_octets : (key : List ℕ) → AreOctets key → AreOctets (round_key key 0)
unfolding round_key
first_octets key all = all

last_key_octets : (key : List ℕ) → AreOctets key → AreOctets (round_key key 10)
last_key_octets key all =
    let k1 : AreOctets (round_key key 1) = round_octets key 0 (omega arith) (first_octets key all) in
    let k2 : AreOctets (round_key key 2) = round_octets key 1 (omega arith) k1 in
    let k3 : AreOctets (round_key key 3) = round_octets key 2 (omega arith) k2 in
    let k4 : AreOctets (round_key key 4) = round_octets key 3 (omega arith) k3 in
    let k5 : AreOctets (round_key key 5) = round_octets key 4 (omega arith) k4 in
    let k6 : AreOctets (round_key key 6) = round_octets key 5 (omega arith) k5 in
    let k7 : AreOctets (round_key key 7) = round_octets key 6 (omega arith) k6 in
    let k8 : AreOctets (round_key key 8) = round_octets key 7 (omega arith) k7 in
    let k9 : AreOctets (round_key key 9) = round_octets key 8 (omega arith) k8 in
    round_octets key 9 (omega arith) k9

-- a block that a key of octets makes, of whatever
pub encrypted_octets : BlocksAreOctets
unfolding encrypted last_round
encrypted_octets key block all =
    let s = state_after key block 9 in
    xor_octets (shift_rows (sub_bytes s)) (round_key key 10) (rows_octets (sub_bytes s) (boxes_octets s)) (last_key_octets key all)

-- # Texts

stream_octets : (f : ℕ → List ℕ) → ((i : ℕ) → AreOctets (f i)) → (n : ℕ) → AreOctets (stream_blocks f n)
unfolding stream_blocks
stream_octets f all zero = All-nil IsOctet
stream_octets f all (suc n) = All-append IsOctet (stream_blocks f n) (f n) (stream_octets f all n) (all n)

masked_octets : (f : ℕ → List ℕ) (m : List ℕ) → ((i : ℕ) → AreOctets (f i)) → AreOctets m → AreOctets (masked f m)
unfolding masked
masked_octets f m blocks all = xor_octets m (stream_blocks f (length m / 16 + 1)) all (stream_octets f blocks (length m / 16 + 1))

pub ccm_octets : CcmTextsAreOctets
unfolding ccm_text
ccm_octets key nonce m fits all =
    masked_octets (λ i. ccm_stream_block key nonce (i + 1)) m (λ i. encrypted_octets key (ccm_counter_block nonce (i + 1)) fits) all

pub eax_octets : EaxTextsAreOctets
unfolding eax_text
eax_octets key nonce m fits all =
    let first : ℕ = from_be_bytes w128 (numbered_mac key 0 nonce) in
    masked_octets (eax_stream_block key first) m (λ i. encrypted_octets key (to_be_bytes w128 ((first + i) % 2 ^ 128)) fits) all

-- # Codes and tags

chain_octets : (key x m : List ℕ) (n : ℕ) → AreOctets key → AreOctets x → AreOctets (chained key x m n)
unfolding chained
chain_octets key x m zero fits all = all
chain_octets key x m (suc n) fits all = encrypted_octets key (xor_bytes (chained key x m n) (take 16 (drop (16 * n) m))) fits

pub cmac_octets : CmacsAreOctets
unfolding cmac
cmac_octets key m fits = encrypted_octets key (xor_bytes (chained key zero_block m (blocks_before m)) (last_block key (drop (16 * blocks_before m) m))) fits

mac_octets : (key : List ℕ) (number : ℕ) (m : List ℕ) → AreOctets key → AreOctets (numbered_mac key number m)
unfolding numbered_mac
mac_octets key number m fits = cmac_octets key (to_be_bytes w128 number ++ m) fits

pub eax_tag_octets : EaxTagsAreOctets
unfolding eax_tag
eax_tag_octets key nonce header c fits =
    xor_octets (xor_bytes (numbered_mac key 0 nonce) (numbered_mac key 1 header)) (numbered_mac key 2 c)
    (xor_octets (numbered_mac key 0 nonce) (numbered_mac key 1 header) (mac_octets key 0 nonce fits) (mac_octets key 1 header fits)) (mac_octets key 2 c fits)

ccm_mac_octets : (n : ℕ) (key nonce header m : List ℕ) → AreOctets key → AreOctets (ccm_mac n key nonce header m)
unfolding ccm_mac
ccm_mac_octets n key nonce header m fits =
    let text : List ℕ = ccm_first_block n nonce header m ++ ccm_header_blocks header ++ padded m in
    chain_octets key zero_block text (length text / 16) fits (All-replicate IsOctet 16 0 (omega arith))

pub ccm_tag_octets : CcmTagsAreOctets
unfolding ccm_tag
ccm_tag_octets n key nonce header m fits =
    All-take IsOctet n (xor_bytes (ccm_mac n key nonce header m) (ccm_stream_block key nonce 0))
    (xor_octets (ccm_mac n key nonce header m) (ccm_stream_block key nonce 0) (ccm_mac_octets n key nonce header m fits)
    (encrypted_octets key (ccm_counter_block nonce 0) fits))
