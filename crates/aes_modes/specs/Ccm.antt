-- CCM with AES-128 (RFC 3610) with L = 2, so nonces of 13 octets; with tags of 4 or 8 octets this is
-- CCM* of IEEE 802.15.4-2006, annex B, where it both encrypts and authenticates.
use Rattle.std.specs.Prelude.{ℕ, ◌+◌, ◌-◌, ◌*◌, ◌/◌, ◌==◌, List, [], ◌∷◌, ◌++◌, length, take, if◌then◌else◌}
use Rattle.std.specs.Int.{w16, to_be_bytes}
use Rattle.aes_modes.specs.Cipher.{xor_bytes, encrypted}
use Rattle.aes_modes.specs.Chains.{zero_block, chained_all, padded}
use Rattle.aes_modes.specs.KeyStream.{masked}

-- B_0, for tags of n octets: the flags Adata, M' = (n - 2) / 2 and L' = 1, the nonce, and the length of
-- the text (section 2.2)
abbrev pub ccm_first_block : ℕ → List ℕ → List ℕ → List ℕ → List ℕ
ccm_first_block n nonce header m =
    ((if length header == 0 then 0 else 64) + 8 * ((n - 2) / 2) + 1)
    ∷ nonce ++ to_be_bytes w16 (length m)

-- the blocks of the header, which has fewer than 65,280 octets: its length and the header, padded; none
-- for an empty header (section 2.2)
abbrev pub ccm_header_blocks : List ℕ → List ℕ
ccm_header_blocks header =
    if length header == 0 then [] else padded (to_be_bytes w16 (length header) ++ header)

-- the CBC-MAC of B_0, the header's blocks and the padded text (section 2.2)
unfoldable pub ccm_mac : ℕ → List ℕ → List ℕ → List ℕ → List ℕ → List ℕ
ccm_mac n key nonce header m =
    chained_all key zero_block (ccm_first_block n nonce header m ++ ccm_header_blocks header ++ padded m)

-- A_i: the flags L' = 1, the nonce, and i (section 2.3)
abbrev pub ccm_counter_block : List ℕ → ℕ → List ℕ
ccm_counter_block nonce i = 1 ∷ nonce ++ to_be_bytes w16 i

-- S_i (section 2.3)
abbrev pub ccm_stream_block : List ℕ → List ℕ → ℕ → List ℕ
ccm_stream_block key nonce i = encrypted key (ccm_counter_block nonce i)

-- the text m, encrypted or decrypted: S_1, S_2 and on are added to it (section 2.3)
unfoldable pub ccm_text : List ℕ → List ℕ → List ℕ → List ℕ
ccm_text key nonce m = masked (λ i. ccm_stream_block key nonce (i + 1)) m

-- the tag of n octets of a nonce, a header and a plain text: the front of the CBC-MAC with S_0 added
-- (section 2.3)
unfoldable pub ccm_tag : ℕ → List ℕ → List ℕ → List ℕ → List ℕ → List ℕ
ccm_tag n key nonce header m = take n (xor_bytes (ccm_mac n key nonce header m) (ccm_stream_block key nonce 0))
