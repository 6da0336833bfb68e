-- The text of the command `vectors`: known inputs, and what the definitions of the standards make of
-- them. An input is the big-endian number of its octets.
use Rattle.std.specs.Prelude.{List, [], ◌∷◌, ◌++◌, codes, ℕ}
use Rattle.byteorder.specs.Endian.{big_bytes}
use Rattle.hex.specs.Hex.{encode_lower}
use Rattle.aes_modes.specs.Cipher.{encrypted}
use Rattle.aes_modes.specs.Cmac.{cmac}
use Rattle.aes_modes.specs.Eax.{eax_text, eax_tag}
use Rattle.aes_modes.specs.Ccm.{ccm_text, ccm_tag}

-- a line: the name, a space, the value in hexadecimal, a line feed
abbrev pub line : List ℕ → List ℕ → List ℕ
line name value = name ++ 32 ∷ encode_lower value ++ 10 ∷ []

-- the block of FIPS 197, appendix C.1
unfoldable pub aes128 : List ℕ
aes128 =
    encrypted (big_bytes 16 0x000102030405060708090a0b0c0d0e0f)
    (big_bytes 16 0x00112233445566778899aabbccddeeff)

-- the key of RFC 4493, section 4
abbrev pub cmac_key : List ℕ
cmac_key = big_bytes 16 0x2b7e151628aed2a6abf7158809cf4f3c

-- the tag of no octet (RFC 4493, section 4, example 1)
unfoldable pub cmac0 : List ℕ
cmac0 = cmac cmac_key []

-- the tag of 16 octets (RFC 4493, section 4, example 2)
unfoldable pub cmac16 : List ℕ
cmac16 = cmac cmac_key (big_bytes 16 0x6bc1bee22e409f96e93d7e117393172a)

-- the tag of a header and no text (the EAX paper, its first test vector)
unfoldable pub eax0 : List ℕ
eax0 =
    let key : List ℕ = big_bytes 16 0x233952dee4d5ed5f9b9c6d6ff80ff478 in
    let nonce : List ℕ = big_bytes 16 0x62ec67f9c3a4a407fcb2a8c49031a8b3 in
    let sealed : List ℕ = eax_text key nonce [] in
    sealed ++ eax_tag key nonce (big_bytes 8 0x6bfb914fd07eae6b) sealed

-- the encrypted text and the tag of 8 octets (RFC 3610, section 8, packet vector 1)
unfoldable pub ccm1 : List ℕ
ccm1 =
    let key : List ℕ = big_bytes 16 0xc0c1c2c3c4c5c6c7c8c9cacbcccdcecf in
    let nonce : List ℕ = big_bytes 13 0x00000003020100a0a1a2a3a4a5 in
    let text : List ℕ = big_bytes 23 0x08090a0b0c0d0e0f101112131415161718191a1b1c1d1e in
    ccm_text key nonce text ++ ccm_tag 8 key nonce (big_bytes 8 0x0001020304050607) text

-- the whole text
unfoldable pub vectors_text : List ℕ
vectors_text =
    line (codes "aes128") aes128 ++ line (codes "cmac0") cmac0 ++ line (codes "cmac16") cmac16
    ++ line (codes "eax0") eax0 ++ line (codes "ccm1") ccm1
