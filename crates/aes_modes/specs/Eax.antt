-- EAX with AES-128 and tags of 16 octets (Bellare, Rogaway and Wagner: The EAX Mode of Operation, 2004).
use Rattle.std.specs.Prelude.{ℕ, ◌+◌, ◌%◌, ◌^◌, List, ◌++◌}
use Rattle.std.specs.Int.{w128, to_be_bytes, from_be_bytes}
use Rattle.aes_modes.specs.Cipher.{xor_bytes, encrypted}
use Rattle.aes_modes.specs.Cmac.{cmac}
use Rattle.aes_modes.specs.KeyStream.{masked}

-- OMAC^t: CMAC of a block with the number t, and m
unfoldable pub numbered_mac : List ℕ → ℕ → List ℕ → List ℕ
numbered_mac key number m = cmac key (to_be_bytes w128 number ++ m)

-- block i of the key stream: the counter begins at a number, and counts up modulo 2^128
abbrev pub eax_stream_block : List ℕ → ℕ → ℕ → List ℕ
eax_stream_block key start i = encrypted key (to_be_bytes w128 ((start + i) % 2 ^ 128))

-- the text m, encrypted or decrypted: the counter begins at N = OMAC^0 of the nonce
unfoldable pub eax_text : List ℕ → List ℕ → List ℕ → List ℕ
eax_text key nonce m = masked (eax_stream_block key (from_be_bytes w128 (numbered_mac key 0 nonce))) m

-- the tag of a nonce, a header and an encrypted text: the sum of N, H and C'
unfoldable pub eax_tag : List ℕ → List ℕ → List ℕ → List ℕ → List ℕ
eax_tag key nonce header c =
    xor_bytes (xor_bytes (numbered_mac key 0 nonce) (numbered_mac key 1 header)) (numbered_mac key 2 c)
