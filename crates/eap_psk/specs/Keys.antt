-- The keys of EAP-PSK and what is computed under them. A key, a random value and a block are 16 octets.
use Rattle.std.specs.Prelude.{ℕ, List, [], ◌∷◌, ◌++◌, replicate}
use Rattle.byteorder.specs.Endian.{big_bytes}
use Rattle.aes_modes.specs.Cipher.{xor_bytes, encrypted}
use Rattle.aes_modes.specs.Cmac.{cmac}
use Rattle.aes_modes.specs.Eax.{eax_text, eax_tag}

-- a block that is a number below 256
unfoldable pub numbered_block : ℕ → List ℕ
numbered_block n = replicate 15 0 ++ n ∷ []

-- a block encrypted, a number added, and encrypted again
unfoldable pub derived : List ℕ → List ℕ → ℕ → List ℕ
derived key block n = encrypted key (xor_bytes (encrypted key block) (numbered_block n))

-- AK, the authentication key, of the pair key (RFC 4764, 3.1)
abbrev pub authentication_key : List ℕ → List ℕ
authentication_key psk = derived psk (numbered_block 0) 1

-- KDK, the key-derivation key, of the pair key (RFC 4764, 3.1)
abbrev pub derivation_key : List ℕ → List ℕ
derivation_key psk = derived psk (numbered_block 0) 2

-- TEK, the transient key, of KDK and RAND_P (RFC 4764, 3.2)
abbrev pub transient_key : List ℕ → List ℕ → List ℕ
transient_key kdk rand_p = derived kdk rand_p 1

-- the keys that a pair key gives
pub record PairKeys : Type 0 where
  pub ak : List ℕ
  pub kdk : List ℕ

abbrev pub keys_of : List ℕ → PairKeys
keys_of psk = record { ak = authentication_key psk; kdk = derivation_key psk }

-- what MAC_P is the CMAC of: ID_P, ID_S, RAND_S, RAND_P (RFC 4764, 3.2)
abbrev pub mac_p_text : List ℕ → List ℕ → List ℕ → List ℕ → List ℕ
mac_p_text id_p id_s rand_s rand_p = id_p ++ (id_s ++ (rand_s ++ rand_p))

abbrev pub mac_p : List ℕ → List ℕ → List ℕ → List ℕ → List ℕ → List ℕ
mac_p ak id_p id_s rand_s rand_p = cmac ak (mac_p_text id_p id_s rand_s rand_p)

-- what MAC_S is the CMAC of: ID_S, RAND_P (RFC 4764, 3.2)
abbrev pub mac_s_text : List ℕ → List ℕ → List ℕ
mac_s_text id_s rand_p = id_s ++ rand_p

abbrev pub mac_s : List ℕ → List ℕ → List ℕ → List ℕ
mac_s ak id_s rand_p = cmac ak (mac_s_text id_s rand_p)

-- the nonce of EAX: 12 octets of 0 and the channel's nonce
unfoldable pub nonce_block : ℕ → List ℕ
nonce_block nonce = replicate 12 0 ++ big_bytes 4 nonce

-- a text of the protected channel, encrypted or decrypted under TEK (RFC 4764, 3.3)
abbrev pub channel_text : List ℕ → ℕ → List ℕ → List ℕ
channel_text tek nonce text = eax_text tek (nonce_block nonce) text

-- the tag of a header and an encrypted text
abbrev pub channel_tag : List ℕ → ℕ → List ℕ → List ℕ → List ℕ
channel_tag tek nonce header sealed = eax_tag tek (nonce_block nonce) header sealed

-- the channel's octets: nonce, tag, encrypted text (RFC 4764, 3.3)
unfoldable pub channel : List ℕ → ℕ → List ℕ → List ℕ → List ℕ
channel tek nonce header text =
    big_bytes 4 nonce ++ (channel_tag tek nonce header (channel_text tek nonce text) ++ channel_text tek nonce text)
