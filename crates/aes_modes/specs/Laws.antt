-- Laws of the modes, over their definitions alone.
use Rattle.std.specs.Prelude.{◌≡◌, ◌≢◌, ◌≤◌, ℕ, List, length}
use Rattle.plc_base.specs.Fields.{AreOctets}
use Rattle.aes_modes.specs.Cipher.{encrypted}
use Rattle.aes_modes.specs.Cmac.{cmac}
use Rattle.aes_modes.specs.Eax.{eax_text, eax_tag}
use Rattle.aes_modes.specs.Ccm.{ccm_text, ccm_tag}

-- The same nonce gives a text of EAX back.
abbrev pub EaxTextsComeBack : Type 0
EaxTextsComeBack = (key nonce m : List ℕ) → eax_text key nonce (eax_text key nonce m) ≡ m

-- Two different texts under one nonce of EAX have different encrypted texts.
abbrev pub EaxTextsDiffer : Type 0
EaxTextsDiffer = (key nonce m n : List ℕ) → m ≢ n → eax_text key nonce m ≢ eax_text key nonce n

-- The same nonce gives a text of CCM back.
abbrev pub CcmTextsComeBack : Type 0
CcmTextsComeBack = (key nonce m : List ℕ) → ccm_text key nonce (ccm_text key nonce m) ≡ m

-- Two different texts under one nonce of CCM have different encrypted texts.
abbrev pub CcmTextsDiffer : Type 0
CcmTextsDiffer = (key nonce m n : List ℕ) → m ≢ n → ccm_text key nonce m ≢ ccm_text key nonce n

-- An encrypted text of EAX is as long as the text, and its tag has 16 octets.
abbrev pub EaxLengths : Type 0
EaxLengths =
    (key nonce header m : List ℕ)
    → (length (eax_text key nonce m) ≡ length m) × (length (eax_tag key nonce header m) ≡ 16)

-- An encrypted text of CCM is as long as the text, and a tag has as many octets as were asked for.
abbrev pub CcmLengths : Type 0
CcmLengths =
    (n : ℕ) (key nonce header m : List ℕ) → n ≤ 16
    → (length (ccm_text key nonce m) ≡ length m) × (length (ccm_tag n key nonce header m) ≡ n)

-- # Octets, under keys that are octets

-- an encrypted block, whatever the block
abbrev pub BlocksAreOctets : Type 0
BlocksAreOctets = (key block : List ℕ) → AreOctets key → AreOctets (encrypted key block)

-- a CMAC, of whatever text
abbrev pub CmacsAreOctets : Type 0
CmacsAreOctets = (key m : List ℕ) → AreOctets key → AreOctets (cmac key m)

-- a text of octets that CCM encrypted or decrypted
abbrev pub CcmTextsAreOctets : Type 0
CcmTextsAreOctets = (key nonce m : List ℕ) → AreOctets key → AreOctets m → AreOctets (ccm_text key nonce m)

-- a tag of CCM, of whatever header and text
abbrev pub CcmTagsAreOctets : Type 0
CcmTagsAreOctets = (n : ℕ) (key nonce header m : List ℕ) → AreOctets key → AreOctets (ccm_tag n key nonce header m)

-- a text of octets that EAX encrypted or decrypted
abbrev pub EaxTextsAreOctets : Type 0
EaxTextsAreOctets = (key nonce m : List ℕ) → AreOctets key → AreOctets m → AreOctets (eax_text key nonce m)

-- a tag of EAX, of whatever header and encrypted text
abbrev pub EaxTagsAreOctets : Type 0
EaxTagsAreOctets = (key nonce header c : List ℕ) → AreOctets key → AreOctets (eax_tag key nonce header c)
