-- Sealed frames: CCM* with tags of 4 octets (IEEE 802.15.4-2006, section 7.6.3 and annex B).
use Rattle.std.specs.Prelude.{◌≡◌, ℕ, ◌-◌, List, [], ◌∷◌, ◌++◌, length, take, drop, Option, Some, None, if◌then◌else◌}
use Rattle.std.specs.Str.{bytes_eq}
use Rattle.byteorder.specs.Endian.{big_bytes}
use Rattle.aes_modes.specs.Ccm.{ccm_text, ccm_tag}
use Rattle.mac_frames.specs.declared.head.MacHead.{MacHead}
use Rattle.mac_frames.specs.declared.head.MacHead.TheVariants.{Sealed, Up, Down}
use Rattle.mac_frames.specs.Grammar.{Frame, IsSealed, header}

-- the nonce of 13 octets: the sender's extended address that its PAN id and its short address make, the
-- frame counter, and the security level (section 7.6.3.2)
abbrev pub nonce : ℕ → ℕ → ℕ → List ℕ
nonce pan from counter =
    big_bytes 2 pan ++ (0x00 ∷ 0xFF ∷ 0xFE ∷ 0x00 ∷ big_bytes 2 from ++ (big_bytes 4 counter ++ (0x05 ∷ [])))

-- the nonce of a sealed head
abbrev pub nonce_of : MacHead → List ℕ
nonce_of (Sealed ack seq pan to from counter index) = nonce pan from counter
nonce_of (Up ack version seq pan to from) = []
nonce_of (Down ack version seq pan to from) = []

-- the encrypted payload and the tag that a sealed body is
abbrev pub sealed_text : List ℕ → List ℕ
sealed_text body = take (length body - 4) body

abbrev pub sealed_tag : List ℕ → List ℕ
sealed_tag body = drop (length body - 4) body

-- the payload of a sealed body under a key and the nonce of a head, whatever its tag
unfoldable pub payload_in : List ℕ → MacHead → List ℕ → List ℕ
payload_in key head body = ccm_text key (nonce_of head) (sealed_text body)

-- its tag is the one that the key, the head, the header's octets and that payload have
unfoldable pub HasTag : List ℕ → MacHead → List ℕ → List ℕ → Type 0
HasTag key head front body = sealed_tag body ≡ ccm_tag 4 key (nonce_of head) front (payload_in key head body)

-- the payload of a sealed body, where its tag is right
abbrev pub opened_in : List ℕ → MacHead → List ℕ → List ℕ → Option (List ℕ)
opened_in key head front body =
    if bytes_eq (sealed_tag body) (ccm_tag 4 key (nonce_of head) front (payload_in key head body))
    then Some (payload_in key head body) else None

-- The octets are a frame whose body is the payload, encrypted under the key and the head's nonce, and the
-- tag of all octets before it and the payload.
pub record SealedFrame (head : MacHead) (key payload octets : List ℕ) : Type 0 where
  pub sealed : IsSealed head
  pub frame : Frame head (ccm_text key (nonce_of head) payload
      ++ ccm_tag 4 key (nonce_of head) (header head) payload) octets
