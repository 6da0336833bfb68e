-- What MAC frames are, and the one spelling of each (IEEE 802.15.4-2006, section 7.2).
use Rattle.std.specs.Prelude.{◌≡◌, ◌≢◌, ◌<◌, ◌≤◌, ◌^◌, ℕ, ◌+◌, ◌*◌, Bool, true, false, List, [], ◌∷◌, ◌++◌, length, reverse, if◌then◌else◌, ⊤}
use Rattle.std.specs.List.{All}
use Rattle.byteorder.specs.Endian.{little_bytes}
use Rattle.plc_base.specs.Addresses.{IsAddress}
use Rattle.plc_base.specs.declared.address.Eui.{Eui}
use Rattle.mac_frames.specs.declared.head.MacHead.{MacHead}
use Rattle.mac_frames.specs.declared.head.MacHead.TheVariants.{Sealed, Up, Down}

-- the short address that a frame goes to: one node's, or FFFF for all
abbrev pub IsTarget : ℕ → Type 0
IsTarget to = (to < 2 ^ 16) × (to ≢ 0xFFFE)

-- eight octets
abbrev pub IsEightOctets : List ℕ → Type 0
IsEightOctets octets = (length octets ≡ 8) × All (λ x. x < 256) octets

abbrev pub IsEui : Eui → Type 0
IsEui eui = IsEightOctets eui.0

-- the heads, by kind
abbrev pub IsHead : MacHead → Type 0
IsHead (Sealed ack seq pan to from counter index) =
    (seq < 2 ^ 8) × (pan < 2 ^ 16) × IsTarget to × IsAddress from × (counter < 2 ^ 32) × (index ≤ 1)
IsHead (Up ack version seq pan to from) =
    (version ≤ 1) × (seq < 2 ^ 8) × (pan < 2 ^ 16) × IsTarget to × IsEui from
IsHead (Down ack version seq pan to from) =
    (version ≤ 1) × (seq < 2 ^ 8) × (pan < 2 ^ 16) × IsEui to × IsAddress from

-- what the types of a head's fields leave open
abbrev pub IsAllowed : MacHead → Type 0
IsAllowed (Sealed ack seq pan to from counter index) = (to ≢ 0xFFFE) × (index ≤ 1)
IsAllowed (Up ack version seq pan to from) = (version ≤ 1) × (to ≢ 0xFFFE)
IsAllowed (Down ack version seq pan to from) = version ≤ 1

-- whether a head is of a sealed frame
abbrev pub IsSealed : MacHead → Type 0
IsSealed (Sealed ack seq pan to from counter index) = ⊤
IsSealed (Up ack version seq pan to from) = ⊥
IsSealed (Down ack version seq pan to from) = ⊥

-- whether a head is of a plain frame
abbrev pub IsPlain : MacHead → Type 0
IsPlain (Sealed ack seq pan to from counter index) = ⊥
IsPlain (Up ack version seq pan to from) = ⊤
IsPlain (Down ack version seq pan to from) = ⊤

-- the first octet of the frame control: data, with PAN id compression (section 7.2.1.1)
abbrev pub low_control : Bool → Bool → ℕ
low_control sealed ack = 1 + (if sealed then 2 ^ 3 else 0) + (if ack then 2 ^ 5 else 0) + 2 ^ 6

-- its second octet: the target's mode, the version, the sender's mode; mode 2 is a short address and 3 an
-- extended one (section 7.2.1.1)
abbrev pub high_control : ℕ → ℕ → ℕ → ℕ
high_control target version sender = 2 ^ 2 * target + 2 ^ 4 * version + 2 ^ 6 * sender

-- The header of a head, before what follows it. Each kind has 15 octets.
abbrev pub header_then : MacHead → List ℕ → List ℕ
header_then (Sealed ack seq pan to from counter index) rest =
    low_control true ack ∷ high_control 2 1 2 ∷ seq ∷ little_bytes 2 pan
    ++ (little_bytes 2 to ++ (little_bytes 2 from ++ (0x0D ∷ little_bytes 4 counter ++ (index ∷ rest))))
header_then (Up ack version seq pan to from) rest =
    low_control false ack ∷ high_control 2 version 3 ∷ seq ∷ little_bytes 2 pan
    ++ (little_bytes 2 to ++ (reverse from.0 ++ rest))
header_then (Down ack version seq pan to from) rest =
    low_control false ack ∷ high_control 3 version 2 ∷ seq ∷ little_bytes 2 pan
    ++ (reverse to.0 ++ (little_bytes 2 from ++ rest))

-- the header of a head
abbrev pub header : MacHead → List ℕ
header head = header_then head []

-- which bodies a head has: that of a sealed frame ends in a tag of 4 octets
abbrev pub IsBody : MacHead → List ℕ → Type 0
IsBody (Sealed ack seq pan to from counter index) body = 4 ≤ length body
IsBody (Up ack version seq pan to from) body = ⊤
IsBody (Down ack version seq pan to from) body = ⊤

-- the frame relation: the octets are the fields of the head, and the body
pub record Frame (head : MacHead) (body octets : List ℕ) : Type 0 where
  pub fields : IsHead head
  pub rest : IsBody head body
  pub size : length octets ≤ 400
  pub spelled : octets ≡ header_then head body
