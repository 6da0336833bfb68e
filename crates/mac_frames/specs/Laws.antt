-- A frame is read as it was spelled, and so is its nonce; what frames of octets spell, seal and open is octets; what a key sealed, it opens.
use Rattle.std.specs.Prelude.{◌≡◌, ℕ, ◌+◌, ◌<◌, ◌≤◌, ◌^◌, Bool, true, false, List, length, take, Some, None}
use Rattle.plc_base.specs.Fields.{AreOctets, little_two, little_four}
use Rattle.mac_frames.specs.declared.head.MacHead.{MacHead}
use Rattle.mac_frames.specs.declared.head.MacHead.TheVariants.{Sealed, Up, Down}
use Rattle.mac_frames.specs.Faults.{is_sealed, frame_fault}
use Rattle.mac_frames.specs.Grammar.{IsPlain, Frame, header, header_then}
use Rattle.mac_frames.specs.Reader.{head_in, body_in}
use Rattle.mac_frames.specs.SealedFrames.{opened_in}
use Rattle.mac_frames.specs.Sent.{sealed_body}

-- # Reading

-- What is read of the octets of a frame: no fault, its head, the header of that head, and its body.
pub record IsRead (head : MacHead) (body octets : List ℕ) : Type 0 where
  pub whole : frame_fault octets ≡ None
  pub said : head_in octets ≡ head
  pub front : take 15 octets ≡ header head
  pub rest : body_in octets ≡ body

abbrev pub FramesAreRead : Type 0
FramesAreRead = (head : MacHead) (body octets : List ℕ) → Frame head body octets → IsRead head body octets

-- # Nonces

-- A frame is sealed, and the sender and the counter of its head stand at their places, whatever its other fields are.
pub record SaysItsNonce (from counter : ℕ) (octets : List ℕ) : Type 0 where
  pub sealed : is_sealed octets ≡ true
  pub sender : from < 2 ^ 16 → little_two 7 octets ≡ from
  pub number : counter < 2 ^ 32 → little_four 10 octets ≡ counter

-- so it is of each sealed head
abbrev pub SealedHeadsSayTheirNonces : Type 0
SealedHeadsSayTheirNonces =
    (ack : Bool) (seq pan to from counter index : ℕ) (body : List ℕ)
    → SaysItsNonce from counter (header_then (Sealed ack seq pan to from counter index) body)

-- no plain head is taken for a sealed one
abbrev pub PlainHeadsAreNotSealed : Type 0
PlainHeadsAreNotSealed =
    (head : MacHead) (body : List ℕ) → IsPlain head → is_sealed (header_then head body) ≡ false

-- where octets have no fault, the sender that a sealed head says is an address, and the counter has 32 bits
abbrev pub ReadNoncesAreInRange : Type 0
ReadNoncesAreInRange =
    (octets : List ℕ) (ack : Bool) (seq pan to from counter index : ℕ) → AreOctets octets → frame_fault octets ≡ None
    → head_in octets ≡ Sealed ack seq pan to from counter index → (from < 0xFFFE) × (counter < 2 ^ 32)

-- # Octets

-- the fields of a head that stand in one octet fit there, and its EUI is octets
abbrev pub HasOctets : MacHead → Type 0
HasOctets (Sealed ack seq pan to from counter index) = (seq < 256) × (index < 256)
HasOctets (Up ack version seq pan to from) = (version ≤ 1) × (seq < 256) × AreOctets from.0
HasOctets (Down ack version seq pan to from) = (version ≤ 1) × (seq < 256) × AreOctets to.0

-- the header of such a head is octets, before octets
abbrev pub HeadersAreOctets : Type 0
HeadersAreOctets =
    (head : MacHead) (rest : List ℕ) → HasOctets head → AreOctets rest → AreOctets (header_then head rest)

-- the body of a frame in octets is octets
abbrev pub BodiesAreOctets : Type 0
BodiesAreOctets = (octets : List ℕ) → AreOctets octets → AreOctets (body_in octets)

-- a payload of octets is sealed to octets, under a key of octets
abbrev pub SealedBodiesAreOctets : Type 0
SealedBodiesAreOctets =
    (key : List ℕ) (head : MacHead) (payload : List ℕ) → AreOctets key → AreOctets payload
    → AreOctets (sealed_body key head payload)

-- a body of octets opens to octets, under a key of octets
abbrev pub OpenedPayloadsAreOctets : Type 0
OpenedPayloadsAreOctets =
    (key : List ℕ) (head : MacHead) (front body payload : List ℕ) → AreOctets key → AreOctets body
    → opened_in key head front body ≡ Some payload → AreOctets payload

-- # Sealing and opening

-- what a key sealed under a head, the same key opens under this head
abbrev pub SealedBodiesOpen : Type 0
SealedBodiesOpen =
    (key : List ℕ) (head : MacHead) (payload : List ℕ)
    → opened_in key head (header head) (sealed_body key head payload) ≡ Some payload

-- a sealed body is four octets longer than its payload
abbrev pub SealedBodiesAreLonger : Type 0
SealedBodiesAreLonger =
    (key : List ℕ) (head : MacHead) (payload : List ℕ)
    → length (sealed_body key head payload) ≡ length payload + 4
