-- The files of a profile of Wireshark: the keys and the addresses of a run.
use Rattle.std.specs.Prelude.{ℕ, ◌+◌, ◌==◌, Bool, true, false, List, [], ◌∷◌, ◌++◌, codes, replicate, slice_set, Option, None, Some, if◌then◌else◌}
use Rattle.hex.specs.Hex.{encode_lower}
use Rattle.plc_base.specs.declared.fields.Fault.{Fault}
use Rattle.mac_frames.specs.declared.head.MacHead.{MacHead}
use Rattle.mac_frames.specs.declared.head.MacHead.TheVariants.{Sealed, Up, Down}
use Rattle.mac_frames.specs.declared.fault.FrameFaultKind.{FrameFaultKind}
use Rattle.mac_frames.specs.Faults.{frame_fault}
use Rattle.mac_frames.specs.Reader.{head_in}
use Rattle.sentence_parts.specs.declared.part.Part.TheVariants.{Words, Short}
use Rattle.sentence_parts.specs.Parts.{parts_text}

-- # Keys

abbrev pub index_text : ℕ → List ℕ
index_text index = if index == 0 then codes "\",\"0\",\"No hash\"\n" else codes "\",\"1\",\"No hash\"\n"

-- the line of a key
abbrev pub key_text : List ℕ → List ℕ
key_text [] = []
key_text (index ∷ key) = codes "\"" ++ (encode_lower key ++ index_text index)

abbrev pub key_at : Option (List ℕ) → List ℕ
key_at None = []
key_at (Some drawn) = key_text drawn

abbrev pub keys_text : List (List ℕ) → List ℕ
keys_text [] = []
keys_text (drawn ∷ keys) = key_text drawn ++ keys_text keys

-- # Addresses

-- the short address of the node that sent a frame, if it has one
abbrev pub head_sender : MacHead → Option ℕ
head_sender (Sealed ack seq pan to from counter index) = Some from
head_sender (Up ack version seq pan to from) = None
head_sender (Down ack version seq pan to from) = Some from

-- by the fault of the octets, if they have one
abbrev pub sender_unless : Option (Fault FrameFaultKind) → List ℕ → Option ℕ
sender_unless None octets = head_sender (head_in octets)
sender_unless (Some fault) octets = None

abbrev pub frame_sender : List ℕ → Option ℕ
frame_sender octets = sender_unless (frame_fault octets) octets

-- which addresses were seen, with one more
abbrev pub marked : Option ℕ → List Bool → List Bool
marked None seen = seen
marked (Some address) seen = slice_set seen address true

-- and with the senders of frames
abbrev pub marked_by : List (List ℕ) → List Bool → List Bool
marked_by [] seen = seen
marked_by (frame ∷ frames) seen = marked_by frames (marked (frame_sender frame) seen)

-- the line of an address: its extended address begins with the PAN
abbrev pub address_text : ℕ → List ℕ
address_text address =
    parts_text (Words (codes "\"") ∷ Short address ∷ Words (codes "\",\"781d\",781d00fffe00") ∷ Short address ∷ Words (codes "\n") ∷ [])

-- the lines of those that were seen, from this address on
abbrev pub seen_text : ℕ → List Bool → List ℕ
seen_text address [] = []
seen_text address (true ∷ seen) = address_text address ++ seen_text (address + 1) seen
seen_text address (false ∷ seen) = seen_text (address + 1) seen

-- those of this many addresses
abbrev pub addresses_text : ℕ → List (List ℕ) → List (List ℕ) → List ℕ
addresses_text count octets injected = seen_text 0 (marked_by injected (marked_by octets (replicate count false)))
