-- The blocks of a capture, and the one spelling of each (draft-ietf-opsawg-pcapng, sections 3 and 4), little-endian.
use Rattle.std.specs.Prelude.{◌<◌, ◌^◌, ◌/◌, ◌%◌, ℕ, ◌+◌, ◌-◌, List, [], ◌∷◌, ◌++◌, length, take, ⊤}
use Rattle.byteorder.specs.Endian.{little_bytes}
use Rattle.pcapng.specs.declared.options.Direction.{Direction}
use Rattle.pcapng.specs.declared.options.Direction.TheVariants.{Inbound, Outbound}

-- # Padding

-- how many zeros follow this many octets, up to a multiple of four
abbrev pub padding_length : ℕ → ℕ
padding_length n = (4 - n % 4) % 4

-- the zeros after this many octets
unfoldable pub padding : ℕ → List ℕ
padding n = take (padding_length n) (0 ∷ 0 ∷ 0 ∷ [])

-- # Options

-- an option of a block: its code, and what it says
pub record BlockOption : Type 0 where
  pub code : ℕ
  pub octets : List ℕ

abbrev pub COMMENT : ℕ
COMMENT = 1

-- of a section
abbrev pub APPLICATION : ℕ
APPLICATION = 4

-- of an interface
abbrev pub NAME : ℕ
NAME = 2

abbrev pub DESCRIPTION : ℕ
DESCRIPTION = 3

abbrev pub RESOLUTION : ℕ
RESOLUTION = 9

-- of a packet
abbrev pub FLAGS : ℕ
FLAGS = 2

-- what the flags of a packet say of its direction
abbrev pub direction_number : Direction → ℕ
direction_number Inbound = 1
direction_number Outbound = 2

unfoldable pub option_spelling : ℕ → List ℕ → List ℕ
option_spelling code octets = little_bytes 2 code ++ (little_bytes 2 (length octets) ++ (octets ++ padding (length octets)))

abbrev pub options_spelling : List BlockOption → List ℕ
options_spelling [] = []
options_spelling (o ∷ os) = option_spelling o.code o.octets ++ options_spelling os

-- the options of a block, with their end
unfoldable pub ended : List ℕ → List ℕ
ended options = options ++ little_bytes 4 0

-- # Blocks

abbrev pub SECTION : ℕ
SECTION = 0x0A0D0D0A

abbrev pub INTERFACE : ℕ
INTERFACE = 1

abbrev pub PACKET : ℕ
PACKET = 6

-- a type, how many octets the block has, what it says, and again how many octets it has
unfoldable pub block_spelling : ℕ → List ℕ → List ℕ
block_spelling kind body = little_bytes 4 kind ++ (little_bytes 4 (12 + length body) ++ (body ++ little_bytes 4 (12 + length body)))

-- the order of the octets, version 1.0, and no length
abbrev pub section_head : List ℕ
section_head = little_bytes 4 0x1A2B3C4D ++ (little_bytes 2 1 ++ (little_bytes 2 0 ++ (little_bytes 4 0xFFFFFFFF ++ little_bytes 4 0xFFFFFFFF)))

unfoldable pub section_body : List ℕ → List ℕ
section_body options = section_head ++ options

-- the link type, and that no packet is cut
abbrev pub interface_head : ℕ → List ℕ
interface_head link = little_bytes 2 link ++ (little_bytes 2 0 ++ little_bytes 4 0)

unfoldable pub interface_body : ℕ → List ℕ → List ℕ
interface_body link options = interface_head link ++ options

-- a time in its two halves, the higher first
abbrev pub time_halves : ℕ → List ℕ
time_halves time = little_bytes 4 (time / 2 ^ 32) ++ little_bytes 4 (time % 2 ^ 32)

-- the interface, the time, how many octets were kept and how many passed
abbrev pub packet_head : ℕ → ℕ → ℕ → List ℕ
packet_head interface time n = little_bytes 4 interface ++ (time_halves time ++ (little_bytes 4 n ++ little_bytes 4 n))

-- and the octets
unfoldable pub packet_front : ℕ → ℕ → List ℕ → List ℕ
packet_front interface time octets = packet_head interface time (length octets) ++ (octets ++ padding (length octets))

unfoldable pub packet_body : ℕ → ℕ → List ℕ → List ℕ → List ℕ
packet_body interface time octets options = packet_front interface time octets ++ options

-- how many octets the block of a packet has, by those of the packet and those of its options
abbrev pub packet_length : ℕ → ℕ → ℕ
packet_length octets options = 36 + (octets + padding_length octets) + options

-- # Captures

pub data Block : Type 0 where
  Section : List BlockOption → Block
  Interface : ℕ → List BlockOption → Block
  Packet : ℕ → ℕ → List ℕ → List BlockOption → Block

abbrev pub kind_of : Block → ℕ
kind_of (Section options) = SECTION
kind_of (Interface link options) = INTERFACE
kind_of (Packet interface time octets options) = PACKET

abbrev pub body_of : Block → List ℕ
body_of (Section options) = section_body (ended (options_spelling options))
body_of (Interface link options) = interface_body link (ended (options_spelling options))
body_of (Packet interface time octets options) = packet_body interface time octets (ended (options_spelling options))

abbrev pub spelling : Block → List ℕ
spelling b = block_spelling (kind_of b) (body_of b)

-- the blocks, one after the other
abbrev pub capture : List Block → List ℕ
capture [] = []
capture (b ∷ bs) = spelling b ++ capture bs

-- # Sizes

-- an option that can be spelled: code 0 is the end of the options
pub record IsBlockOption (o : BlockOption) : Type 0 where
  pub code : o.code < 2 ^ 16
  pub begun : 0 < o.code
  pub size : length o.octets < 2 ^ 16

abbrev pub AreOptions : List BlockOption → Type 0
AreOptions [] = ⊤
AreOptions (o ∷ os) = IsBlockOption o × AreOptions os

-- what the numbers of a block leave room for
abbrev pub HasRoom : Block → Type 0
HasRoom (Section options) = ⊤
HasRoom (Interface link options) = link < 2 ^ 16
HasRoom (Packet interface time octets options) = (interface < 2 ^ 32) × (time < 2 ^ 64)

abbrev pub options_of : Block → List BlockOption
options_of (Section options) = options
options_of (Interface link options) = options
options_of (Packet interface time octets options) = options

-- a block that can be spelled
pub record IsBlock (b : Block) : Type 0 where
  pub room : HasRoom b
  pub options : AreOptions (options_of b)
  pub size : length (spelling b) < 2 ^ 32

abbrev pub AreBlocks : List Block → Type 0
AreBlocks [] = ⊤
AreBlocks (b ∷ bs) = IsBlock b × AreBlocks bs
