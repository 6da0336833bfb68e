-- A reader of captures: what octets say, or none where they say nothing. It reads each length at both ends of a block, and knows
-- the three types of blocks that are written.
use Rattle.std.specs.Prelude.{ℕ, zero, suc, ◌-◌, ◌+◌, ◌*◌, ◌^◌, ◌==◌, ◌&&◌, nat_le, Bool, if◌then◌else◌, List, [], ◌∷◌, length, take, drop, Option, Some, None}
use Rattle.byteorder.specs.Endian.{little_number}
use Rattle.pcapng.specs.Blocks.{BlockOption, Block, Section, Interface, Packet, SECTION, INTERFACE, PACKET, padding_length}

-- # Parts of octets

-- the number in the first n octets, and then what follows it
unfoldable pub number_then : {B : Type 0} → ℕ → List ℕ → (ℕ → List ℕ → Option B) → Option B
number_then n octets next = if nat_le n (length octets) then next (little_number n octets) (drop n octets) else None

-- the first n octets, and then what follows them
unfoldable pub part_then : {B : Type 0} → ℕ → List ℕ → (List ℕ → List ℕ → Option B) → Option B
part_then n octets next = if nat_le n (length octets) then next (take n octets) (drop n octets) else None

unfoldable pub where_true : {B : Type 0} → Bool → Option B → Option B
where_true b r = if b then r else None

unfoldable pub choose : {B : Type 0} → Bool → Option B → Option B → Option B
choose b one other = if b then one else other

unfoldable pub and_then : {A B : Type 0} → Option A → (A → Option B) → Option B
and_then None next = None
and_then (Some x) next = next x

-- # Options

-- the end of the options, after which nothing stands
abbrev pub options_end : ℕ → List ℕ → Option (List BlockOption)
options_end zero [] = Some []
options_end n octets = None

-- the options up to their end: at most k of them
unfoldable pub options_within : ℕ → List ℕ → Option (List BlockOption)
options_within zero octets = None
options_within (suc k) octets =
    number_then 2 octets (λ code sized. number_then 2 sized (λ n said. choose (code == 0) (options_end n said)
    (part_then n said (λ text more. part_then (padding_length n) more (λ zeros rest.
    and_then (options_within k rest) (λ os. Some (record { code = code; octets = text } ∷ os)))))))

abbrev pub options_in : List ℕ → Option (List BlockOption)
options_in octets = options_within (length octets) octets

-- # Blocks

unfoldable pub section_in : List ℕ → Option Block
section_in body =
    number_then 4 body (λ order b. number_then 2 b (λ major c. number_then 2 c (λ minor d. part_then 8 d (λ size options.
    where_true (order == 0x1A2B3C4D && (major == 1) && (minor == 0)) (and_then (options_in options) (λ os. Some (Section os)))))))

unfoldable pub interface_in : List ℕ → Option Block
interface_in body =
    number_then 2 body (λ link b. number_then 2 b (λ reserved c. number_then 4 c (λ limit options.
    where_true (limit == 0) (and_then (options_in options) (λ os. Some (Interface link os))))))

unfoldable pub packet_in : List ℕ → Option Block
packet_in body =
    number_then 4 body (λ interface b. number_then 4 b (λ high c. number_then 4 c (λ low d.
    number_then 4 d (λ kept e. number_then 4 e (λ passed f.
    part_then kept f (λ octets g. part_then (padding_length kept) g (λ zeros options.
    where_true (passed == kept)
    (and_then (options_in options) (λ os. Some (Packet interface (high * 2 ^ 32 + low) octets os))))))))))

-- what the body of a block of some type says
unfoldable pub body_in : ℕ → List ℕ → Option Block
body_in kind body =
    if kind == SECTION then section_in body
    else (if kind == INTERFACE then interface_in body else (if kind == PACKET then packet_in body else None))

-- the first block, and then what follows it
unfoldable pub block_then : {B : Type 0} → List ℕ → (Block → List ℕ → Option B) → Option B
block_then octets next =
    number_then 4 octets (λ kind a. number_then 4 a (λ n b. where_true (nat_le 12 n)
    (part_then (n - 12) b (λ body c. number_then 4 c (λ again rest. where_true (again == n)
    (and_then (body_in kind body) (λ block. next block rest)))))))

-- all blocks: at most k of them
unfoldable pub blocks_within : ℕ → List ℕ → Option (List Block)
blocks_within k [] = Some []
blocks_within zero (x ∷ octets) = None
blocks_within (suc k) (x ∷ octets) =
    block_then (x ∷ octets) (λ block rest. and_then (blocks_within k rest) (λ more. Some (block ∷ more)))

abbrev pub blocks_in : List ℕ → Option (List Block)
blocks_in octets = blocks_within (length octets) octets
