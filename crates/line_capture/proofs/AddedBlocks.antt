-- Blocks that are added one after the other.
use Rattle.std.proofs.Common.{◌≡◌, ◌≤◌, ◌<◌, ◌^◌, ℕ, List, [], ◌∷◌, ◌++◌, length, refl, sym, ap, ◌∙◌, arith, append_assoc, append-nil, length-append}
use Rattle.std.specs.Prelude.{Some}
use Rattle.pcapng.specs.Blocks.{Block, BlockOption, Section, Interface, Packet, AreBlocks, IsBlock, SECTION, INTERFACE, PACKET, block_spelling, capture, ended}
use Rattle.pcapng.specs.Blocks.{interface_body, options_spelling, packet_body, section_body, spelling}
use Rattle.pcapng.specs.Reader.{blocks_in}
use Rattle.pcapng.specs.declared.options.Direction.{Direction}
use Rattle.pcapng.proofs.Lengths.{length_of_block, length_of_ended, length_of_interface, length_of_packet, length_of_section}
use Rattle.pcapng.proofs.RoundTrip.{captures_read_back}
use Rattle.line_capture.specs.Captures.{Adds, direction_notes}
use Rattle.line_capture.specs.Sentences.{AreFew}
use Rattle.line_capture.proofs.Options.{are_options, few_octets, few_one, few_then, options_append}

capture_append : (a b : List Block) → capture (a ++ b) ≡ capture a ++ capture b
capture_append [] b = refl
capture_append (x ∷ a) b =
    ap (λ (t : List ℕ). spelling x ++ t) (capture_append a b) ∙ sym (append_assoc (spelling x) (capture a) (capture b))

blocks_append : (a b : List Block) → AreBlocks a → AreBlocks b → AreBlocks (a ++ b)
blocks_append [] b h k = k
blocks_append (x ∷ a) b h k = (h.0, blocks_append a b h.1 k)

pub adds_none : (old : List ℕ) → Adds old old []
adds_none old = record { octets = sym (append-nil old); blocks = tt }

pub adds_one : (old new : List ℕ) (b : Block) → new ≡ old ++ spelling b → IsBlock b → Adds old new (b ∷ [])
adds_one old new b e h =
    record { octets = e ∙ ap (λ (t : List ℕ). old ++ t) (sym (append-nil (spelling b))); blocks = (h, tt) }

pub adds_then : (old middle new : List ℕ) (a b : List Block) → Adds old middle a → Adds middle new b → Adds old new (a ++ b)
adds_then old middle new a b x y =
    record {
      octets = y.octets ∙ ap (λ (t : List ℕ). t ++ capture b) x.octets ∙ append_assoc old (capture a) (capture b)
          ∙ ap (λ (t : List ℕ). old ++ t) (sym (capture_append a b));
      blocks = blocks_append a b x.blocks y.blocks;
    }

pub packet_is : (interface time : ℕ) (octets : List ℕ) (os : List BlockOption) → interface < 2 ^ 32 → time < 2 ^ 64 → length octets ≤ 2100 → AreFew 61 os
    → IsBlock (Packet interface time octets os)
packet_is interface time octets os i t n f =
    let a = length_of_block PACKET (packet_body interface time octets (ended (options_spelling os))) in
    let b = length_of_packet interface time octets (ended (options_spelling os)) in
    let c = length_of_ended (options_spelling os) in
    let d = few_octets 61 os f in
    record { room = (i, t); options = are_options os f.each; size = omega (arith, a, b, c, d, n) }

few_direction : (direction : Direction) → AreFew 1 (direction_notes direction)
few_direction direction = few_one _ (record { begun = omega arith; code = omega arith; size = omega arith })

-- a packet: a head and octets, with the options that were noted and its direction
pub adds_packet : (old new options head octets : List ℕ) (place node moment time : ℕ) (direction : Direction) (notes : List BlockOption)
    → new ≡ old ++ block_spelling PACKET (packet_body place moment (head ++ octets) (ended (options ++ options_spelling (direction_notes direction))))
    → place ≡ node → moment ≡ time → options ≡ options_spelling notes → node < 2 ^ 32 → time < 2 ^ 64 → length head ≤ 20 → length octets ≤ 2048
    → AreFew 60 notes → Adds old new (Packet node time (head ++ octets) (notes ++ direction_notes direction) ∷ [])
adds_packet old new options head octets place node moment time direction notes e ep em eo n t h o f =
    let recorded : List ℕ → List ℕ = λ os. old ++ block_spelling PACKET (packet_body node time (head ++ octets) (ended os)) in
    let a = length-append head octets in
    adds_one old new (Packet node time (head ++ octets) (notes ++ direction_notes direction))
    (e
    ∙ ap (λ (k : ℕ). old ++ block_spelling PACKET (packet_body k moment (head ++ octets) (ended (options ++ options_spelling (direction_notes direction))))) ep
    ∙ ap (λ (k : ℕ). old ++ block_spelling PACKET (packet_body node k (head ++ octets) (ended (options ++ options_spelling (direction_notes direction))))) em
    ∙ ap (λ (os : List ℕ). recorded (os ++ options_spelling (direction_notes direction))) eo
    ∙ ap recorded (sym (options_append notes (direction_notes direction))))
    (packet_is node time (head ++ octets) (notes ++ direction_notes direction) n t (omega (arith, a, h, o))
    (few_then 60 1 61 notes (direction_notes direction) f (few_direction direction) (omega arith)))

pub section_is : (os : List BlockOption) → AreFew 61 os → IsBlock (Section os)
section_is os f =
    let a = length_of_block SECTION (section_body (ended (options_spelling os))) in
    let b = length_of_section (ended (options_spelling os)) in
    let c = length_of_ended (options_spelling os) in
    let d = few_octets 61 os f in
    record { room = tt; options = are_options os f.each; size = omega (arith, a, b, c, d) }

pub interface_is : (link : ℕ) (os : List BlockOption) → link < 2 ^ 16 → AreFew 61 os → IsBlock (Interface link os)
interface_is link os l f =
    let a = length_of_block INTERFACE (interface_body link (ended (options_spelling os))) in
    let b = length_of_interface link (ended (options_spelling os)) in
    let c = length_of_ended (options_spelling os) in
    let d = few_octets 61 os f in
    record { room = l; options = are_options os f.each; size = omega (arith, a, b, c, d) }

-- what was added to nothing is read back
pub adds_reads : (file : List ℕ) (bs : List Block) → Adds [] file bs → blocks_in file ≡ Some bs
adds_reads file bs h = ap (λ (t : List ℕ). blocks_in t) h.octets ∙ captures_read_back bs h.blocks
