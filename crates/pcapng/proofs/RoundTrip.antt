-- The blocks that octets spell are read out of them.
use Rattle.std.proofs.Common.{◌≡◌, ◌≤◌, ◌<◌, ◌^◌, ◌/◌, ◌%◌, ◌==◌, ℕ, zero, suc, true, false, ◌+◌, ◌-◌, List, [], ◌∷◌, ◌++◌, length, Option, Some}
use Rattle.std.proofs.Common.{refl, ap, ◌∙◌, arith, append_assoc, length-append, nat_le}
use Rattle.std.proofs.Math.Nat.{div-add-mod'}
use Rattle.std.proofs.lemmas.Grind.{common_steps}
use Rattle.byteorder.specs.Endian.{little_bytes}
use Rattle.pcapng.specs.Blocks.{BlockOption, Block, Section, Interface, Packet, PACKET, padding, padding_length, option_spelling}
use Rattle.pcapng.specs.Blocks.{options_spelling, ended, block_spelling, section_body, interface_body, packet_body, packet_front, kind_of, body_of, spelling}
use Rattle.pcapng.specs.Blocks.{capture, AreOptions, IsBlock, AreBlocks}
use Rattle.pcapng.specs.Reader.{number_then, choose, and_then, options_within, options_in, section_in, interface_in}
use Rattle.pcapng.specs.Reader.{packet_in, body_in, block_then, blocks_within}
use Rattle.pcapng.specs.Laws.{CapturesAreReadBack}
use Rattle.pcapng.proofs.Lengths.{length_of_padding, length_of_block, length_of_packet, length_of_ended}
use Rattle.pcapng.proofs.Lengths.{length_of_option}
use Rattle.pcapng.proofs.Parts.{number_behind, part_behind, where_behind, choose_no, and_behind, leb_true}

above_zero : (n : ℕ) → 0 < n → (n == 0) ≡ false
above_zero n h = grind (arith, common_steps)

same_number : (n : ℕ) → (n == n) ≡ true
same_number n = grind (arith, common_steps)

-- # Options

regrouped : (a b c d : List ℕ) → ((a ++ b) ++ c) ++ d ≡ a ++ (b ++ (c ++ d))
regrouped a b c d = simp append_assoc

end_read : (k : ℕ) → options_within (suc k) (ended []) ≡ Some []
unfolding options_within ended number_then choose
end_read k = refl

options_read : (os : List BlockOption) (k : ℕ) → length os < k → AreOptions os → options_within k (ended (options_spelling os)) ≡ Some os
unfolding options_within option_spelling ended
options_read os zero h a = absurd (omega arith)
options_read [] (suc k) h a = end_read k
options_read (o ∷ os) (suc k) h a =
    let n : ℕ = length o.octets in
    let more : List ℕ = options_spelling os ++ little_bytes 4 0 in
    ap (λ (t : List ℕ). options_within (suc k) (little_bytes 2 o.code ++ (little_bytes 2 n ++ t)))
    (regrouped o.octets (padding n) (options_spelling os) (little_bytes 4 0))
    ∙ number_behind 2 o.code (little_bytes 2 n ++ (o.octets ++ (padding n ++ more))) _ a.0.code
    ∙ number_behind 2 n (o.octets ++ (padding n ++ more)) _ a.0.size
    ∙ choose_no (o.code == 0) _ _ (above_zero o.code a.0.begun)
    ∙ part_behind n o.octets (padding n ++ more) _ refl
    ∙ part_behind (padding_length n) (padding n) more _ (length_of_padding n)
    ∙ and_behind (options_within k more) os _ (options_read os k (omega arith) a.1)

few_options : (os : List BlockOption) → length os ≤ length (options_spelling os)
few_options [] = omega arith
few_options (o ∷ os) =
    let a = length-append (option_spelling o.code o.octets) (options_spelling os) in
    let b = length_of_option o.code o.octets in
    let c = few_options os in
    omega (arith, a, b, c)

options_are_in : (os : List BlockOption) → AreOptions os → options_in (ended (options_spelling os)) ≡ Some os
options_are_in os a = options_read os (length (ended (options_spelling os))) (omega (arith, few_options os, length_of_ended (options_spelling os))) a

-- # Bodies

section_read : (os : List BlockOption) → AreOptions os → section_in (section_body (ended (options_spelling os))) ≡ Some (Section os)
unfolding section_in section_body
section_read os a =
    let options : List ℕ = ended (options_spelling os) in
    let size : List ℕ = little_bytes 4 0xFFFFFFFF ++ little_bytes 4 0xFFFFFFFF in
    number_behind 4 0x1A2B3C4D (little_bytes 2 1 ++ (little_bytes 2 0 ++ (size ++ options))) _ (omega arith)
    ∙ number_behind 2 1 (little_bytes 2 0 ++ (size ++ options)) _ (omega arith)
    ∙ number_behind 2 0 (size ++ options) _ (omega arith)
    ∙ part_behind 8 size options _ refl
    ∙ where_behind true _ refl
    ∙ and_behind (options_in options) os _ (options_are_in os a)

interface_read : (link : ℕ) (os : List BlockOption) → link < 2 ^ 16 → AreOptions os
    → interface_in (interface_body link (ended (options_spelling os))) ≡ Some (Interface link os)
unfolding interface_in interface_body
interface_read link os h a =
    let options : List ℕ = ended (options_spelling os) in
    number_behind 2 link (little_bytes 2 0 ++ (little_bytes 4 0 ++ options)) _ h
    ∙ number_behind 2 0 (little_bytes 4 0 ++ options) _ (omega arith)
    ∙ number_behind 4 0 options _ (omega arith)
    ∙ where_behind true _ refl
    ∙ and_behind (options_in options) os _ (options_are_in os a)

half_low : (time : ℕ) → time < 2 ^ 64 → time / 2 ^ 32 < 2 ^ 32
half_low time h = omega arith

rest_low : (time : ℕ) → time % 2 ^ 32 < 256 ^ 4
rest_low time = omega arith

packet_read : (interface time : ℕ) (octets : List ℕ) (os : List BlockOption) → interface < 2 ^ 32 → time < 2 ^ 64 → length octets < 2 ^ 32 → AreOptions os
    → packet_in (packet_body interface time octets (ended (options_spelling os))) ≡ Some (Packet interface time octets os)
unfolding packet_in packet_body packet_front
packet_read interface time octets os hi ht hn a =
    let n : ℕ = length octets in
    let high : ℕ = time / 2 ^ 32 in
    let low : ℕ = time % 2 ^ 32 in
    let options : List ℕ = ended (options_spelling os) in
    let rest : List ℕ = octets ++ (padding n ++ options) in
    ap (λ (t : List ℕ). packet_in (little_bytes 4 interface ++ (little_bytes 4 high ++ (little_bytes 4 low ++ (little_bytes 4 n ++ (little_bytes 4 n ++ t))))))
    (append_assoc octets (padding n) options)
    ∙ number_behind 4 interface (little_bytes 4 high ++ (little_bytes 4 low ++ (little_bytes 4 n ++ (little_bytes 4 n ++ rest)))) _ hi
    ∙ number_behind 4 high (little_bytes 4 low ++ (little_bytes 4 n ++ (little_bytes 4 n ++ rest))) _ (half_low time ht)
    ∙ number_behind 4 low (little_bytes 4 n ++ (little_bytes 4 n ++ rest)) _ (rest_low time)
    ∙ number_behind 4 n (little_bytes 4 n ++ rest) _ hn
    ∙ number_behind 4 n rest _ hn
    ∙ part_behind n octets (padding n ++ options) _ refl
    ∙ part_behind (padding_length n) (padding n) options _ (length_of_padding n)
    ∙ where_behind (n == n) _ (same_number n)
    ∙ and_behind (options_in options) os _ (options_are_in os a)
    ∙ ap (λ (t : ℕ). Some (Packet interface t octets os)) (div-add-mod' time (2 ^ 32))

body_read : (b : Block) → IsBlock b → body_in (kind_of b) (body_of b) ≡ Some b
unfolding body_in
body_read (Section os) h = section_read os h.options
body_read (Interface link os) h = interface_read link os h.room h.options
body_read (Packet interface time octets os) h =
    let size = length_of_block PACKET (packet_body interface time octets (ended (options_spelling os))) in
    let body = length_of_packet interface time octets (ended (options_spelling os)) in
    packet_read interface time octets os h.room.0 h.room.1 (omega (arith, size, body, h.size)) h.options

-- # Blocks

block_read : {B : Type 0} → (kind : ℕ) (body rest : List ℕ) (next : Block → List ℕ → Option B) (b : Block) → kind < 256 ^ 4 → 12 + length body < 256 ^ 4
    → body_in kind body ≡ Some b → block_then (block_spelling kind body ++ rest) next ≡ next b rest
unfolding block_then block_spelling
block_read kind body rest next b hk hn e =
    let n : ℕ = 12 + length body in
    ap (λ (t : List ℕ). block_then (little_bytes 4 kind ++ (little_bytes 4 n ++ t)) next) (append_assoc body (little_bytes 4 n) rest)
    ∙ number_behind 4 kind (little_bytes 4 n ++ (body ++ (little_bytes 4 n ++ rest))) _ hk
    ∙ number_behind 4 n (body ++ (little_bytes 4 n ++ rest)) _ hn
    ∙ where_behind (nat_le 12 n) _ (leb_true 12 n (omega arith))
    ∙ part_behind (n - 12) body (little_bytes 4 n ++ rest) _ (omega arith)
    ∙ number_behind 4 n rest _ hn
    ∙ where_behind (n == n) _ (same_number n)
    ∙ and_behind (body_in kind body) b _ e

kind_low : (b : Block) → kind_of b < 256 ^ 4
kind_low (Section os) = omega arith
kind_low (Interface link os) = omega arith
kind_low (Packet interface time octets os) = omega arith

blocks_read : (bs : List Block) (k : ℕ) → length bs ≤ k → AreBlocks bs → blocks_within k (capture bs) ≡ Some bs
unfolding blocks_within block_spelling
blocks_read [] k h a = refl
blocks_read (b ∷ bs) zero h a = absurd (omega arith)
blocks_read (b ∷ bs) (suc k) h a =
    block_read (kind_of b) (body_of b) (capture bs) (λ block rest. and_then (blocks_within k rest) (λ more. Some (block ∷ more))) b
    (kind_low b) (omega (arith, length_of_block (kind_of b) (body_of b), a.0.size)) (body_read b a.0)
    ∙ and_behind (blocks_within k (capture bs)) bs _ (blocks_read bs k (omega arith) a.1)

few_blocks : (bs : List Block) → length bs ≤ length (capture bs)
few_blocks [] = omega arith
few_blocks (b ∷ bs) =
    let a = length-append (spelling b) (capture bs) in
    let c = length_of_block (kind_of b) (body_of b) in
    let d = few_blocks bs in
    omega (arith, a, c, d)

pub captures_read_back : CapturesAreReadBack
captures_read_back bs a = blocks_read bs (length (capture bs)) (few_blocks bs) a
