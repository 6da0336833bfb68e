-- How many octets the parts of a block have.
use Rattle.std.proofs.Common.{◌≡◌, ◌%◌, ℕ, ◌+◌, ◌-◌, List, [], ◌∷◌, ◌++◌, length, take, refl, arith, length-append}
use Rattle.std.proofs.lemmas.List.{length-take}
use Rattle.byteorder.specs.Endian.{little_bytes}
use Rattle.pcapng.specs.Blocks.{BlockOption, Section, Interface, Packet, SECTION, INTERFACE, PACKET, padding, padding_length, option_spelling}
use Rattle.pcapng.specs.Blocks.{options_spelling, ended, block_spelling, section_body, interface_body, packet_body, packet_front}
use Rattle.pcapng.specs.Laws.{CapturesAreAligned}

pub length_of_padding : (n : ℕ) → length (padding n) ≡ padding_length n
unfolding padding
length_of_padding n = let e = length-take {A = ℕ} (padding_length n) (0 ∷ 0 ∷ 0 ∷ []) in omega (arith, e)

pub length_of_block : (kind : ℕ) (body : List ℕ) → length (block_spelling kind body) ≡ 12 + length body
unfolding block_spelling
length_of_block kind body =
    let e = length-append body (little_bytes 4 (12 + length body)) in omega (arith, e)

pub length_of_section : (options : List ℕ) → length (section_body options) ≡ 16 + length options
unfolding section_body
length_of_section options = omega arith

pub length_of_interface : (link : ℕ) (options : List ℕ) → length (interface_body link options) ≡ 8 + length options
unfolding interface_body
length_of_interface link options = omega arith

pub length_of_packet : (interface time : ℕ) (octets options : List ℕ)
    → length (packet_body interface time octets options) ≡ 20 + (length octets + (padding_length (length octets) + length options))
unfolding packet_body packet_front
length_of_packet interface time octets options =
    let a = length-append octets (padding (length octets)) in
    let b = length-append (octets ++ padding (length octets)) options in
    let c = length_of_padding (length octets) in
    omega (arith, a, b, c)

pub length_of_ended : (options : List ℕ) → length (ended options) ≡ length options + 4
unfolding ended
length_of_ended options = length-append options (little_bytes 4 0)

pub length_of_option : (code : ℕ) (octets : List ℕ) → length (option_spelling code octets) ≡ 4 + (length octets + padding_length (length octets))
unfolding option_spelling
length_of_option code octets =
    let a = length-append octets (padding (length octets)) in
    let b = length_of_padding (length octets) in
    omega (arith, a, b)

-- # Whole blocks have a multiple of four octets

options_aligned : (os : List BlockOption) → length (options_spelling os) % 4 ≡ 0
options_aligned [] = refl
options_aligned (o ∷ os) =
    let a = length-append (option_spelling o.code o.octets) (options_spelling os) in
    let b = length_of_option o.code o.octets in
    let c = options_aligned os in
    omega (arith, a, b, c)

pub captures_aligned : CapturesAreAligned
captures_aligned (Section options) =
    let a = length_of_block SECTION (section_body (ended (options_spelling options))) in
    let b = length_of_section (ended (options_spelling options)) in
    let c = length_of_ended (options_spelling options) in
    let d = options_aligned options in
    omega (arith, a, b, c, d)
captures_aligned (Interface link options) =
    let a = length_of_block INTERFACE (interface_body link (ended (options_spelling options))) in
    let b = length_of_interface link (ended (options_spelling options)) in
    let c = length_of_ended (options_spelling options) in
    let d = options_aligned options in
    omega (arith, a, b, c, d)
captures_aligned (Packet interface time octets options) =
    let a = length_of_block PACKET (packet_body interface time octets (ended (options_spelling options))) in
    let b = length_of_packet interface time octets (ended (options_spelling options)) in
    let c = length_of_ended (options_spelling options) in
    let d = options_aligned options in
    omega (arith, a, b, c, d)
