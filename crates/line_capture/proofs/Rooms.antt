-- How many octets a packet and its options have at most.
use Rattle.std.proofs.Common.{◌≡◌, ◌≤◌, ◌<◌, ◌^◌, ◌==◌, ℕ, Bool, true, false, ◌-◌, List, ◌++◌, length, arith, length-append, sym, subst}
use Rattle.std.proofs.Common.{Some, None, if◌then◌else◌, slice_get}
use Rattle.std.specs.Prelude.{All}
use Rattle.std.proofs.lemmas.List.Elements.{All-get_or}
use Rattle.std.proofs.lemmas.Option.{get_or_from_slice_get, none-some, slice_get_within}
use Rattle.byteorder.specs.Endian.{little_bytes}
use Rattle.pcapng.specs.Blocks.{FLAGS, option_spelling, packet_length}
use Rattle.pcapng.proofs.Lengths.{length_of_option}
use Rattle.line_record.specs.RunRecords.{numbered}
use Rattle.line_capture.specs.Captures.{IsFrame, tap_heard, tap_sent}

pub heard_short : (tap : Bool) (cost : ℕ) → length (tap_heard tap cost) ≤ 20
heard_short false cost = omega arith
heard_short true cost = omega arith

pub sent_short : (tap : Bool) → length (tap_sent tap) ≤ 20
sent_short false = omega arith
sent_short true = omega arith

some_frame : (frames : List (List ℕ)) (i : ℕ) (octets : List ℕ) → All IsFrame frames → slice_get frames i ≡ Some octets → IsFrame octets
some_frame frames i octets h e =
    subst (λ (t : List ℕ). IsFrame t) (get_or_from_slice_get frames i octets octets e)
    (All-get_or IsFrame frames i octets (slice_get_within frames i octets e) h)

frame_if : (b : Bool) (frames : List (List ℕ)) (i : ℕ) (octets : List ℕ) → All IsFrame frames → Some octets ≡ (if b then None else slice_get frames i)
    → IsFrame octets
frame_if true frames i octets h e = absurd (none-some octets (sym e))
frame_if false frames i octets h e = some_frame frames i octets h (sym e)

-- a frame by its number
pub frame_of : (frames : List (List ℕ)) (number : ℕ) (octets : List ℕ) → All IsFrame frames → Some octets ≡ numbered frames number → IsFrame octets
frame_of frames number octets h e = frame_if (number == 0) frames (number - 1) octets h e

-- a packet with a head, and options with the direction
pub packet_fits : (frame head octets options old : List ℕ) (flags : ℕ) → frame ≡ head → length head ≤ 20 → length octets ≤ 2048 → length old < 2 ^ 30
    → options ≡ old ++ option_spelling FLAGS (little_bytes 4 flags) → packet_length (length (frame ++ octets)) (length options) < 2 ^ 32
packet_fits frame head octets options old flags e h n l f =
    let a = length-append head octets in
    let b = length-append old (option_spelling FLAGS (little_bytes 4 flags)) in
    let d = length_of_option FLAGS (little_bytes 4 flags) in
    rw (e, f) (omega (arith, a, b, d, h, n, l))
