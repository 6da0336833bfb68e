-- A header has 15 octets, and stands before what follows it.
use Rattle.std.proofs.Common.{◌≡◌, ℕ, List, [], ◌++◌, length, take, drop, reverse, refl, sym, ap, ◌∙◌, arith}
use Rattle.std.proofs.Math.Seq.{take-append_seam, drop-append_seam}
use Rattle.std.proofs.lemmas.List.{length-append, length-reverse, append_assoc, append-nil}
use Rattle.byteorder.specs.Endian.{little_bytes}
use Rattle.plc_base.specs.Fields.{after}
use Rattle.mac_frames.specs.declared.head.MacHead.{MacHead}
use Rattle.mac_frames.specs.declared.head.MacHead.TheVariants.{Sealed, Up, Down}
use Rattle.mac_frames.specs.Grammar.{IsHead, header, header_then}

pub header_then-append : (head : MacHead) (rest : List ℕ) → header_then head rest ≡ header head ++ rest
header_then-append (Sealed ack seq pan to from counter index) rest = refl
header_then-append (Up ack version seq pan to from) rest =
    let parts : reverse from.0 ++ rest ≡ (reverse from.0 ++ []) ++ rest =
    ap (λ (xs : List ℕ). xs ++ rest) (sym (append-nil (reverse from.0))) in
    cc
header_then-append (Down ack version seq pan to from) rest =
    let parts : reverse to.0 ++ (little_bytes 2 from ++ rest) ≡ (reverse to.0 ++ (little_bytes 2 from ++ [])) ++ rest =
    sym (append_assoc (reverse to.0) (little_bytes 2 from ++ []) rest) in
    cc

pub length-header : (head : MacHead) → IsHead head → length (header head) ≡ 15
length-header (Sealed ack seq pan to from counter index) h = refl
length-header (Up ack version seq pan to from) h =
    omega (arith, length-append (reverse from.0) [], length-reverse from.0, h.4.0)
length-header (Down ack version seq pan to from) h =
    omega (arith, length-append (reverse to.0) (little_bytes 2 from ++ []), length-reverse to.0, h.3.0)

-- the two parts of octets that begin with a header
pub body_is : (head : MacHead) (octets a b : List ℕ) → octets ≡ header_then head (after 15 octets) → octets ≡ a ++ b → length a ≡ 15 → b ≡ after 15 octets
unfolding after
body_is head octets a b spelled parts len =
    sym (ap (drop 15) parts ∙ ap (λ (n : ℕ). drop n (a ++ b)) (sym len) ∙ drop-append_seam a b)

pub header_is : (head : MacHead) (octets a b : List ℕ) → IsHead head → octets ≡ header_then head b → octets ≡ a ++ b → length a ≡ 15 → a ≡ header head
header_is head octets a b fields spelled parts len =
    let same : a ++ b ≡ header head ++ b = sym parts ∙ spelled ∙ header_then-append head b in
    sym (take-append_seam a b) ∙ ap (λ (n : ℕ). take n (a ++ b)) (len ∙ sym (length-header head fields)) ∙ ap (take (length (header head))) same
    ∙ take-append_seam (header head) b
