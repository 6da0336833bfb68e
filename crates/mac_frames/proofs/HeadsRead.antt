-- What is read off the octets of a frame is its head and its body.
use Rattle.std.proofs.Common.{◌≡◌, ℕ, zero, suc, ◌+◌, ◌<◌, ◌≤◌, Bool, true, false, List, [], ◌∷◌, ◌++◌, length, reverse, take, Result, Ok, Err, refl, sym, ◌∙◌}
use Rattle.std.proofs.Common.{ap, arith}
use Rattle.std.specs.Prelude.{IfOk}
use Rattle.std.proofs.lemmas.List.{length-append, length-reverse, reverse-reverse, append_assoc}
use Rattle.std.proofs.Math.Seq.{take-append_seam}
use Rattle.byteorder.specs.Endian.{little_bytes}
use Rattle.plc_base.specs.Fields.{octet, little_two, little_four, part, after}
use Rattle.plc_base.proofs.Places.{octet_behind, little_two_behind, little_four_behind, after_behind}
use Rattle.plc_base.specs.declared.address.Eui.{Eui}
use Rattle.plc_base.specs.declared.fields.Fault.{Fault}
use Rattle.mac_frames.specs.declared.fault.FrameFaultKind.{FrameFaultKind}
use Rattle.mac_frames.specs.declared.head.MacHead.{MacHead}
use Rattle.mac_frames.specs.declared.reading.RawFrame.{RawFrame}
use Rattle.mac_frames.specs.declared.head.MacHead.TheVariants.{Sealed, Up, Down}
use Rattle.mac_frames.specs.Faults.{bits, is_sealed, has_modes}
use Rattle.mac_frames.specs.Grammar.{IsHead, Frame, header, header_then, low_control, high_control}
use Rattle.mac_frames.specs.Reader.{ack_in, head_by, head_in, body_in}
use Rattle.mac_frames.specs.Laws.{FramesAreRead}
use Rattle.mac_frames.proofs.Headers.{header_then-append, length-header}
use Rattle.mac_frames.proofs.NoFault.{no_fault}

pub low_sealed : (ack : Bool) (rest : List ℕ) → (is_sealed (low_control true ack ∷ rest) ≡ true) × (ack_in (low_control true ack ∷ rest) ≡ ack)
low_sealed true rest = rw (octet_behind [] (low_control true true) rest) (refl, refl)
low_sealed false rest = rw (octet_behind [] (low_control true false) rest) (refl, refl)

pub low_plain : (ack : Bool) (rest : List ℕ) → (is_sealed (low_control false ack ∷ rest) ≡ false) × (ack_in (low_control false ack ∷ rest) ≡ ack)
low_plain true rest = rw (octet_behind [] (low_control false true) rest) (refl, refl)
low_plain false rest = rw (octet_behind [] (low_control false false) rest) (refl, refl)

take_front : (xs ys : List ℕ) (n : ℕ) → length xs ≡ n → take n (xs ++ ys) ≡ xs
take_front xs ys n same = ap (λ m. take m (xs ++ ys)) (sym same) ∙ take-append_seam xs ys

-- two octets after eight others
two_past : (front eight : List ℕ) (x : ℕ) (rest : List ℕ) → length eight ≡ 8 → x < 65536
    → little_two (length front + 8) (front ++ (eight ++ (little_bytes 2 x ++ rest))) ≡ x
two_past front eight x rest same low =
    ap (λ n. little_two (length front + n) (front ++ (eight ++ (little_bytes 2 x ++ rest)))) (sym same)
    ∙ ap (λ n. little_two n (front ++ (eight ++ (little_bytes 2 x ++ rest)))) (sym (length-append front eight))
    ∙ ap (little_two (length (front ++ eight))) (sym (append_assoc front eight (little_bytes 2 x ++ rest)))
    ∙ little_two_behind (front ++ eight) x rest low

sealed_read : (ack : Bool) (seq pan to from counter index : ℕ) (body : List ℕ) → IsHead (Sealed ack seq pan to from counter index)
    → head_in (header_then (Sealed ack seq pan to from counter index) body) ≡ Sealed ack seq pan to from counter index
unfolding head_in
sealed_read ack seq pan to from counter index body h =
    let octets = header_then (Sealed ack seq pan to from counter index) body in
    let low = low_control true ack in
    let high = high_control 2 1 2 in
    let first = low_sealed ack (high ∷ seq ∷ little_bytes 2 pan
    ++ (little_bytes 2 to ++ (little_bytes 2 from ++ (0x0D ∷ little_bytes 4 counter ++ (index ∷ body))))) in
    let seq_is : octet 2 octets ≡ seq = octet_behind (low ∷ high ∷ []) seq
    (little_bytes 2 pan ++ (little_bytes 2 to ++ (little_bytes 2 from ++ (0x0D ∷ little_bytes 4 counter ++ (index ∷ body))))) in
    let pan_is : little_two 3 octets ≡ pan = little_two_behind (low ∷ high ∷ seq ∷ []) pan
    (little_bytes 2 to ++ (little_bytes 2 from ++ (0x0D ∷ little_bytes 4 counter ++ (index ∷ body)))) (omega (arith, h.1)) in
    let to_is : little_two 5 octets ≡ to = little_two_behind (low ∷ high ∷ seq ∷ little_bytes 2 pan) to
    (little_bytes 2 from ++ (0x0D ∷ little_bytes 4 counter ++ (index ∷ body))) (omega (arith, h.2.0)) in
    let from_is : little_two 7 octets ≡ from = little_two_behind (low ∷ high ∷ seq ∷ little_bytes 2 pan ++ little_bytes 2 to) from
    (0x0D ∷ little_bytes 4 counter ++ (index ∷ body)) (omega (arith, h.3)) in
    let counter_is : little_four 10 octets ≡ counter = little_four_behind
    (low ∷ high ∷ seq ∷ little_bytes 2 pan ++ little_bytes 2 to ++ little_bytes 2 from ++ 0x0D ∷ []) counter (index ∷ body) h.4 in
    let index_is : octet 14 octets ≡ index = octet_behind
    (low ∷ high ∷ seq ∷ little_bytes 2 pan ++ little_bytes 2 to ++ little_bytes 2 from ++ 0x0D ∷ little_bytes 4 counter) index body in
    let read : head_by true (has_modes 2 3 (octet 1 octets)) octets
    ≡ Sealed ack seq pan to from counter index = λ i. Sealed (first.1 i) (seq_is i) (pan_is i) (to_is i) (from_is i) (counter_is i) (index_is i) in
    ap (λ b. head_by b (has_modes 2 3 (octet 1 octets)) octets) first.0 ∙ read

-- the second octet of a plain frame's control
abbrev IsHigh : ℕ → ℕ → ℕ → ℕ → Type 0
IsHigh target version sender x = x ≡ high_control target version sender

up_modes : (version x : ℕ) → version ≤ 1 → IsHigh 2 version 3 x → (has_modes 2 3 x ≡ true) × (bits 4 2 x ≡ version)
up_modes zero x low is = rw is (refl, refl)
up_modes (suc zero) x low is = rw is (refl, refl)
up_modes (suc (suc version)) x low is = absurd (omega (arith, low))

down_modes : (version x : ℕ) → version ≤ 1 → IsHigh 3 version 2 x → (has_modes 2 3 x ≡ false) × (bits 4 2 x ≡ version)
down_modes zero x low is = rw is (refl, refl)
down_modes (suc zero) x low is = rw is (refl, refl)
down_modes (suc (suc version)) x low is = absurd (omega (arith, low))

-- eight octets at a place
part_behind : (front : List ℕ) (eui rest : List ℕ) → length eui ≡ 8 → reverse (part (length front) 8 (front ++ (reverse eui ++ rest))) ≡ eui
unfolding part after
part_behind front eui rest eight =
    ap (λ (l : List ℕ). reverse (take 8 l)) (after_behind front (reverse eui ++ rest))
    ∙ ap reverse (take_front (reverse eui) rest 8 (length-reverse eui ∙ eight)) ∙ reverse-reverse eui

up_read : (ack : Bool) (version seq pan to : ℕ) (from : Eui) (body : List ℕ) → IsHead (Up ack version seq pan to from)
    → head_in (header_then (Up ack version seq pan to from) body) ≡ Up ack version seq pan to from
unfolding head_in
up_read ack version seq pan to from body h =
    let octets = header_then (Up ack version seq pan to from) body in
    let low = low_control false ack in
    let high = high_control 2 version 3 in
    let behind = little_bytes 2 pan ++ (little_bytes 2 to ++ (reverse from.0 ++ body)) in
    let first = low_plain ack (high ∷ seq ∷ behind) in
    let modes = up_modes version (octet 1 octets) h.0 (octet_behind (low ∷ []) high (seq ∷ behind)) in
    let seq_is : octet 2 octets ≡ seq = octet_behind (low ∷ high ∷ []) seq behind in
    let pan_is : little_two 3 octets
    ≡ pan = little_two_behind (low ∷ high ∷ seq ∷ []) pan (little_bytes 2 to ++ (reverse from.0 ++ body)) (omega (arith, h.2)) in
    let to_is : little_two 5 octets ≡ to = little_two_behind (low ∷ high ∷ seq ∷ little_bytes 2 pan) to (reverse from.0 ++ body) (omega (arith, h.3.0)) in
    let from_is : reverse (part 7 8 octets) ≡ from.0 = part_behind (low ∷ high ∷ seq ∷ little_bytes 2 pan ++ little_bytes 2 to) from.0 body h.4.0 in
    let read : head_by false true octets
    ≡ Up ack version seq pan to from = λ i. Up (first.1 i) (modes.1 i) (seq_is i) (pan_is i) (to_is i) (record { 0 = from_is i }) in
    ap (λ b. head_by b (has_modes 2 3 (octet 1 octets)) octets) first.0 ∙ ap (λ b. head_by false b octets) modes.0 ∙ read

down_read : (ack : Bool) (version seq pan : ℕ) (to : Eui) (from : ℕ) (body : List ℕ) → IsHead (Down ack version seq pan to from)
    → head_in (header_then (Down ack version seq pan to from) body) ≡ Down ack version seq pan to from
unfolding head_in
down_read ack version seq pan to from body h =
    let octets = header_then (Down ack version seq pan to from) body in
    let low = low_control false ack in
    let high = high_control 3 version 2 in
    let behind = little_bytes 2 pan ++ (reverse to.0 ++ (little_bytes 2 from ++ body)) in
    let first = low_plain ack (high ∷ seq ∷ behind) in
    let modes = down_modes version (octet 1 octets) h.0 (octet_behind (low ∷ []) high (seq ∷ behind)) in
    let seq_is : octet 2 octets ≡ seq = octet_behind (low ∷ high ∷ []) seq behind in
    let pan_is : little_two 3 octets
    ≡ pan = little_two_behind (low ∷ high ∷ seq ∷ []) pan (reverse to.0 ++ (little_bytes 2 from ++ body)) (omega (arith, h.2)) in
    let to_is : reverse (part 5 8 octets) ≡ to.0 = part_behind (low ∷ high ∷ seq ∷ little_bytes 2 pan) to.0 (little_bytes 2 from ++ body) h.3.0 in
    let from_is : little_two 13 octets
    ≡ from = two_past (low ∷ high ∷ seq ∷ little_bytes 2 pan) (reverse to.0) from body (length-reverse to.0 ∙ h.3.0) (omega (arith, h.4)) in
    let read : head_by false false octets
    ≡ Down ack version seq pan to from = λ i. Down (first.1 i) (modes.1 i) (seq_is i) (pan_is i) (record { 0 = to_is i }) (from_is i) in
    ap (λ b. head_by b (has_modes 2 3 (octet 1 octets)) octets) first.0 ∙ ap (λ b. head_by false b octets) modes.0 ∙ read

head_of : (head : MacHead) (body : List ℕ) → IsHead head → head_in (header_then head body) ≡ head
head_of (Sealed ack seq pan to from counter index) body h = sealed_read ack seq pan to from counter index body h
head_of (Up ack version seq pan to from) body h = up_read ack version seq pan to from body h
head_of (Down ack version seq pan to from) body h = down_read ack version seq pan to from body h

head_read : (head : MacHead) (body octets : List ℕ) → Frame head body octets → head_in octets ≡ head
head_read head body octets f = ap head_in f.spelled ∙ head_of head body f.fields

body_read : (head : MacHead) (body octets : List ℕ) → Frame head body octets → body_in octets ≡ body
unfolding body_in
body_read head body octets f =
    ap (after 15) (f.spelled ∙ header_then-append head body) ∙ ap (λ n. after n (header head ++ body)) (sym (length-header head f.fields))
    ∙ after_behind (header head) body

-- so what a reader answers stands at the places of its fields
pub places_read : (octets : List ℕ) (r : Result RawFrame (Fault FrameFaultKind)) → IfOk r (λ raw. Frame raw.head raw.body.now octets)
    → IfOk r (λ raw. (raw.head ≡ head_in octets) × (raw.body.now ≡ body_in octets))
places_read octets (Ok raw) frame = (sym (head_read raw.head raw.body.now octets frame), sym (body_read raw.head raw.body.now octets frame))
places_read octets (Err e) frame = tt

front_read : (head : MacHead) (body octets : List ℕ) → Frame head body octets → take 15 octets ≡ header head
front_read head body octets f =
    ap (take 15) (f.spelled ∙ header_then-append head body) ∙ ap (λ n. take n (header head ++ body)) (sym (length-header head f.fields))
    ∙ take-append_seam (header head) body

pub frame_read : FramesAreRead
frame_read head body octets f = record {
  whole = no_fault head body octets f;
  said = head_read head body octets f;
  front = front_read head body octets f;
  rest = body_read head body octets f;
}
