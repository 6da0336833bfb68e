-- What a frame spells has no fault.
use Rattle.std.proofs.Common.{◌≡◌, ◌≢◌, ℕ, zero, suc, ◌+◌, ◌≤◌, Bool, true, false, List, ◌∷◌, ◌++◌, length, reverse, None, refl, sym, ap, ◌∙◌, arith}
use Rattle.std.proofs.lemmas.Grind.{common_steps}
use Rattle.std.proofs.lemmas.List.{length-append, length-reverse}
use Rattle.byteorder.specs.Endian.{little_bytes}
use Rattle.plc_base.specs.Fields.{octet, little_two}
use Rattle.plc_base.specs.Addresses.{IsAddress}
use Rattle.plc_base.specs.Faults.{cut_off}
use Rattle.plc_base.proofs.Faults.{cut_off-none}
use Rattle.plc_base.proofs.Places.{little_two_behind}
use Rattle.plc_base.specs.declared.address.Eui.{Eui}
use Rattle.mac_frames.specs.declared.head.MacHead.{MacHead}
use Rattle.mac_frames.specs.declared.head.MacHead.TheVariants.{Sealed, Up, Down}
use Rattle.mac_frames.specs.Grammar.{Frame, IsHead, IsBody, header_then, high_control, low_control}
use Rattle.mac_frames.specs.declared.fault.FrameFaultKind.TheVariants.{Short}
use Rattle.mac_frames.specs.Faults.{type_fault, low_fault, is_sealed, version_fault, has_modes, high_fault, target_fault, sender_fault, level_fault}
use Rattle.mac_frames.specs.Faults.{index_fault, sealed_fault, up_fault, down_fault, fields_fault, frame_fault}

-- a field that is as it should be has no fault
short_none : (end : ℕ) (octets : List ℕ) → end ≤ length octets → cut_off Short end octets ≡ None
short_none end octets h = cut_off-none Short end octets h

target_none : (at to : ℕ) (octets : List ℕ) → at + 2 ≤ length octets → little_two at octets ≡ to → to ≢ 0xFFFE → target_fault at octets ≡ None
unfolding target_fault cut_off
target_none at to octets h is other = grind (arith, common_steps)

sender_none : (at from : ℕ) (octets : List ℕ) → at + 2 ≤ length octets → little_two at octets ≡ from → IsAddress from → sender_fault at octets ≡ None
unfolding sender_fault cut_off
sender_none at from octets h is low = grind (arith, common_steps)

level_none : (at : ℕ) (octets : List ℕ) → at + 1 ≤ length octets → octet at octets ≡ 0x0D → level_fault at octets ≡ None
unfolding level_fault cut_off
level_none at octets h is = grind (arith, common_steps)

index_none : (at index : ℕ) (octets : List ℕ) → at + 1 ≤ length octets → octet at octets ≡ index → index ≤ 1 → index_fault at octets ≡ None
unfolding index_fault cut_off
index_none at index octets h is low = grind (arith, common_steps)

low_none : (x : ℕ) (octets : List ℕ) → 1 ≤ length octets → octet 0 octets ≡ x → type_fault x ≡ None → low_fault octets ≡ None
unfolding low_fault
low_none x octets h is none = rw (short_none 1 octets h) (ap type_fault is ∙ none)

high_none : (sealed : Bool) (x : ℕ) (octets : List ℕ) → 2 ≤ length octets → is_sealed octets ≡ sealed → octet 1 octets ≡ x → version_fault sealed x ≡ None
    → high_fault octets ≡ None
unfolding high_fault
high_none sealed x octets h kind is none =
    rw (short_none 2 octets h) (ap (λ (s : Bool). version_fault s (octet 1 octets)) kind ∙ ap (version_fault sealed) is ∙ none)

-- the controls that frames have
types : (sealed ack : Bool) → type_fault (low_control sealed ack) ≡ None
types true true = refl
types true false = refl
types false true = refl
types false false = refl

sealed_bit : (ack : Bool) (octets : List ℕ) → octet 0 octets ≡ low_control true ack → is_sealed octets ≡ true
sealed_bit true octets is = rw is refl
sealed_bit false octets is = rw is refl

plain_bit : (ack : Bool) (octets : List ℕ) → octet 0 octets ≡ low_control false ack → is_sealed octets ≡ false
plain_bit true octets is = rw is refl
plain_bit false octets is = rw is refl

versions_up : (version : ℕ) → version ≤ 1 → (version_fault false (high_control 2 version 3) ≡ None) × (has_modes 2 3 (high_control 2 version 3) ≡ true)
versions_up zero h = (refl, refl)
versions_up (suc zero) h = (refl, refl)
versions_up (suc (suc n)) h = absurd (omega arith)

versions_down : (version : ℕ) → version ≤ 1 → (version_fault false (high_control 3 version 2) ≡ None) × (has_modes 2 3 (high_control 3 version 2) ≡ false)
versions_down zero h = (refl, refl)
versions_down (suc zero) h = (refl, refl)
versions_down (suc (suc n)) h = absurd (omega arith)

sealed_none : (ack : Bool) (seq pan to from counter index : ℕ) (body : List ℕ) → IsHead (Sealed ack seq pan to from counter index) → 4 ≤ length body
    → fields_fault (header_then (Sealed ack seq pan to from counter index) body) ≡ None
unfolding fields_fault sealed_fault octet
sealed_none ack seq pan to from counter index body h some =
    let octets : List ℕ = header_then (Sealed ack seq pan to from counter index) body in
    let len : 19 ≤ length octets = omega arith in
    let low : List ℕ = low_control true ack ∷ high_control 2 1 2 ∷ seq ∷ little_bytes 2 pan in
    let kind : is_sealed octets ≡ true = sealed_bit ack octets refl in
    let f1 : low_fault octets ≡ None = low_none (low_control true ack) octets (omega arith) refl (types true ack) in
    let f2 : high_fault octets ≡ None = high_none true 152 octets (omega arith) kind refl refl in
    let f3 : cut_off Short 3 octets ≡ None = short_none 3 octets (omega arith) in
    let f4 : cut_off Short 5 octets ≡ None = short_none 5 octets (omega arith) in
    let f5 : target_fault 5 octets ≡ None =
    target_none 5 to octets (omega arith) (little_two_behind low to _ (omega (arith, h.2.0))) h.2.1 in
    let f6 : sender_fault 7 octets ≡ None =
    sender_none 7 from octets (omega arith) (little_two_behind (low ++ little_bytes 2 to) from _ (omega (arith, h.3))) h.3 in
    let f7 : level_fault 9 octets ≡ None = level_none 9 octets (omega arith) refl in
    let f8 : cut_off Short 14 octets ≡ None = short_none 14 octets (omega arith) in
    let f9 : index_fault 14 octets ≡ None = index_none 14 index octets (omega arith) refl h.5 in
    let f10 : cut_off Short 19 octets ≡ None = short_none 19 octets len in
    rw (f1, f2, f3, f4, kind, f5, f6, f7, f8, f9, f10) refl

up_none : (ack : Bool) (version seq pan to : ℕ) (from : Eui) (body : List ℕ) → IsHead (Up ack version seq pan to from)
    → fields_fault (header_then (Up ack version seq pan to from) body) ≡ None
unfolding fields_fault up_fault octet
up_none ack version seq pan to from body h =
    let octets : List ℕ = header_then (Up ack version seq pan to from) body in
    let len : 15 ≤ length octets = omega (arith, length-append (reverse from.0) body, length-reverse from.0, h.4.0) in
    let low : List ℕ = low_control false ack ∷ high_control 2 version 3 ∷ seq ∷ little_bytes 2 pan in
    let kind : is_sealed octets ≡ false = plain_bit ack octets refl in
    let v = versions_up version h.0 in
    let f1 : low_fault octets ≡ None = low_none (low_control false ack) octets (omega arith) refl (types false ack) in
    let f2 : high_fault octets ≡ None = high_none false (high_control 2 version 3) octets (omega arith) kind refl v.0 in
    let f3 : cut_off Short 3 octets ≡ None = short_none 3 octets (omega arith) in
    let f4 : cut_off Short 5 octets ≡ None = short_none 5 octets (omega arith) in
    let up : has_modes 2 3 (octet 1 octets) ≡ true = v.1 in
    let f5 : target_fault 5 octets ≡ None =
    target_none 5 to octets (omega arith) (little_two_behind low to _ (omega (arith, h.3.0))) h.3.1 in
    let f6 : cut_off Short 15 octets ≡ None = short_none 15 octets len in
    rw (f1, f2, f3, f4, kind, up, f5, f6) refl

down_none : (ack : Bool) (version seq pan : ℕ) (to : Eui) (from : ℕ) (body : List ℕ) → IsHead (Down ack version seq pan to from)
    → fields_fault (header_then (Down ack version seq pan to from) body) ≡ None
unfolding fields_fault down_fault octet
down_none ack version seq pan to from body h =
    let octets : List ℕ = header_then (Down ack version seq pan to from) body in
    let len : 15 ≤ length octets =
    omega (arith, length-append (reverse to.0) (little_bytes 2 from ++ body), length-reverse to.0, h.3.0) in
    let low : List ℕ = low_control false ack ∷ high_control 3 version 2 ∷ seq ∷ little_bytes 2 pan ++ reverse to.0 in
    let thirteen : length low ≡ 13 = omega (arith, length-reverse to.0, h.3.0) in
    let kind : is_sealed octets ≡ false = plain_bit ack octets refl in
    let v = versions_down version h.0 in
    let f1 : low_fault octets ≡ None = low_none (low_control false ack) octets (omega arith) refl (types false ack) in
    let f2 : high_fault octets ≡ None = high_none false (high_control 3 version 2) octets (omega arith) kind refl v.0 in
    let f3 : cut_off Short 3 octets ≡ None = short_none 3 octets (omega arith) in
    let f4 : cut_off Short 5 octets ≡ None = short_none 5 octets (omega arith) in
    let down : has_modes 2 3 (octet 1 octets) ≡ false = v.1 in
    let f5 : cut_off Short 13 octets ≡ None = short_none 13 octets (omega arith) in
    let there : little_two 13 octets ≡ from =
    ap (λ (at : ℕ). little_two at octets) (sym thirteen) ∙ little_two_behind low from body (omega (arith, h.4)) in
    let f6 : sender_fault 13 octets ≡ None = sender_none 13 from octets (omega arith) there h.4 in
    rw (f1, f2, f3, f4, kind, down, f5, f6) refl

fields_none : (head : MacHead) (body : List ℕ) → IsHead head → IsBody head body → fields_fault (header_then head body) ≡ None
fields_none (Sealed ack seq pan to from counter index) body h some = sealed_none ack seq pan to from counter index body h some
fields_none (Up ack version seq pan to from) body h some = up_none ack version seq pan to from body h
fields_none (Down ack version seq pan to from) body h some = down_none ack version seq pan to from body h

pub no_fault : (head : MacHead) (body octets : List ℕ) → Frame head body octets → frame_fault octets ≡ None
no_fault head body octets frame =
    let none : fields_fault octets ≡ None = ap fields_fault frame.spelled ∙ fields_none head body frame.fields frame.rest in
    let size : length octets ≤ 400 = frame.size in
    rw none (grind (arith, common_steps))
