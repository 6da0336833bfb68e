-- A spelling is of one frame.
use Rattle.std.proofs.Common.{◌≡◌, ℕ, ◌/◌, ◌%◌, ◌^◌, ◌<◌, Bool, true, false, List, ◌∷◌, ◌++◌, length, take, drop, reverse, Some, None, Result, Ok, Err, refl}
use Rattle.std.proofs.Common.{sym, ap, ◌∙◌, arith}
use Rattle.std.specs.Prelude.{IfOk, IsOkAnd, MatchResult}
use Rattle.std.proofs.Math.Seq.{take-append_seam, drop-append_seam}
use Rattle.std.proofs.lemmas.Bool.{true≢false}
use Rattle.std.proofs.lemmas.List.{length-reverse, reverse-reverse}
use Rattle.byteorder.specs.Endian.{little_bytes}
use Rattle.plc_base.proofs.Places.{two_same}
use Rattle.plc_base.specs.declared.address.Eui.{Eui}
use Rattle.plc_base.specs.declared.fields.Fault.{Fault}
use Rattle.mac_frames.specs.declared.fault.FrameFaultKind.{FrameFaultKind}
use Rattle.mac_frames.specs.declared.reading.RawFrame.{RawFrame}
use Rattle.mac_frames.specs.declared.head.MacHead.{MacHead}
use Rattle.mac_frames.specs.declared.head.MacHead.TheVariants.{Sealed, Up, Down}
use Rattle.mac_frames.specs.Faults.{frame_fault}
use Rattle.mac_frames.proofs.NoFault.{no_fault}
use Rattle.mac_frames.specs.Grammar.{Frame, IsHead, IsEui, header_then, low_control}

four_same : (x y : ℕ) → x < 2 ^ 32 → y < 2 ^ 32 → x % 256 ≡ y % 256 → x / 256 % 256 ≡ y / 256 % 256
    → x / 65536 % 256 ≡ y / 65536 % 256 → x / 16777216 % 256 ≡ y / 16777216 % 256 → x ≡ y
four_same x y hx hy a b c d = omega arith

low_same : (s a t b : Bool) → low_control s a ≡ low_control t b → (s ≡ t) × (a ≡ b)
low_same true true true true e = (refl, refl)
low_same true true true false e = absurd (omega arith)
low_same true true false true e = absurd (omega arith)
low_same true true false false e = absurd (omega arith)
low_same true false true true e = absurd (omega arith)
low_same true false true false e = (refl, refl)
low_same true false false true e = absurd (omega arith)
low_same true false false false e = absurd (omega arith)
low_same false true true true e = absurd (omega arith)
low_same false true true false e = absurd (omega arith)
low_same false true false true e = (refl, refl)
low_same false true false false e = absurd (omega arith)
low_same false false true true e = absurd (omega arith)
low_same false false true false e = absurd (omega arith)
low_same false false false true e = absurd (omega arith)
low_same false false false false e = (refl, refl)

eui_of : List ℕ → Eui
eui_of octets = record { 0 = octets }

eui_eq : (a b : Eui) → a.0 ≡ b.0 → a ≡ b
unfolding eui_of
eui_eq a b e = ap eui_of e

-- two EUIs that stand least first, before what follows them
euis_same : (a b : Eui) (x y : List ℕ) → IsEui a → IsEui b → reverse a.0 ++ x ≡ reverse b.0 ++ y → (a ≡ b) × (x ≡ y)
euis_same a b x y ha hb e =
    let la : length (reverse a.0) ≡ 8 = omega (arith, length-reverse a.0, ha.0) in
    let lb : length (reverse b.0) ≡ 8 = omega (arith, length-reverse b.0, hb.0) in
    let fronts : reverse a.0 ≡ reverse b.0 =
    sym (take-append_seam (reverse a.0) x) ∙ (λ i. take ((la ∙ sym lb) i) (e i)) ∙ take-append_seam (reverse b.0) y in
    let rests : x ≡ y =
    sym (drop-append_seam (reverse a.0) x) ∙ (λ i. drop ((la ∙ sym lb) i) (e i)) ∙ drop-append_seam (reverse b.0) y in
    (eui_eq a b (sym (reverse-reverse a.0) ∙ ap reverse fronts ∙ reverse-reverse b.0), rests)

-- the five octets that each header begins with
record Begins (l h s p q l' h' s' p' q' : ℕ) (xs ys : List ℕ) : Type 0 where
  low : l ≡ l'
  high : h ≡ h'
  seq : s ≡ s'
  pan_low : p ≡ p'
  pan_high : q ≡ q'
  rest : xs ≡ ys

begins : (l h s p q l' h' s' p' q' : ℕ) (rest rest' : List ℕ)
    → l ∷ h ∷ s ∷ p ∷ q ∷ rest ≡ l' ∷ h' ∷ s' ∷ p' ∷ q' ∷ rest' → Begins l h s p q l' h' s' p' q' rest rest'
begins l h s p q l' h' s' p' q' rest rest' e =
    record { low = cc; high = cc; seq = cc; pan_low = cc; pan_high = cc; rest = cc }

two_then : (x y : ℕ) (xs ys : List ℕ) → x < 65536 → y < 65536 → little_bytes 2 x ++ xs ≡ little_bytes 2 y ++ ys → (x ≡ y) × (xs ≡ ys)
two_then x y xs ys hx hy e =
    let high : x / 256 % 256 ≡ y / 256 % 256 = cc in
    let low : x % 256 ≡ y % 256 = cc in
    let rests : xs ≡ ys = cc in
    (two_same x y hx hy high low, rests)

one_head : (a b : MacHead) (x y : List ℕ) → IsHead a → IsHead b → header_then a x ≡ header_then b y → (a ≡ b) × (x ≡ y)
one_head (Sealed ack seq pan to from counter index) (Sealed ack' seq' pan' to' from' counter' index') x y ha hb e =
    let head = begins _ _ _ _ _ _ _ _ _ _ _ _ e in
    let controls = low_same true ack true ack' head.low in
    let es : seq ≡ seq' = head.seq in
    let ep = two_same pan pan' ha.1 hb.1 head.pan_high head.pan_low in
    let et = two_then to to' _ _ ha.2.0 hb.2.0 head.rest in
    let ef = two_then from from' _ _ (omega (arith, ha.3)) (omega (arith, hb.3)) et.1 in
    let tails : 0x0D ∷ little_bytes 4 counter ++ (index ∷ x) ≡ 0x0D ∷ little_bytes 4 counter' ++ (index' ∷ y) = ef.1 in
    let c0 : counter % 256 ≡ counter' % 256 = cc in
    let c1 : counter / 256 % 256 ≡ counter' / 256 % 256 = cc in
    let c2 : counter / 65536 % 256 ≡ counter' / 65536 % 256 = cc in
    let c3 : counter / 16777216 % 256 ≡ counter' / 16777216 % 256 = cc in
    let ec = four_same counter counter' ha.4 hb.4 c0 c1 c2 c3 in
    let ei : index ≡ index' = cc in
    let ex : x ≡ y = cc in
    (λ i. Sealed (controls.1 i) (es i) (ep i) (et.0 i) (ef.0 i) (ec i) (ei i), ex)
one_head (Up ack version seq pan to from) (Up ack' version' seq' pan' to' from') x y ha hb e =
    let head = begins _ _ _ _ _ _ _ _ _ _ _ _ e in
    let controls = low_same false ack false ack' head.low in
    let ev : version ≡ version' = omega (arith, head.high) in
    let es : seq ≡ seq' = head.seq in
    let ep = two_same pan pan' ha.2 hb.2 head.pan_high head.pan_low in
    let et = two_then to to' _ _ ha.3.0 hb.3.0 head.rest in
    let ef = euis_same from from' x y ha.4 hb.4 et.1 in
    (λ i. Up (controls.1 i) (ev i) (es i) (ep i) (et.0 i) (ef.0 i), ef.1)
one_head (Down ack version seq pan to from) (Down ack' version' seq' pan' to' from') x y ha hb e =
    let head = begins _ _ _ _ _ _ _ _ _ _ _ _ e in
    let controls = low_same false ack false ack' head.low in
    let ev : version ≡ version' = omega (arith, head.high) in
    let es : seq ≡ seq' = head.seq in
    let ep = two_same pan pan' ha.2 hb.2 head.pan_high head.pan_low in
    let et = euis_same to to' _ _ ha.3 hb.3 head.rest in
    let ef = two_then from from' x y (omega (arith, ha.4)) (omega (arith, hb.4)) et.1 in
    (λ i. Down (controls.1 i) (ev i) (es i) (ep i) (et.0 i) (ef.0 i), ef.1)
one_head (Sealed ack seq pan to from counter index) (Up ack' version' seq' pan' to' from') x y ha hb e =
    let head = begins _ _ _ _ _ _ _ _ _ _ _ _ e in
    absurd (true≢false (low_same true ack false ack' head.low).0)
one_head (Sealed ack seq pan to from counter index) (Down ack' version' seq' pan' to' from') x y ha hb e =
    let head = begins _ _ _ _ _ _ _ _ _ _ _ _ e in
    absurd (true≢false (low_same true ack false ack' head.low).0)
one_head (Up ack version seq pan to from) (Sealed ack' seq' pan' to' from' counter' index') x y ha hb e =
    let head = begins _ _ _ _ _ _ _ _ _ _ _ _ e in
    absurd (true≢false (sym (low_same false ack true ack' head.low).0))
one_head (Down ack version seq pan to from) (Sealed ack' seq' pan' to' from' counter' index') x y ha hb e =
    let head = begins _ _ _ _ _ _ _ _ _ _ _ _ e in
    absurd (true≢false (sym (low_same false ack true ack' head.low).0))
one_head (Up ack version seq pan to from) (Down ack' version' seq' pan' to' from') x y ha hb e =
    let head = begins _ _ _ _ _ _ _ _ _ _ _ _ e in
    absurd (omega (arith, head.high, ha.0, hb.0))
one_head (Down ack version seq pan to from) (Up ack' version' seq' pan' to' from') x y ha hb e =
    let head = begins _ _ _ _ _ _ _ _ _ _ _ _ e in
    absurd (omega (arith, head.high, ha.0, hb.0))

pub one_value : (a b : MacHead) (x y octets : List ℕ) → Frame a x octets → Frame b y octets → (a ≡ b) × (x ≡ y)
one_value a b x y octets left right =
    one_head a b x y left.fields right.fields (sym left.spelled ∙ right.spelled)

pub only_read : (octets : List ℕ) (r : Result RawFrame (Fault FrameFaultKind)) → IfOk r (λ raw. Frame raw.head raw.body.now octets)
    → MatchResult r (λ raw. frame_fault octets ≡ None) (λ e. frame_fault octets ≡ Some e)
    → (head : MacHead) (body : List ℕ) → Frame head body octets → IsOkAnd r (λ raw. (raw.head ≡ head) × (raw.body.now ≡ body))
only_read octets (Ok raw) found exact head body frame = one_value raw.head head raw.body.now body octets found frame
only_read octets (Err e) found exact head body frame = let none = no_fault head body octets frame in absurd cc
