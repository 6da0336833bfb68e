-- A sealed body is an encrypted payload and a tag, in one way.
use Rattle.std.proofs.Common.{Result, Ok, Err, ◌≡◌, ℕ, ◌≤◌, List, ◌++◌, length, take, drop, subst, refl, sym, ap, ◌∙◌, arith}
use Rattle.std.specs.Prelude.{IsOk, OnOk, MatchResult, Some, None, true, false}
use Rattle.std.specs.Str.{bytes_eq}
use Rattle.std.specs.Cmp.Lexicographic.{bytes_decides}
use Rattle.std.proofs.lemmas.Bool.{false_from_ne_true}
use Rattle.aes_modes.proofs.Opened.{at_ok}
use Rattle.std.proofs.Math.Seq.{take-append_seam, drop-append_seam}
use Rattle.std.proofs.lemmas.List.{length-append}
use Rattle.aes_modes.specs.Ccm.{ccm_text, ccm_tag}
use Rattle.aes_modes.proofs.Texts.{ccm_text-twice, length-ccm_tag}
use Rattle.mac_frames.specs.declared.head.MacHead.{MacHead}
use Rattle.mac_frames.specs.declared.head.MacHead.TheVariants.{Sealed, Up, Down}
use Rattle.mac_frames.specs.Grammar.{Frame, IsBody, IsSealed, header}
use Rattle.mac_frames.specs.SealedFrames.{SealedFrame, HasTag, nonce_of, opened_in, payload_in, sealed_tag}
use Rattle.mac_frames.proofs.Headers.{header_then-append}
use Rattle.mac_frames.proofs.Values.{one_value}

-- two parts whose last have one length
parts_same : (a b c d : List ℕ) → a ++ b ≡ c ++ d → length b ≡ length d → (a ≡ c) × (b ≡ d)
parts_same a b c d e len =
    let fronts : length a ≡ length c = omega (arith, ap length e, length-append a b, length-append c d) in (
      sym (take-append_seam a b) ∙ (λ i. take (fronts i) (e i)) ∙ take-append_seam c d,
      sym (drop-append_seam a b) ∙ (λ i. drop (fronts i) (e i)) ∙ drop-append_seam c d,
    )

-- the header of a frame whose body is known
pub frame_header : (head : MacHead) (front body : List ℕ) → Frame head body (front ++ body) → front ≡ header head
frame_header head front body frame =
    (parts_same front body (header head) body (frame.spelled ∙ header_then-append head body) refl).0

-- what the tag of a text under a key says
pub opens : (head : MacHead) (key front body text tag payload : List ℕ) → IsSealed head → Frame head body (front ++ body)
    → body ≡ text ++ tag → payload ≡ ccm_text key (nonce_of head) text → tag ≡ ccm_tag 4 key (nonce_of head) front payload
    → SealedFrame head key payload (front ++ body)
opens head key front body text tag payload sealed frame parts ep et =
    let n : List ℕ = nonce_of head in
    let same : text ≡ ccm_text key n payload = sym (ap (ccm_text key n) ep ∙ ccm_text-twice key n text) in
    let tags : tag ≡ ccm_tag 4 key n (header head) payload =
    et ∙ ap (λ (h : List ℕ). ccm_tag 4 key n h payload) (frame_header head front body frame) in
    let bodies : body ≡ ccm_text key n payload ++ ccm_tag 4 key n (header head) payload = parts ∙ (λ i. same i ++ tags i) in
    record { sealed = sealed; frame = subst (λ (b : List ℕ). Frame head b (front ++ body)) bodies frame }

-- only what was sealed opens
pub opened : (head : MacHead) (key front body text tag payload : List ℕ) → Frame head body (front ++ body)
    → body ≡ text ++ tag → length tag ≡ 4 → SealedFrame head key payload (front ++ body)
    → (payload ≡ ccm_text key (nonce_of head) text) × (tag ≡ ccm_tag 4 key (nonce_of head) front payload)
opened head key front body text tag payload frame parts four sealed =
    let n : List ℕ = nonce_of head in
    let mac : List ℕ = ccm_tag 4 key n (header head) payload in
    let len : length mac ≡ 4 = length-ccm_tag 4 key n (header head) payload (omega arith) in
    let bodies : body ≡ ccm_text key n payload ++ mac = (one_value head head body _ (front ++ body) frame sealed.frame).1 in
    let same = parts_same text tag (ccm_text key n payload) mac (sym parts ∙ bodies) (omega arith) in (
      sym (ap (ccm_text key n) same.0 ∙ ccm_text-twice key n payload),
      same.1 ∙ ap (λ (h : List ℕ). ccm_tag 4 key n h payload) (sym (frame_header head front body frame)),
    )

-- the two directions, at the result of opening
pub opens_so : {E : Type 0} (r : Result (Unit {0}) E) (head : MacHead) (key n front body text tag out : List ℕ) → IsSealed head
    → Frame head body (front ++ body) → body ≡ text ++ tag → n ≡ nonce_of head
    → (IsOk r → tag ≡ ccm_tag 4 key n front (ccm_text key n text)) → OnOk r (out ≡ ccm_text key n text)
    → OnOk r (SealedFrame head key out (front ++ body))
opens_so (Ok u) head key n front body text tag out sealed frame parts en opening is =
    opens head key front body text tag out sealed frame parts (is ∙ ap (λ (m : List ℕ). ccm_text key m text) en)
    (opening refl ∙ (λ i. ccm_tag 4 key (en i) front (sym is i)))
opens_so (Err e) head key n front body text tag out sealed frame parts en opening is = tt

pub opens_only : {E : Type 0} (r : Result (Unit {0}) E) (head : MacHead) (key n front body text tag out payload : List ℕ)
    → Frame head body (front ++ body) → body ≡ text ++ tag → length tag ≡ 4 → n ≡ nonce_of head
    → (tag ≡ ccm_tag 4 key n front (ccm_text key n text) → IsOk r) → OnOk r (out ≡ ccm_text key n text)
    → SealedFrame head key payload (front ++ body) → IsOk r × (out ≡ payload)
opens_only r head key n front body text tag out payload frame parts four en opening is sealed =
    let both = opened head key front body text tag payload frame parts four sealed in
    let plain : ccm_text key n text ≡ payload = ap (λ (m : List ℕ). ccm_text key m text) en ∙ sym both.0 in
    let ok : IsOk r = opening (both.1 ∙ (λ i. ccm_tag 4 key (sym en i) front (sym plain i))) in
    (ok, at_ok r ok is ∙ plain)

pub tag_fits : (head : MacHead) (body : List ℕ) → IsSealed head → IsBody head body → 4 ≤ length body
tag_fits (Sealed ack seq pan to from counter index) body sealed rest = rest
tag_fits (Up ack version seq pan to from) body sealed rest = absurd sealed
tag_fits (Down ack version seq pan to from) body sealed rest = absurd sealed

-- the two of them, as what the key opens
pub opens_exactly : {E : Type 0} (r : Result (Unit {0}) E) (key : List ℕ) (head : MacHead) (front body out : List ℕ)
    → (IsOk r → HasTag key head front body) → (HasTag key head front body → IsOk r) → OnOk r (out ≡ payload_in key head body)
    → MatchResult r (λ _. opened_in key head front body ≡ Some out) (λ _. opened_in key head front body ≡ None)
unfolding HasTag
opens_exactly (Ok u) key head front body out tag right is =
    let same : bytes_eq (sealed_tag body) (ccm_tag 4 key (nonce_of head) front (payload_in key head body))
    ≡ true = (bytes_decides (sealed_tag body) (ccm_tag 4 key (nonce_of head) front (payload_in key head body))).1 (tag refl) in
    rw same (ap Some (sym is))
opens_exactly (Err e) key head front body out tag right is =
    let other : bytes_eq (sealed_tag body) (ccm_tag 4 key (nonce_of head) front (payload_in key head body)) ≡ false =
    false_from_ne_true _ (λ same. absurd
    (cc (right ((bytes_decides (sealed_tag body) (ccm_tag 4 key (nonce_of head) front (payload_in key head body))).0 same)))) in
    rw other refl

pub fits_tag : (head : MacHead) (body : List ℕ) → IsSealed head → 4 ≤ length body → IsBody head body
fits_tag (Sealed ack seq pan to from counter index) body sealed rest = rest
fits_tag (Up ack version seq pan to from) body sealed rest = tt
fits_tag (Down ack version seq pan to from) body sealed rest = tt
