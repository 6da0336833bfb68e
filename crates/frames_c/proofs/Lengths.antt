-- A sealed frame is 19 octets longer than its payload.
use Rattle.std.proofs.Common.{◌≡◌, ℕ, ◌+◌, false, List, ◌++◌, length, take, Result, Ok, Err, OnOk, ap, ◌∙◌, subst, arith}
use Rattle.std.proofs.Math.Seq.{take-append_seam}
use Rattle.std.specs.Result.{is_err}
use Rattle.std.proofs.lemmas.List.{length-append}
use Rattle.aes_modes.specs.Ccm.{ccm_tag, ccm_text}
use Rattle.aes_modes.proofs.Texts.{length-ccm_text, length-ccm_tag}
use Rattle.mac_frames.specs.declared.head.MacHead.{MacHead}
use Rattle.mac_frames.specs.Grammar.{header}
use Rattle.mac_frames.specs.SealedFrames.{SealedFrame, nonce_of}
use Rattle.mac_frames.proofs.Headers.{header_then-append, length-header}

pub sealed_length : (head : MacHead) (key payload octets : List ℕ) → SealedFrame head key payload octets → length octets ≡ length payload + 19
sealed_length head key payload octets s =
    let text : List ℕ = ccm_text key (nonce_of head) payload in
    let tag : List ℕ = ccm_tag 4 key (nonce_of head) (header head) payload in
    omega (
      arith,
      ap length (s.frame.spelled ∙ header_then-append head (text ++ tag)),
      length-append (header head) (text ++ tag),
      length-header head s.frame.fields,
      length-append text tag,
      length-ccm_text key (nonce_of head) payload,
      length-ccm_tag 4 key (nonce_of head) (header head) payload (omega arith),
    )

-- what stands at the start of a buffer into which it was copied
pub front : (n : ℕ) (xs rest : List ℕ) → n ≡ length xs → take n (xs ++ rest) ≡ xs
front n xs rest long = ap (λ (k : ℕ). take k (xs ++ rest)) long ∙ take-append_seam xs rest

-- the same frame of a head and a key that are equal
pub same_frame : (a b : MacHead) (k l payload octets : List ℕ) → a ≡ b → k ≡ l → SealedFrame a k payload octets → SealedFrame b l payload octets
same_frame a b k l payload octets heads keys s =
    subst (λ (key : List ℕ). SealedFrame b key payload octets) keys (subst (λ (head : MacHead). SealedFrame head k payload octets) heads s)

-- what holds of an answer that is no error
pub when_ok : {V E P : Type 0} (r : Result V E) → is_err r ≡ false → OnOk r P → P
when_ok (Ok v) fine p = p
when_ok (Err e) fine p = absurd (cc)
