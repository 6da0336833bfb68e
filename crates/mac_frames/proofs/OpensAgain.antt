-- What a key sealed under a head, the same key opens under this head.
use Rattle.std.proofs.Common.{◌≡◌, ℕ, ◌-◌, ◌+◌, true, List, ◌++◌, length, take, drop, Some, None, sym, ap, ◌∙◌, arith}
use Rattle.std.specs.Prelude.{if◌then◌else◌}
use Rattle.std.specs.Str.{bytes_eq}
use Rattle.std.proofs.Math.Seq.{take-append_seam, drop-append_seam}
use Rattle.std.proofs.lemmas.List.{length-append}
use Rattle.std.proofs.lemmas.Slice.Eq.{bytes_eq-Decides}
use Rattle.aes_modes.specs.Ccm.{ccm_text, ccm_tag}
use Rattle.aes_modes.proofs.Texts.{ccm_text-twice, length-ccm_text, length-ccm_tag}
use Rattle.mac_frames.specs.declared.head.MacHead.{MacHead}
use Rattle.mac_frames.specs.Grammar.{header}
use Rattle.mac_frames.specs.SealedFrames.{nonce_of, sealed_text, sealed_tag, payload_in, opened_in}
use Rattle.mac_frames.specs.Sent.{sealed_body}
use Rattle.mac_frames.specs.Laws.{SealedBodiesOpen, SealedBodiesAreLonger}

module _ (key : List ℕ) (head : MacHead) (payload : List ℕ) where
  text : List ℕ
  text = ccm_text key (nonce_of head) payload

  tag : List ℕ
  tag = ccm_tag 4 key (nonce_of head) (header head) payload

  body_is : sealed_body key head payload ≡ text ++ tag
  unfolding text tag
  body_is = λ i. sealed_body key head payload

  four : length tag ≡ 4
  unfolding tag
  four = length-ccm_tag 4 key (nonce_of head) (header head) payload (omega arith)

  longer : length (sealed_body key head payload) ≡ length text + 4
  longer = ap length body_is ∙ length-append text tag ∙ ap (λ n. length text + n) four

  seam : length (sealed_body key head payload) - 4 ≡ length text
  seam = let e = longer in omega arith

  text_is : sealed_text (sealed_body key head payload) ≡ text
  text_is = (λ i. take (seam i) (body_is i)) ∙ take-append_seam text tag

  tag_is : sealed_tag (sealed_body key head payload) ≡ tag
  tag_is = (λ i. drop (seam i) (body_is i)) ∙ drop-append_seam text tag

  payload_is : payload_in key head (sealed_body key head payload) ≡ payload
  unfolding payload_in text
  payload_is = ap (ccm_text key (nonce_of head)) text_is ∙ ccm_text-twice key (nonce_of head) payload

  tag_right : bytes_eq (sealed_tag (sealed_body key head payload))
      (ccm_tag 4 key (nonce_of head) (header head) (payload_in key head (sealed_body key head payload))) ≡ true
  unfolding tag
  tag_right = (bytes_eq-Decides _ _).1 (tag_is ∙ ap (ccm_tag 4 key (nonce_of head) (header head)) (sym payload_is))

  opens_again : opened_in key head (header head) (sealed_body key head payload) ≡ Some payload
  opens_again = λ i. if tag_right i then Some (payload_is i) else None

  sealed_length : length (sealed_body key head payload) ≡ length payload + 4
  unfolding text
  sealed_length = longer ∙ ap (λ n. n + 4) (length-ccm_text key (nonce_of head) payload)

pub bodies_open : SealedBodiesOpen
bodies_open = opens_again

pub bodies_longer : SealedBodiesAreLonger
bodies_longer = sealed_length
