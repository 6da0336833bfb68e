use Rattle.std.proofs.Common.{◌≡◌, ℕ, List, [], ◌++◌, refl, sym, ◌∙◌}
use Rattle.byteorder.specs.Endian.{big_bytes}
use Rattle.aes_modes.specs.Eax.{eax_text, eax_tag}
use Rattle.aes_modes.specs.KeyStream.{masked}
use Rattle.line_replay.specs.VectorsText.{eax0}
use Rattle.line_replay.proofs.vectors.eax0.Goals as goal

-- no text has no encrypted text
none : (key nonce : List ℕ) → eax_text key nonce [] ≡ []
unfolding eax_text masked
none key nonce = refl

pub returns : goal.returns
unfolding eax0
returns c =
    let key = big_bytes 16 0x233952dee4d5ed5f9b9c6d6ff80ff478 in
    let nonce = big_bytes 16 0x62ec67f9c3a4a407fcb2a8c49031a8b3 in
    let header = big_bytes 8 0x6bfb914fd07eae6b in
    c.eax_seal.ensures.tag
    ∙ (λ i. eax_tag (c.new-aes.ensures i) nonce header ((c.eax_seal.ensures.text ∙ (λ j. eax_text (c.new-aes.ensures j) nonce [])) i))
    ∙ sym (λ i. none key nonce i ++ eax_tag key nonce header (eax_text key nonce []))
