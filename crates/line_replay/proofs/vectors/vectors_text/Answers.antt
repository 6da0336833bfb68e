use Rattle.std.proofs.Common.{◌++◌, length, ap, ◌∙◌, arith}
use Rattle.std.specs.Prelude.{codes}
use Rattle.line_replay.specs.VectorsText.{line, vectors_text}
use Rattle.line_replay.proofs.vectors.vectors_text.Goals as goal

pub append_line-requires-5 : goal.append_line-requires-5
append_line-requires-5 c = omega (arith, ap length c.new-text.ensures, c.octets.ensures.fits)

pub returns : goal.returns
unfolding vectors_text
returns c =
    c.append_line-5.ensures.text
    ∙ (λ i. (c.append_line-4.ensures.text
    ∙ (λ j. (c.append_line-3.ensures.text
    ∙ (λ k. (c.append_line-2.ensures.text
    ∙ (λ l. (c.append_line.ensures.text ∙ (λ m. c.new-text.ensures m ++ line (codes "aes128") (c.aes128.ensures m))) l
    ++ line (codes "cmac0") (c.cmac0.ensures l))) k
    ++ line (codes "cmac16") (c.cmac16.ensures k))) j
    ++ line (codes "eax0") (c.eax0.ensures j))) i
    ++ line (codes "ccm1") ((c.octets.ensures.value ∙ c.ccm1.ensures) i))
