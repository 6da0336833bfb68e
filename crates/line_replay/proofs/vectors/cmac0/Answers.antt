use Rattle.std.proofs.Common.{[], ◌∙◌}
use Rattle.aes_modes.specs.Cmac.{cmac}
use Rattle.line_replay.specs.VectorsText.{cmac0}
use Rattle.line_replay.proofs.vectors.cmac0.Goals as goal

pub returns : goal.returns
unfolding cmac0
returns c = c.cmac.ensures ∙ (λ i. cmac (c.cmac_cipher.ensures i) [])
