use Rattle.std.proofs.Common.{◌∙◌}
use Rattle.byteorder.specs.Endian.{big_bytes}
use Rattle.aes_modes.specs.Cmac.{cmac}
use Rattle.line_replay.specs.VectorsText.{cmac16}
use Rattle.line_replay.proofs.vectors.cmac16.Goals as goal

pub returns : goal.returns
unfolding cmac16
returns c = c.cmac.ensures ∙ (λ i. cmac (c.cmac_cipher.ensures i) (big_bytes 16 0x6bc1bee22e409f96e93d7e117393172a))
