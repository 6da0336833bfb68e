use Rattle.std.proofs.Common.{◌∙◌}
use Rattle.byteorder.specs.Endian.{big_bytes}
use Rattle.aes_modes.specs.Cipher.{encrypted}
use Rattle.line_replay.specs.VectorsText.{aes128}
use Rattle.line_replay.proofs.vectors.aes128.Goals as goal

pub returns : goal.returns
unfolding aes128
returns c = c.encrypt_block.ensures ∙ (λ i. encrypted (c.new-aes.ensures i) (big_bytes 16 0x00112233445566778899aabbccddeeff))
