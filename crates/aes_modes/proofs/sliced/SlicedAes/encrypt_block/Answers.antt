use Rattle.aes_modes.proofs.sliced.SlicedAes.encrypt_block.Goals as goal

pub returns : goal.returns
returns c = c.encrypt_two.ensures.first
