use Rattle.aes_modes.proofs.CipherOctets.{cmac_octets}
use Rattle.aes_modes.proofs.laws.cmacs_are_octets.Goals as goal

pub returns : goal.returns
returns c = cmac_octets
