use Rattle.aes_modes.proofs.CipherOctets.{encrypted_octets}
use Rattle.aes_modes.proofs.laws.blocks_are_octets.Goals as goal

pub returns : goal.returns
returns c = encrypted_octets
