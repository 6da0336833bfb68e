use Rattle.aes_modes.proofs.CipherOctets.{eax_octets, eax_tag_octets}
use Rattle.aes_modes.proofs.laws.eax_makes_octets.Goals as goal

pub returns-clause-text : goal.returns-clause-text
returns-clause-text c = eax_octets

pub returns-clause-tag : goal.returns-clause-tag
returns-clause-tag c = eax_tag_octets
