use Rattle.aes_modes.proofs.CipherOctets.{ccm_octets, ccm_tag_octets}
use Rattle.aes_modes.proofs.laws.ccm_makes_octets.Goals as goal

pub returns-clause-text : goal.returns-clause-text
returns-clause-text c = ccm_octets

pub returns-clause-tag : goal.returns-clause-tag
returns-clause-tag c = ccm_tag_octets
