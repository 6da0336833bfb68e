use Rattle.eap_psk.proofs.Named.{tags_same}
use Rattle.eap_psk.proofs.laws.granting_tags_agree.Goals as goal

pub returns : goal.returns
returns c = tags_same
