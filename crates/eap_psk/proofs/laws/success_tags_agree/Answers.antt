use Rattle.eap_psk.proofs.Named.{successes_same}
use Rattle.eap_psk.proofs.laws.success_tags_agree.Goals as goal

pub returns : goal.returns
returns c = successes_same
