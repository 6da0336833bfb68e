use Rattle.eap_psk.proofs.PassedMessages.{fourth_taken}
use Rattle.eap_psk.proofs.laws.fourth_is_taken.Goals as goal

pub returns : goal.returns
returns c = fourth_taken
