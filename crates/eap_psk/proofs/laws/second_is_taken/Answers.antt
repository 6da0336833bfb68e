use Rattle.eap_psk.proofs.PassedMessages.{second_taken}
use Rattle.eap_psk.proofs.laws.second_is_taken.Goals as goal

pub returns : goal.returns
returns c = second_taken
