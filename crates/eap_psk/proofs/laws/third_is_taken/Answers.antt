use Rattle.eap_psk.proofs.Named.{third_same}
use Rattle.eap_psk.proofs.PassedMessages.{third_taken}
use Rattle.eap_psk.proofs.laws.third_is_taken.Goals as goal

pub returns-clause-taken : goal.returns-clause-taken
returns-clause-taken c = third_taken

pub returns-clause-grant : goal.returns-clause-grant
returns-clause-grant c = third_same
