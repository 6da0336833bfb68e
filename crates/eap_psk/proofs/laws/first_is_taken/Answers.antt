use Rattle.eap_psk.proofs.Named.{first_same}
use Rattle.eap_psk.proofs.PassedMessages.{first_taken}
use Rattle.eap_psk.proofs.laws.first_is_taken.Goals as goal

pub returns-clause-taken : goal.returns-clause-taken
returns-clause-taken c = first_taken

pub returns-clause-session : goal.returns-clause-session
returns-clause-session c = first_same
