use Rattle.eap_psk.proofs.Same.{same_from}
use Rattle.eap_psk.proofs.reading.is_code.Goals as goal

pub returns : goal.returns
returns c = same_from c.is_same.result c.args.code.now c.args.right.now c.is_same.ensures
