use Rattle.octet_log.proofs.Lasts.{one_is_last}
use Rattle.octet_log.proofs.laws.one_is_last.Goals as goal

pub returns : goal.returns
returns c = λ strings octets m n first second. one_is_last strings octets m n first second
