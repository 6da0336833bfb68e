use Rattle.octet_log.proofs.Lasts.{IsSought}
use Rattle.octet_log.proofs.log.OctetLog.last_from.Given as goal

abbrev pub invariant-loop-number : goal.invariant-loop-number
invariant-loop-number l = IsSought l.self.strings l.octets l.from l.number

abbrev pub decreases-loop-number : goal.decreases-loop-number
decreases-loop-number l = l.number
