use Rattle.std.proofs.Common.{ap, arith, length}
use Rattle.octet_log.specs.Logs.{Log}
use Rattle.octet_log.proofs.Ends.{length_strings}
use Rattle.octet_log.proofs.strings.Strings.len.Goals as goal

pub returns : goal.returns
returns c =
    omega (arith, c.len.ensures, length_strings c.self.inside.octets.items 0 c.self.inside.ends.items, ap (λ (l : Log). length l.strings) c.self.view_is)
