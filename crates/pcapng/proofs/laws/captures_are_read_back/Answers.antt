use Rattle.pcapng.proofs.RoundTrip.{captures_read_back}
use Rattle.pcapng.proofs.laws.captures_are_read_back.Goals as goal

pub returns : goal.returns
returns c = captures_read_back
