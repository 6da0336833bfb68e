use Rattle.pcapng.proofs.Lengths.{captures_aligned}
use Rattle.pcapng.proofs.laws.captures_are_aligned.Goals as goal

pub returns : goal.returns
returns c = captures_aligned
