-- The law, by what became of the first writes.
use Rattle.line_laws.proofs.SplitWrites.{plans_split}
use Rattle.line_laws.proofs.event_laws.plans_split.Goals as goal

pub returns : goal.returns
returns g c = plans_split
