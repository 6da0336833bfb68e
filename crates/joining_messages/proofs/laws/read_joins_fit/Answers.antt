use Rattle.joining_messages.proofs.JoinRanges.{read_fits}
use Rattle.joining_messages.proofs.laws.read_joins_fit.Goals as goal

pub returns : goal.returns
returns c = read_fits
