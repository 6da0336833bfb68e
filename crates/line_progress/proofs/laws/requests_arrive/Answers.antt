-- The law, by induction on the nodes of the way.
use Rattle.line_progress.proofs.RequestRoutes.{requests_do}
use Rattle.line_progress.proofs.laws.requests_arrive.Goals as goal

pub returns : goal.returns
returns c = requests_do
