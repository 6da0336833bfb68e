use Rattle.story_laws.proofs.KeptRuns.{runs_keep_it}
use Rattle.story_laws.proofs.laws.runs_keep_it.Goals as goal

pub returns : goal.returns
returns c = runs_keep_it
