use Rattle.story_laws.proofs.DoneRuns.{walks_are_done}
use Rattle.story_laws.proofs.laws.walks_are_done.Goals as goal

pub returns : goal.returns
returns c = walks_are_done
