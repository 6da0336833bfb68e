use Rattle.story_laws.proofs.DoneRuns.{joinings_are_done}
use Rattle.story_laws.proofs.laws.joinings_are_done.Goals as goal

pub returns : goal.returns
returns c = joinings_are_done
