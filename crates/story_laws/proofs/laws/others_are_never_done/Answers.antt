use Rattle.story_laws.proofs.DoneRuns.{others_are_never_done}
use Rattle.story_laws.proofs.laws.others_are_never_done.Goals as goal

pub returns : goal.returns
returns c = others_are_never_done
