use Rattle.story_laws.proofs.DoneRuns.{orders_are_done}
use Rattle.story_laws.proofs.laws.orders_are_done.Goals as goal

pub returns : goal.returns
returns c = orders_are_done
