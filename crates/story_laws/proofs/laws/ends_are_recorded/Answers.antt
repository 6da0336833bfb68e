use Rattle.story_laws.proofs.Ends.{ends_are_recorded}
use Rattle.story_laws.proofs.laws.ends_are_recorded.Goals as goal

pub returns : goal.returns
returns c = ends_are_recorded
