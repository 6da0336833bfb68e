use Rattle.story_laws.proofs.Ends.{recorded_ends_are_so}
use Rattle.story_laws.proofs.laws.recorded_ends_are_so.Goals as goal

pub returns : goal.returns
returns c = recorded_ends_are_so
