use Rattle.story_laws.proofs.FateRuns.{hearings_are_so}
use Rattle.story_laws.proofs.laws.hearings_are_so.Goals as goal

pub returns : goal.returns
returns c = hearings_are_so
