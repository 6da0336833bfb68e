use Rattle.story_laws.proofs.FateRuns.{fates_are_so}
use Rattle.story_laws.proofs.laws.fates_are_so.Goals as goal

pub returns : goal.returns
returns c = fates_are_so
