use Rattle.story_laws.proofs.Waits.{waits_are_kept}
use Rattle.story_laws.proofs.laws.waits_are_kept.Goals as goal

pub returns : goal.returns
returns c = waits_are_kept
