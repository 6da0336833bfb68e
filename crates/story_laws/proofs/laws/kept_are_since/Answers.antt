use Rattle.story_laws.proofs.Keepings.{kept_are_since}
use Rattle.story_laws.proofs.laws.kept_are_since.Goals as goal

pub returns : goal.returns
returns c = kept_are_since
