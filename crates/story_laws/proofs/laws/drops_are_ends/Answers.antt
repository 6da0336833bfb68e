use Rattle.story_laws.proofs.Drops.{drops_are_ends}
use Rattle.story_laws.proofs.laws.drops_are_ends.Goals as goal

pub returns : goal.returns
returns c = drops_are_ends
