use Rattle.run_maps.proofs.LinkLaws.{links_hold}
use Rattle.run_maps.proofs.laws.links_hold.Goals as goal

pub returns : goal.returns
returns c = links_hold
