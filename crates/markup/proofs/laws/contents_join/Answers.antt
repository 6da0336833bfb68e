use Rattle.markup.proofs.Contents.{contents_join}
use Rattle.markup.proofs.laws.contents_join.Goals as goal

pub returns : goal.returns
returns c = contents_join
