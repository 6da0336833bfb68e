use Rattle.markup.proofs.Contents.{leaves_are_content}
use Rattle.markup.proofs.laws.leaves_are_content.Goals as goal

pub returns : goal.returns
returns c = leaves_are_content
