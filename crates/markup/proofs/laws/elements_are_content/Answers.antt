use Rattle.markup.proofs.Contents.{elements_are_content}
use Rattle.markup.proofs.laws.elements_are_content.Goals as goal

pub returns : goal.returns
returns c = elements_are_content
