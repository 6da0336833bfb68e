use Rattle.markup.proofs.Contents.{raw_elements_are_content}
use Rattle.markup.proofs.laws.raw_elements_are_content.Goals as goal

pub returns : goal.returns
returns c = raw_elements_are_content
