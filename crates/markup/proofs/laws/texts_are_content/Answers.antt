use Rattle.markup.proofs.Contents.{texts_are_content}
use Rattle.markup.proofs.laws.texts_are_content.Goals as goal

pub returns : goal.returns
returns c = texts_are_content
