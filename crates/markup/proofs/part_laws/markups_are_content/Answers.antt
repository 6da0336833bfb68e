use Rattle.markup.proofs.Markups.{markups_are_content}
use Rattle.markup.proofs.part_laws.markups_are_content.Goals as goal

pub returns : goal.returns
returns c = markups_are_content
