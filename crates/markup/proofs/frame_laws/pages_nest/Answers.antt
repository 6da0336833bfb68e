use Rattle.markup.proofs.Pages.{pages_nest}
use Rattle.markup.proofs.frame_laws.pages_nest.Goals as goal

pub returns : goal.returns
returns c = pages_nest
