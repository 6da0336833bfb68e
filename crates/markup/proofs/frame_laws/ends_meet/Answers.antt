use Rattle.markup.proofs.Pages.{ends_meet}
use Rattle.markup.proofs.frame_laws.ends_meet.Goals as goal

pub returns : goal.returns
returns c = ends_meet
