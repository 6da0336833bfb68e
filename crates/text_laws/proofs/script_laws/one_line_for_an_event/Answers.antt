use Rattle.text_laws.proofs.OnlyLines.{one_line}
use Rattle.text_laws.proofs.script_laws.one_line_for_an_event.Goals as goal

pub returns : goal.returns
returns c = one_line
