use Rattle.text_laws.proofs.OnlyLines.{only_lines}
use Rattle.text_laws.proofs.script_laws.only_lines_are_read.Goals as goal

pub returns : goal.returns
returns c = only_lines
