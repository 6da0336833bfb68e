use Rattle.script_lines.proofs.LineLaws.{lines_are}
use Rattle.script_lines.proofs.laws.lines_of_a_script.Goals as goal

pub returns : goal.returns
returns c = lines_are
