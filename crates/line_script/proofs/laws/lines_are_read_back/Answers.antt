use Rattle.line_script.proofs.RoundTrip.{read_back}
use Rattle.line_script.proofs.laws.lines_are_read_back.Goals as goal

pub returns : goal.returns
returns c = read_back
