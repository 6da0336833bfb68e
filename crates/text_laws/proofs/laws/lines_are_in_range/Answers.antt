use Rattle.text_laws.proofs.Ranges.{in_range}
use Rattle.text_laws.proofs.laws.lines_are_in_range.Goals as goal

pub returns : goal.returns
returns c = in_range
