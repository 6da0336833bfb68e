use Rattle.text_laws.proofs.OneReport.{one_line}
use Rattle.text_laws.proofs.laws.one_line_for_a_text.Goals as goal

pub returns : goal.returns
returns c = one_line
