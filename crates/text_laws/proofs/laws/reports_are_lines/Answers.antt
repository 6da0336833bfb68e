use Rattle.text_laws.proofs.ReportTexts.{are_lines}
use Rattle.text_laws.proofs.laws.reports_are_lines.Goals as goal

pub returns : goal.returns
returns c = are_lines
