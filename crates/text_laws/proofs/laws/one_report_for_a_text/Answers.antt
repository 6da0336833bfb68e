use Rattle.text_laws.proofs.OneReport.{one_report}
use Rattle.text_laws.proofs.laws.one_report_for_a_text.Goals as goal

pub returns : goal.returns
returns c = one_report
