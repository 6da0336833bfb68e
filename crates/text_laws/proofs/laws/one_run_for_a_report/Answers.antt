use Rattle.text_laws.proofs.OneRun.{one_run}
use Rattle.text_laws.proofs.laws.one_run_for_a_report.Goals as goal

pub returns : goal.returns
returns c = one_run
