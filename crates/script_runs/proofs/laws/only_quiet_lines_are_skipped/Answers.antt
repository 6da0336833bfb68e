use Rattle.script_runs.proofs.QuietLines.{is_quiet}
use Rattle.script_runs.proofs.laws.only_quiet_lines_are_skipped.Goals as goal

pub returns : goal.returns
returns c = is_quiet
