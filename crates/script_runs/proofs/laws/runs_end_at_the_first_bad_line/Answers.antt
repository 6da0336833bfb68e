use Rattle.script_runs.proofs.Ends.{goes_on, ends, is_one}
use Rattle.script_runs.proofs.laws.runs_end_at_the_first_bad_line.Goals as goal

pub returns-clause-goes_on : goal.returns-clause-goes_on
returns-clause-goes_on c = goes_on

pub returns-clause-ends : goal.returns-clause-ends
returns-clause-ends c = ends

pub returns-clause-is_one : goal.returns-clause-is_one
returns-clause-is_one c = is_one
