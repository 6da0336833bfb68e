-- The law, by the traversal of runs.
use Rattle.line_laws.proofs.LawRuns.{every_forgery}
use Rattle.line_laws.proofs.laws.every_forgery_is_reported.Goals as goal

pub returns : goal.returns
returns c = every_forgery
