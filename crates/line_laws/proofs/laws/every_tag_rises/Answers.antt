-- The law, by the traversal of runs.
use Rattle.line_laws.proofs.LawRuns.{every_tag}
use Rattle.line_laws.proofs.laws.every_tag_rises.Goals as goal

pub returns : goal.returns
returns c = every_tag
