-- The law, by induction over runs.
use Rattle.line_laws.proofs.ReachRuns.{every_walk}
use Rattle.line_laws.proofs.laws.every_walk_was_taken.Goals as goal

pub returns : goal.returns
returns c = every_walk
