-- The law, by the traversals of runs.
use Rattle.line_laws.proofs.FlightFrames.{every_frame}
use Rattle.line_laws.proofs.LawRuns.{every_spelling}
use Rattle.line_laws.proofs.laws.every_flight_is_spelled.Goals as goal

pub returns-clause-frames : goal.returns-clause-frames
returns-clause-frames c = every_frame

pub returns-clause-ranges : goal.returns-clause-ranges
returns-clause-ranges c = every_spelling
