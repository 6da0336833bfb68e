-- The law, by who sends a flight.
use Rattle.line_laws.proofs.LawRuns.{every_key_own}
use Rattle.line_laws.proofs.laws.every_key_is_own.Goals as goal

pub returns : goal.returns
returns c = every_key_own
