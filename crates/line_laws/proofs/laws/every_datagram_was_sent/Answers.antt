-- The law, by custody along a run.
use Rattle.line_laws.proofs.FurtherUps.{every_up}
use Rattle.line_laws.proofs.laws.every_datagram_was_sent.Goals as goal

pub returns : goal.returns
returns c = every_up
