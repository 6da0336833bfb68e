-- The law, by what a station answers to a reply.
use Rattle.line_laws.proofs.RepliesTaken.{replies_taken_alike}
use Rattle.line_laws.proofs.event_laws.replies_are_taken_alike.Goals as goal

pub returns : goal.returns
returns c = replies_taken_alike
