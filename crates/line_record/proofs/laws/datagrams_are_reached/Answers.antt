use Rattle.line_record.proofs.DatagramStories.{datagrams_are_reached}
use Rattle.line_record.proofs.laws.datagrams_are_reached.Goals as goal

pub returns : goal.returns
returns c = datagrams_are_reached
