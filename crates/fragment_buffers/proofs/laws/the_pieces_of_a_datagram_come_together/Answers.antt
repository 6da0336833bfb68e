use Rattle.fragment_buffers.proofs.RoundTrip.{come_together}
use Rattle.fragment_buffers.proofs.laws.the_pieces_of_a_datagram_come_together.Goals as goal

pub returns : goal.returns
returns c = come_together
