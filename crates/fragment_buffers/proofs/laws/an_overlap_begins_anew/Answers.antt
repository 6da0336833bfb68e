use Rattle.std.proofs.Common.{refl}
use Rattle.fragment_buffers.specs.PieceIntake.{taken, taken_in, unexpired}
use Rattle.fragment_buffers.specs.Reassembly.{datagram_of}
use Rattle.fragment_buffers.proofs.laws.an_overlap_begins_anew.Goals as goal

pub returns : goal.returns
unfolding taken taken_in unexpired datagram_of
returns c = (refl, refl, refl, refl, refl, refl, refl)
