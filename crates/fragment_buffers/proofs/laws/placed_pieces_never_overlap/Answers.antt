use Rattle.fragment_buffers.proofs.Apart.{stay_apart}
use Rattle.fragment_buffers.proofs.laws.placed_pieces_never_overlap.Goals as goal

pub returns : goal.returns
returns c = stay_apart
