use Rattle.fragment_buffers.proofs.Apart.{whole_reads, gap_in_none}
use Rattle.fragment_buffers.proofs.laws.a_whole_reassembly_is_of_its_pieces.Goals as goal

pub returns : goal.returns
returns c = record { whole = whole_reads; gap = gap_in_none }
