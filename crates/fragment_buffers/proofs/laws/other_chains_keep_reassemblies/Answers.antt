use Rattle.fragment_buffers.proofs.Beside.{beside_kept, new_other}
use Rattle.fragment_buffers.proofs.laws.other_chains_keep_reassemblies.Goals as goal

pub returns-clause-kept : goal.returns-clause-kept
returns-clause-kept c = beside_kept

pub returns-clause-new : goal.returns-clause-new
returns-clause-new c = new_other
