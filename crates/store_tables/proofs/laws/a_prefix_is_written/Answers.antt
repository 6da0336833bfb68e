use Rattle.store_tables.proofs.CutWrites.{prefix_written}
use Rattle.store_tables.proofs.laws.a_prefix_is_written.Goals as goal

pub returns : goal.returns
returns c = prefix_written
