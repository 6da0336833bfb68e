use Rattle.store_tables.proofs.FoundEntries.{sorted_find}
use Rattle.store_tables.proofs.laws.sorted_keys_find_all.Goals as goal

pub returns : goal.returns
returns g c = sorted_find
