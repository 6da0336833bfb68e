use Rattle.host_calls.proofs.ItemLemmas.{back, unique}
use Rattle.host_calls.proofs.laws.items_are_read_back.Goals as goal

pub returns-clause-back : goal.returns-clause-back
returns-clause-back c = back

pub returns-clause-unique : goal.returns-clause-unique
returns-clause-unique c = unique
