use Rattle.group_keys.proofs.EntryPuts.{has_entry}
use Rattle.group_keys.proofs.laws.an_entry_is_found.Goals as goal

pub returns : goal.returns
returns c = has_entry
