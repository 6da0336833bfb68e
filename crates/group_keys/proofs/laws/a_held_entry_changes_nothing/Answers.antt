use Rattle.group_keys.proofs.EntryPuts.{no_change}
use Rattle.group_keys.proofs.laws.a_held_entry_changes_nothing.Goals as goal

pub returns : goal.returns
returns c = no_change
