use Rattle.flash_keeper.proofs.CheckLemmas.{changed_slot_is_seen}
use Rattle.flash_keeper.proofs.laws.a_changed_slot_is_seen.Goals as goal

pub returns : goal.returns
returns c = changed_slot_is_seen
