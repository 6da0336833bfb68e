use Rattle.flash_keeper.proofs.RunLemmas.{holds_what_was_put}
use Rattle.flash_keeper.proofs.laws.a_slot_has_what_was_put.Goals as goal

pub returns : goal.returns
returns c = holds_what_was_put
