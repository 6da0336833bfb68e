use Rattle.flash_keeper.proofs.CheckLemmas.{changed_octet_is_seen}
use Rattle.flash_keeper.proofs.laws.a_changed_octet_is_seen.Goals as goal

pub returns : goal.returns
returns c = changed_octet_is_seen
