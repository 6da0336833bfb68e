use Rattle.flash_keeper.proofs.RunLemmas.{each_opening_is_the_same}
use Rattle.flash_keeper.proofs.laws.each_opening_is_the_same.Goals as goal

pub returns : goal.returns
returns c = each_opening_is_the_same
