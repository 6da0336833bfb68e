use Rattle.std.proofs.Common.{◌∙◌, ap}
use Rattle.std.specs.Prelude.{count_ones}
use Rattle.std.specs.Int.Count.{ones-ones}
use Rattle.flash_keeper.proofs.bank.ones_of.Goals as goal

pub returns-clause-erased : goal.returns-clause-erased
returns-clause-erased c = λ e. ap count_ones e ∙ ones-ones 64
