use Rattle.aes_modes.proofs.SlicedSchedule.{two_in, two_out}
use Rattle.aes_modes.proofs.sliced.two_columns_before_word.Goals as goal

pub returns-clause-inside : goal.returns-clause-inside
returns-clause-inside c = two_in c.args.x

pub returns-clause-outside : goal.returns-clause-outside
returns-clause-outside c = two_out c.args.x
