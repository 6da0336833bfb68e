use Rattle.aes_modes.proofs.SlicedSchedule.{one_in, one_out}
use Rattle.aes_modes.proofs.sliced.column_before_word.Goals as goal

pub returns-clause-inside : goal.returns-clause-inside
returns-clause-inside c = one_in c.args.x

pub returns-clause-outside : goal.returns-clause-outside
returns-clause-outside c = one_out c.args.x
