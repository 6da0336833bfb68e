use Rattle.aes_modes.proofs.Words.{first_1, second_1}
use Rattle.aes_modes.proofs.sliced.cross_1.Goals as goal

pub returns-clause-first : goal.returns-clause-first
returns-clause-first c = first_1 c.args.a c.args.b

pub returns-clause-second : goal.returns-clause-second
returns-clause-second c = second_1 c.args.a c.args.b
