use Rattle.aes_modes.proofs.Words.{first_2, second_2}
use Rattle.aes_modes.proofs.sliced.cross_2.Goals as goal

pub returns-clause-first : goal.returns-clause-first
returns-clause-first c = first_2 c.args.a c.args.b

pub returns-clause-second : goal.returns-clause-second
returns-clause-second c = second_2 c.args.a c.args.b
