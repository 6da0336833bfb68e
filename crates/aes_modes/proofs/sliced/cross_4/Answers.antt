use Rattle.aes_modes.proofs.Words.{first_4, second_4}
use Rattle.aes_modes.proofs.sliced.cross_4.Goals as goal

pub returns-clause-first : goal.returns-clause-first
returns-clause-first c = first_4 c.args.a c.args.b

pub returns-clause-second : goal.returns-clause-second
returns-clause-second c = second_4 c.args.a c.args.b
