use Rattle.aes_modes.proofs.Words.{rows_at}
use Rattle.aes_modes.proofs.sliced.shift_word.Goals as goal

pub returns : goal.returns
returns c = rows_at c.args.x
