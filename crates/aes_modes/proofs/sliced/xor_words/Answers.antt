use Rattle.std.proofs.Common.{ℕ, ◌<◌, arith}
use Rattle.aes_modes.proofs.SlicedRounds.{added_at}
use Rattle.aes_modes.proofs.sliced.xor_words.Goals as goal

pub returns : goal.returns
returns c = λ (p : ℕ) (low : p < 32). added_at c.args.q c.args.k.now p (omega arith) (omega arith)
