use Rattle.std.proofs.Common.{[], ◌∷◌, arith}
use Rattle.aes_modes.proofs.PackedBlocks.{packed_0, packed_1}
use Rattle.aes_modes.proofs.sliced.pack.Goals as goal

pub returns-clause-first : goal.returns-clause-first
returns-clause-first c =
    packed_0 (c.word.result ∷ c.word-2.result ∷ c.word-3.result ∷ c.word-4.result ∷ c.word-5.result ∷ c.word-6.result ∷ c.word-7.result
    ∷ c.word-8.result ∷ []) c.transpose.result c.args.x.now (omega arith) (omega arith)
    c.transpose.ensures.w0 c.transpose.ensures.w1 c.transpose.ensures.w2 c.transpose.ensures.w3 c.transpose.ensures.w4 c.transpose.ensures.w5
    c.transpose.ensures.w6 c.transpose.ensures.w7
    c.word.ensures c.word-3.ensures c.word-5.ensures c.word-7.ensures

pub returns-clause-second : goal.returns-clause-second
returns-clause-second c =
    packed_1 (c.word.result ∷ c.word-2.result ∷ c.word-3.result ∷ c.word-4.result ∷ c.word-5.result ∷ c.word-6.result ∷ c.word-7.result
    ∷ c.word-8.result ∷ []) c.transpose.result c.args.y.now (omega arith) (omega arith)
    c.transpose.ensures.w0 c.transpose.ensures.w1 c.transpose.ensures.w2 c.transpose.ensures.w3 c.transpose.ensures.w4 c.transpose.ensures.w5
    c.transpose.ensures.w6 c.transpose.ensures.w7
    c.word-2.ensures c.word-4.ensures c.word-6.ensures c.word-8.ensures
