use Rattle.std.proofs.Common.{◌∙◌, arith}
use Rattle.aes_modes.proofs.PackedBlocks.{unpacked_0, unpacked_1}
use Rattle.aes_modes.proofs.sliced.unpack.Goals as goal

pub returns-clause-first : goal.returns-clause-first
returns-clause-first c = c.octets.ensures ∙ unpacked_0 c.args.q c.transpose-t.result (omega arith) c.transpose-t.ensures.w0 c.transpose-t.ensures.w1
    c.transpose-t.ensures.w2 c.transpose-t.ensures.w3 c.transpose-t.ensures.w4 c.transpose-t.ensures.w5 c.transpose-t.ensures.w6
    c.transpose-t.ensures.w7

pub returns-clause-second : goal.returns-clause-second
returns-clause-second c = c.octets-2.ensures ∙ unpacked_1 c.args.q c.transpose-t.result (omega arith) c.transpose-t.ensures.w0
    c.transpose-t.ensures.w1 c.transpose-t.ensures.w2 c.transpose-t.ensures.w3 c.transpose-t.ensures.w4 c.transpose-t.ensures.w5
    c.transpose-t.ensures.w6 c.transpose-t.ensures.w7
