use Rattle.aes_modes.proofs.SlicedRounds.{last_of}
use Rattle.aes_modes.proofs.sliced.sliced_last_round.Goals as goal

pub returns : goal.returns
returns c =
    last_of c.args.q c.sub_bytes.result c.shift_rows.result c.args.k.now c.xor_words.result
    c.sub_bytes.ensures c.shift_rows.ensures c.xor_words.ensures
