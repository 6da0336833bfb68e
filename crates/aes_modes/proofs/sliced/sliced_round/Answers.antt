use Rattle.aes_modes.proofs.SlicedRounds.{round_of}
use Rattle.aes_modes.proofs.sliced.sliced_round.Goals as goal

pub returns : goal.returns
returns c =
    round_of c.args.q c.sub_bytes.result c.shift_rows.result c.mix_columns.result c.args.k.now c.xor_words.result
    c.sub_bytes.ensures c.shift_rows.ensures c.mix_columns.ensures c.xor_words.ensures
