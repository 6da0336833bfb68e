use Rattle.std.proofs.Common.{ℕ}
use Rattle.aes_modes.specs.Sliced.{IsRoundConstant}
use Rattle.aes_modes.proofs.SlicedSchedule.{step_is}
use Rattle.aes_modes.proofs.sliced.sliced_next_round_key.Goals as goal

pub returns : goal.returns
returns c = λ (n : ℕ) (h : IsRoundConstant n c.args.constant).
    step_is c.args.k c.sub_bytes.result c.last_column-t.result c.xor_words-w.result c.args.constant c.xor_words-x.result c.column_before.result
    c.xor_words-y.result c.two_columns_before.result c.xor_words.result n (
      c.sub_bytes.ensures,
      c.last_column-t.ensures.inside,
      c.last_column-t.ensures.outside,
      c.xor_words-w.ensures,
      h,
      c.xor_words-x.ensures,
      c.column_before.ensures.inside,
      c.column_before.ensures.outside,
      c.xor_words-y.ensures,
      c.two_columns_before.ensures.inside,
      c.two_columns_before.ensures.outside,
      c.xor_words.ensures,
    )
