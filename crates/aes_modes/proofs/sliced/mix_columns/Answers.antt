use Rattle.std.proofs.Common.{arith}
use Rattle.aes_modes.proofs.SlicedRounds.{mixing}
use Rattle.aes_modes.proofs.sliced.mix_columns.Goals as goal

pub returns : goal.returns
returns c =
    mixing c.args.q c.row_after-r0.result c.row_after-r1.result c.row_after-r2.result c.row_after-r3.result c.row_after-r4.result
    c.row_after-r5.result c.row_after-r6.result c.row_after-r7.result
    c.two_rows_after.result c.two_rows_after-2.result c.two_rows_after-3.result c.two_rows_after-4.result c.two_rows_after-5.result
    c.two_rows_after-6.result c.two_rows_after-7.result c.two_rows_after-8.result (omega arith)
    c.row_after-r0.ensures c.row_after-r1.ensures c.row_after-r2.ensures c.row_after-r3.ensures c.row_after-r4.ensures c.row_after-r5.ensures
    c.row_after-r6.ensures c.row_after-r7.ensures
    c.two_rows_after.ensures c.two_rows_after-2.ensures c.two_rows_after-3.ensures c.two_rows_after-4.ensures c.two_rows_after-5.ensures
    c.two_rows_after-6.ensures c.two_rows_after-7.ensures c.two_rows_after-8.ensures
