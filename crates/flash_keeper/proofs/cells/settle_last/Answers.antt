use Rattle.std.proofs.Common.{◌+◌, true, false, arith}
use Rattle.flash_keeper.specs.Log.{place, mark, close, fence}
use Rattle.flash_keeper.proofs.Outcomes.{on_err}
use Rattle.flash_keeper.proofs.WearLemmas.{no_counts, keeps_all, program_counts, then_counts, zero_keeps, then_keeps}
use Rattle.flash_keeper.proofs.cells.settle_last.Goals as goal

pub returns-in_err-mark_cell-clause-left : goal.returns-in_err-mark_cell-clause-left
returns-in_err-mark_cell-clause-left g c = on_err c.from_residual.result (λ choice left. c.in_err-mark_cell.ensures.left choice left
    (c.reads_marked.ensures.fenced c.if-reads_marked.true left.last))

pub returns-then-reads_marked-clause-settled : goal.returns-then-reads_marked-clause-settled
returns-then-reads_marked-clause-settled g c = λ same choice left. c.in_ok-mark_cell.ensures.settled choice left
    (c.reads_marked.ensures.fenced c.if-reads_marked.true left.last)

pub returns-in_err-close_cell-clause-left : goal.returns-in_err-close_cell-clause-left
returns-in_err-close_cell-clause-left g c = on_err c.from_residual-in_err-close_cell.result (λ choice left.
    c.in_err-close_cell.ensures.left choice left (c.is_unfenced.ensures.unmarked c.if-is_unfenced.true left.last))

pub returns-then-is_unfenced-clause-settled : goal.returns-then-is_unfenced-clause-settled
returns-then-is_unfenced-clause-settled g c = λ same choice left. c.in_ok-close_cell.ensures.settled choice left
    (c.is_unfenced.ensures.unmarked c.if-is_unfenced.true left.last)

pub returns-in_err-mark_cell-2-clause-left : goal.returns-in_err-mark_cell-2-clause-left
returns-in_err-mark_cell-2-clause-left g c = on_err c.from_residual-in_err-mark_cell-2.result (λ choice left.
    c.in_err-mark_cell-2.ensures.left choice (c.in_ok-fence_cell.ensures.left choice left) c.in_ok-fence_cell.ensures.fence)

pub returns-clause-settled : goal.returns-clause-settled
returns-clause-settled g c = λ same choice left.
    c.in_ok-mark_cell-2.ensures.settled choice (c.in_ok-fence_cell.ensures.left choice left) c.in_ok-fence_cell.ensures.fence

pub returns-in_err-mark_cell-clause-counts : goal.returns-in_err-mark_cell-clause-counts
returns-in_err-mark_cell-clause-counts g c =
    let k = c.args.cell in
    program_counts (g.B.FlashBank.bank c.args.bank.now) (g.B.FlashBank.bank c.mark_cell.new.bank) (mark c.args.front k) 0 (place c.args.front k)
    (place c.args.front k + 12) false (omega arith)
    (omega arith)
    c.in_err-mark_cell.ensures.programs

pub returns-in_err-mark_cell-clause-keeps : goal.returns-in_err-mark_cell-clause-keeps
returns-in_err-mark_cell-clause-keeps g c =
    zero_keeps c.args.front (g.B.FlashBank.bank c.args.bank.now) (g.B.FlashBank.bank c.mark_cell.new.bank) (mark c.args.front c.args.cell) false
    c.in_err-mark_cell.ensures.programs

pub returns-then-reads_marked-clause-counts : goal.returns-then-reads_marked-clause-counts
returns-then-reads_marked-clause-counts g c =
    let k = c.args.cell in
    program_counts (g.B.FlashBank.bank c.args.bank.now) (g.B.FlashBank.bank c.mark_cell.new.bank) (mark c.args.front k) 0 (place c.args.front k)
    (place c.args.front k + 12) true (omega arith)
    (omega arith)
    c.in_ok-mark_cell.ensures.programs

pub returns-then-reads_marked-clause-keeps : goal.returns-then-reads_marked-clause-keeps
returns-then-reads_marked-clause-keeps g c =
    zero_keeps c.args.front (g.B.FlashBank.bank c.args.bank.now) (g.B.FlashBank.bank c.mark_cell.new.bank) (mark c.args.front c.args.cell) true
    c.in_ok-mark_cell.ensures.programs

pub returns-in_err-close_cell-clause-counts : goal.returns-in_err-close_cell-clause-counts
returns-in_err-close_cell-clause-counts g c =
    let k = c.args.cell in
    program_counts (g.B.FlashBank.bank c.args.bank.now) (g.B.FlashBank.bank c.close_cell.new.bank) (close c.args.front k) 0 (place c.args.front k)
    (place c.args.front k + 12) false (omega arith)
    (omega arith)
    c.in_err-close_cell.ensures.programs

pub returns-in_err-close_cell-clause-keeps : goal.returns-in_err-close_cell-clause-keeps
returns-in_err-close_cell-clause-keeps g c =
    zero_keeps c.args.front (g.B.FlashBank.bank c.args.bank.now) (g.B.FlashBank.bank c.close_cell.new.bank) (close c.args.front c.args.cell) false
    c.in_err-close_cell.ensures.programs

pub returns-then-is_unfenced-clause-counts : goal.returns-then-is_unfenced-clause-counts
returns-then-is_unfenced-clause-counts g c =
    let k = c.args.cell in
    program_counts (g.B.FlashBank.bank c.args.bank.now) (g.B.FlashBank.bank c.close_cell.new.bank) (close c.args.front k) 0 (place c.args.front k)
    (place c.args.front k + 12) true (omega arith)
    (omega arith)
    c.in_ok-close_cell.ensures.programs

pub returns-then-is_unfenced-clause-keeps : goal.returns-then-is_unfenced-clause-keeps
returns-then-is_unfenced-clause-keeps g c =
    zero_keeps c.args.front (g.B.FlashBank.bank c.args.bank.now) (g.B.FlashBank.bank c.close_cell.new.bank) (close c.args.front c.args.cell) true
    c.in_ok-close_cell.ensures.programs

pub returns-then-is_shut-clause-counts : goal.returns-then-is_shut-clause-counts
returns-then-is_shut-clause-counts g c = no_counts (g.B.FlashBank.bank c.args.bank.now) (place c.args.front c.args.cell) (place c.args.front c.args.cell + 12)

pub returns-then-is_shut-clause-keeps : goal.returns-then-is_shut-clause-keeps
returns-then-is_shut-clause-keeps g c = keeps_all c.args.front (g.B.FlashBank.bank c.args.bank.now)

pub returns-in_err-fence_cell-clause-counts : goal.returns-in_err-fence_cell-clause-counts
returns-in_err-fence_cell-clause-counts g c =
    let k = c.args.cell in
    program_counts (g.B.FlashBank.bank c.args.bank.now) (g.B.FlashBank.bank c.fence_cell.new.bank) (fence c.args.front k) 0 (place c.args.front k)
    (place c.args.front k + 12) false (omega arith)
    (omega arith)
    c.in_err-fence_cell.ensures.programs

pub returns-in_err-fence_cell-clause-keeps : goal.returns-in_err-fence_cell-clause-keeps
returns-in_err-fence_cell-clause-keeps g c =
    zero_keeps c.args.front (g.B.FlashBank.bank c.args.bank.now) (g.B.FlashBank.bank c.fence_cell.new.bank) (fence c.args.front c.args.cell) false
    c.in_err-fence_cell.ensures.programs

pub returns-in_err-mark_cell-2-clause-counts : goal.returns-in_err-mark_cell-2-clause-counts
returns-in_err-mark_cell-2-clause-counts g c =
    let k = c.args.cell in
    let a = g.B.FlashBank.bank c.args.bank.now in
    let b = g.B.FlashBank.bank c.fence_cell.new.bank in
    let e = g.B.FlashBank.bank c.mark_cell-2.new.bank in
    then_counts a b e (place c.args.front k) (mark c.args.front k) (place c.args.front k + 12) (omega arith) (omega arith)
    (program_counts a b (fence c.args.front k) 0 (place c.args.front k) (mark c.args.front k) true (omega arith) (omega arith)
    c.in_ok-fence_cell.ensures.programs)
    (program_counts b e (mark c.args.front k) 0 (mark c.args.front k) (place c.args.front k + 12) false (omega arith) (omega arith)
    c.in_err-mark_cell-2.ensures.programs)

pub returns-in_err-mark_cell-2-clause-keeps : goal.returns-in_err-mark_cell-2-clause-keeps
returns-in_err-mark_cell-2-clause-keeps g c =
    let k = c.args.cell in
    let a = g.B.FlashBank.bank c.args.bank.now in
    let b = g.B.FlashBank.bank c.fence_cell.new.bank in
    let e = g.B.FlashBank.bank c.mark_cell-2.new.bank in
    then_keeps c.args.front a b e (zero_keeps c.args.front a b (fence c.args.front k) true c.in_ok-fence_cell.ensures.programs)
    (zero_keeps c.args.front b e (mark c.args.front k) false c.in_err-mark_cell-2.ensures.programs)

pub returns-clause-counts : goal.returns-clause-counts
returns-clause-counts g c =
    let k = c.args.cell in
    let a = g.B.FlashBank.bank c.args.bank.now in
    let b = g.B.FlashBank.bank c.fence_cell.new.bank in
    let e = g.B.FlashBank.bank c.mark_cell-2.new.bank in
    then_counts a b e (place c.args.front k) (mark c.args.front k) (place c.args.front k + 12) (omega arith) (omega arith)
    (program_counts a b (fence c.args.front k) 0 (place c.args.front k) (mark c.args.front k) true (omega arith) (omega arith)
    c.in_ok-fence_cell.ensures.programs)
    (program_counts b e (mark c.args.front k) 0 (mark c.args.front k) (place c.args.front k + 12) true (omega arith) (omega arith)
    c.in_ok-mark_cell-2.ensures.programs)

pub returns-clause-keeps : goal.returns-clause-keeps
returns-clause-keeps g c =
    let k = c.args.cell in
    let a = g.B.FlashBank.bank c.args.bank.now in
    let b = g.B.FlashBank.bank c.fence_cell.new.bank in
    let e = g.B.FlashBank.bank c.mark_cell-2.new.bank in
    then_keeps c.args.front a b e (zero_keeps c.args.front a b (fence c.args.front k) true c.in_ok-fence_cell.ensures.programs)
    (zero_keeps c.args.front b e (mark c.args.front k) true c.in_ok-mark_cell-2.ensures.programs)
