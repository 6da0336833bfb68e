use Rattle.std.proofs.Common.{arith}
use Rattle.flash_keeper.proofs.OpeningLemmas.{found_blank, found_none, true_is_false}
use Rattle.flash_keeper.proofs.cells.first_blank.Goals as goal

pub returns-then-is_blank-clause-found : goal.returns-then-is_blank-clause-found
returns-then-is_blank-clause-found g c = λ n choice left.
    found_blank c.args.front (g.B.FlashBank.bank c.args.bank.now) n c.loop-cell.cell choice c.is_blank.result left (c.loop-cell.invariant.low n choice left)
    c.is_blank.ensures.certain c.is_blank.ensures.whole c.if-is_blank.true

pub returns-clause-found : goal.returns-clause-found
returns-clause-found g c = λ n choice left.
    found_none c.args.front (g.B.FlashBank.bank c.args.bank.now) n c.loop-cell.cell c.cell_count-count.result choice left
    (c.loop-cell.invariant.low n choice left)
    c.loop-cell.invariant.below (λ less. omega (arith, less, c.loop-cell-test.false)) c.cell_count-count.ensures

pub returns-then-is_blank-clause-unclosed : goal.returns-then-is_blank-clause-unclosed
returns-then-is_blank-clause-unclosed g c = λ less zero. true_is_false c.is_blank.result c.if-is_blank.true (c.is_blank.ensures.closed zero)

pub returns-clause-unclosed : goal.returns-clause-unclosed
returns-clause-unclosed g c = λ less zero. omega (arith, less, c.cell_count-count.ensures)
