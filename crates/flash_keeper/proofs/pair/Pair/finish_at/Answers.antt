use Rattle.std.proofs.Common.{◌<◌, arith, ◌+◌, true, false, refl}
use Rattle.flash_keeper.specs.Log.{room, place, close}
use Rattle.flash_keeper.proofs.Outcomes.{on_err}
use Rattle.flash_keeper.proofs.BankLemmas.{full_is_settled}
use Rattle.flash_keeper.proofs.WearLemmas.{no_counts, keeps_all, program_counts, zero_keeps, closed_is_done}
use Rattle.flash_keeper.proofs.pair.Pair.finish_at.Goals as goal

pub returns-then-at-room-clause-settled : goal.returns-then-at-room-clause-settled
returns-then-at-room-clause-settled g c = λ choice closable.
    full_is_settled c.args.self.now.front (g.B.FlashBank.bank c.args.self.now.live) c.args.at choice closable.0 (λ less. omega (
      arith,
      less,
      c.if-at-room.true,
      c.cell_count-room.ensures,
    ))

pub returns-in_err-close_cell-clause-left : goal.returns-in_err-close_cell-clause-left
returns-in_err-close_cell-clause-left g c =
    let fits : c.args.at < room c.args.self.now.front (g.B.FlashBank.bank c.args.self.now.live).size = omega
    (arith, c.if-at-room.false, c.cell_count-room.ensures) in
    on_err c.from_residual.result (λ choice closable. c.close_cell.ensures.left choice closable.0 (closable.1 fits))

pub returns-clause-settled : goal.returns-clause-settled
returns-clause-settled g c =
    let fits : c.args.at < room c.args.self.now.front (g.B.FlashBank.bank c.args.self.now.live).size = omega
    (arith, c.if-at-room.false, c.cell_count-room.ensures) in
    λ choice closable. c.in_ok-close_cell.ensures.settled choice closable.0 (closable.1 fits)

pub returns-then-at-room-clause-counts : goal.returns-then-at-room-clause-counts
returns-then-at-room-clause-counts g c =
    no_counts (g.B.FlashBank.bank c.args.self.now.live) (place c.args.self.now.front c.args.at) (place c.args.self.now.front c.args.at + 12)

pub returns-then-at-room-clause-keeps : goal.returns-then-at-room-clause-keeps
returns-then-at-room-clause-keeps g c = keeps_all c.args.self.now.front (g.B.FlashBank.bank c.args.self.now.live)

pub returns-then-at-room-clause-done : goal.returns-then-at-room-clause-done
returns-then-at-room-clause-done g c = λ less. absurd (omega (arith, less, c.if-at-room.true, c.cell_count-room.ensures))

pub returns-in_err-close_cell-clause-counts : goal.returns-in_err-close_cell-clause-counts
returns-in_err-close_cell-clause-counts g c =
    let k = c.args.at in
    program_counts (g.B.FlashBank.bank c.args.self.now.live) (g.B.FlashBank.bank c.close_cell.new.bank) (close c.args.self.now.front k) 0
    (place c.args.self.now.front k) (place c.args.self.now.front k + 12) false (omega arith)
    (omega arith)
    c.in_err-close_cell.ensures.programs

pub returns-in_err-close_cell-clause-keeps : goal.returns-in_err-close_cell-clause-keeps
returns-in_err-close_cell-clause-keeps g c =
    zero_keeps c.args.self.now.front (g.B.FlashBank.bank c.args.self.now.live) (g.B.FlashBank.bank c.close_cell.new.bank)
    (close c.args.self.now.front c.args.at) false c.in_err-close_cell.ensures.programs

pub returns-clause-counts : goal.returns-clause-counts
returns-clause-counts g c =
    let k = c.args.at in
    program_counts (g.B.FlashBank.bank c.args.self.now.live) (g.B.FlashBank.bank c.close_cell.new.bank) (close c.args.self.now.front k) 0
    (place c.args.self.now.front k) (place c.args.self.now.front k + 12) true (omega arith)
    (omega arith)
    c.in_ok-close_cell.ensures.programs

pub returns-clause-keeps : goal.returns-clause-keeps
returns-clause-keeps g c =
    zero_keeps c.args.self.now.front (g.B.FlashBank.bank c.args.self.now.live) (g.B.FlashBank.bank c.close_cell.new.bank)
    (close c.args.self.now.front c.args.at) true c.in_ok-close_cell.ensures.programs

pub returns-clause-done : goal.returns-clause-done
returns-clause-done g c =
    λ less. closed_is_done c.args.self.now.front (g.B.FlashBank.bank c.close_cell.new.bank).words c.args.at (c.in_ok-close_cell.ensures.programs.done refl)
