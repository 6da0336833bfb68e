use Rattle.std.proofs.Common.{inl, inr, ℕ, ◌∙◌, ◌+◌, arith, is_ok}
use Rattle.flash_keeper.proofs.Outcomes.{on_ok_of}
use Rattle.flash_keeper.proofs.OpeningLemmas.{record_stays, outside_fence, outside_record}
use Rattle.flash_keeper.specs.Log.{place, close, fence, mark}
use Rattle.flash_keeper.proofs.WearLemmas.{program_counts, then_counts, wider_counts}
use Rattle.flash_keeper.proofs.cells.write_body.Goals as goal

pub returns-in_err-write_record-clause-left : goal.returns-in_err-write_record-clause-left
returns-in_err-write_record-clause-left g c =
    let at : ℕ = fence c.args.front c.args.cell in
    inl (c.write_record.ensures.same at (inr (omega (arith, c.place_of-at.ensures))) ∙ c.requires.blank at (omega arith))

pub returns-in_err-write_record-clause-same : goal.returns-in_err-write_record-clause-same
returns-in_err-write_record-clause-same g c =
    outside_record c.args.front (g.B.FlashBank.bank c.args.bank.now) (g.B.FlashBank.bank c.write_record.new.bank) c.args.cell c.place_of-at.result
    c.place_of-at.ensures c.write_record.ensures.same

pub returns-clause-same : goal.returns-clause-same
returns-clause-same g c =
    outside_fence c.args.front (g.B.FlashBank.bank c.args.bank.now) (g.B.FlashBank.bank c.write_record.new.bank)
    (g.B.FlashBank.bank c.program.new.self) c.args.cell c.place_of-at.result _ c.place_of-at.ensures c.write_record.ensures.same c.program.ensures.programs

pub returns-clause-record : goal.returns-clause-record
returns-clause-record g c = on_ok_of c.program.result (λ ok. record_stays c.args.front (g.B.FlashBank.bank c.write_record.new.bank)
    (g.B.FlashBank.bank c.program.new.self) c.args.cell c.place_of-at.result c.args.slot _ c.args.octets.now c.place_of-at.ensures
    c.program.ensures.programs c.in_ok-write_record.ensures.record)

pub returns-clause-left : goal.returns-clause-left
returns-clause-left g c = inr (record_stays c.args.front (g.B.FlashBank.bank c.write_record.new.bank)
    (g.B.FlashBank.bank c.program.new.self) c.args.cell c.place_of-at.result c.args.slot _ c.args.octets.now c.place_of-at.ensures
    c.program.ensures.programs c.in_ok-write_record.ensures.record)

pub returns-in_err-write_record-clause-counts : goal.returns-in_err-write_record-clause-counts
returns-in_err-write_record-clause-counts g c =
    let k = c.args.cell in
    let at = c.place_of-at.result in
    wider_counts (g.B.FlashBank.bank c.args.bank.now) (g.B.FlashBank.bank c.write_record.new.bank) at (at + 1 + 8) (place c.args.front k)
    (mark c.args.front k) (omega (arith, c.place_of-at.ensures)) (omega (arith, c.place_of-at.ensures)) c.write_record.ensures.counts

pub returns-clause-counts : goal.returns-clause-counts
returns-clause-counts g c =
    let k = c.args.cell in
    let at = c.place_of-at.result in
    let is = c.place_of-at.ensures in
    let a = g.B.FlashBank.bank c.args.bank.now in
    let b = g.B.FlashBank.bank c.write_record.new.bank in
    let e = g.B.FlashBank.bank c.program.new.self in
    then_counts a b e (place c.args.front k) (close c.args.front k) (mark c.args.front k) (omega arith) (omega arith)
    (wider_counts a b at (at + 1 + 8) (place c.args.front k) (close c.args.front k) (omega (arith, is)) (omega (arith, is)) c.write_record.ensures.counts)
    (program_counts b e (at + 10) 0 (close c.args.front k) (mark c.args.front k) (is_ok c.program.result) (omega (arith, is)) (omega (arith, is))
    c.program.ensures.programs)
