use Rattle.std.proofs.Common.{ℕ, ◌≤◌, ◌+◌, ◌*◌, inl, inr, length, true, false, ap, arith}
use Rattle.flash_keeper.proofs.Outcomes.{both_ok, on_ok_of}
use Rattle.flash_keeper.proofs.RecordLemmas.{record_written, length_written, outside_head, outside_body}
use Rattle.flash_keeper.proofs.WearLemmas.{program_counts, then_counts}
use Rattle.flash_keeper.proofs.records.write_record.Goals as goal

pub returns-in_err-program-clause-same : goal.returns-in_err-program-clause-same
returns-in_err-program-clause-same g c =
    outside_head (g.B.FlashBank.bank c.args.bank.now) (g.B.FlashBank.bank c.program.new.self) c.args.at c.args.words _ _ c.program.ensures.programs

pub returns-clause-same : goal.returns-clause-same
returns-clause-same g c =
    outside_body (g.B.FlashBank.bank c.args.bank.now) (g.B.FlashBank.bank c.program.new.self) (g.B.FlashBank.bank c.write_words.new.bank) c.args.at
    c.args.words _ _ c.in_ok-program.ensures.programs c.write_words.ensures.same

pub returns-clause-record : goal.returns-clause-record
returns-clause-record g c =
    let enough : length c.args.octets.now ≤ 8 * c.args.words = elim c.requires.enough [
      | inl is ↦ omega (arith, is, c.len-length.ensures.value, c.len-length.ensures.fits)
      | inr le ↦ le
    ] in
    both_ok c.write_words.result (λ spelled firm.
    record_written (g.B.FlashBank.bank c.args.bank.now) (g.B.FlashBank.bank c.program.new.self) (g.B.FlashBank.bank c.write_words.new.bank) c.args.at
    c.args.words c.args.slot (c.args.slot * 65 + c.len-length.result) c.check_of-check.result c.args.octets.now c.padded-all.result
    c.in_ok-program.ensures.programs c.write_words.ensures.same spelled firm (ap (λ (n : ℕ). c.args.slot * 65 + n) c.len-length.ensures.value)
    c.check_of-check.ensures.value c.requires.more c.requires.fits (omega (arith, c.len-length.ensures.value, c.len-length.ensures.fits))
    enough c.padded-all.ensures)
    c.write_words.ensures.octets c.write_words.ensures.body

pub returns-clause-length : goal.returns-clause-length
returns-clause-length g c = on_ok_of c.write_words.result (λ ok.
    length_written (g.B.FlashBank.bank c.args.bank.now) (g.B.FlashBank.bank c.program.new.self) (g.B.FlashBank.bank c.write_words.new.bank) c.args.at
    c.args.words c.args.slot (c.args.slot * 65 + c.len-length.result) c.check_of-check.result c.args.octets.now c.in_ok-program.ensures.programs
    c.write_words.ensures.same (ap (λ (n : ℕ). c.args.slot * 65 + n) c.len-length.ensures.value) c.requires.fits
    (omega (arith, c.len-length.ensures.value, c.len-length.ensures.fits)))

pub returns-in_err-program-clause-counts : goal.returns-in_err-program-clause-counts
returns-in_err-program-clause-counts g c =
    program_counts (g.B.FlashBank.bank c.args.bank.now) (g.B.FlashBank.bank c.program.new.self) c.args.at _ c.args.at (c.args.at + 1 + c.args.words)
    false (omega arith) (omega arith) c.in_err-program.ensures.programs

pub returns-clause-counts : goal.returns-clause-counts
returns-clause-counts g c =
    let at = c.args.at in
    let a = g.B.FlashBank.bank c.args.bank.now in
    let b = g.B.FlashBank.bank c.program.new.self in
    then_counts a b (g.B.FlashBank.bank c.write_words.new.bank) at (at + 1) (at + 1 + c.args.words) (omega arith) (omega arith)
    (program_counts a b at _ at (at + 1) true (omega arith) (omega arith) c.in_ok-program.ensures.programs) c.write_words.ensures.counts
