use Rattle.std.proofs.Common.{◌∙◌, ℕ, ◌+◌, Bool, is_ok, subst, ap, sym, arith}
use Rattle.flash_keeper.specs.Flash.{Programs}
use Rattle.flash_keeper.specs.Log.{place, mark}
use Rattle.flash_keeper.proofs.Outcomes.{on_ok_of, on_err}
use Rattle.flash_keeper.proofs.LogLemmas.{BodyIs, left_at_body, left_at_mark, records_marked, settled_marked}
use Rattle.flash_keeper.proofs.WearLemmas.{no_counts, program_counts, then_counts, wider_counts}
use Rattle.flash_keeper.proofs.cells.write_cell.Goals as goal

pub returns-in_err-write_body-clause-left : goal.returns-in_err-write_body-clause-left
returns-in_err-write_body-clause-left g c =
    let old = g.B.FlashBank.bank c.args.bank.now in
    let new = g.B.FlashBank.bank c.write_body.new.bank in
    on_err c.from_residual.result (λ choice one two.
    left_at_body c.args.front old new c.args.cell c.args.slot c.args.octets.now choice c.requires.settled c.requires.room c.write_body.ensures.same
    (c.write_body.ensures.firm ∙ sym c.requires.settled.firm) c.write_body.ensures.size c.write_body.ensures.left one two)

pub returns-clause-left : goal.returns-clause-left
returns-clause-left g c =
    let old = g.B.FlashBank.bank c.args.bank.now in
    let b = g.B.FlashBank.bank c.write_body.new.bank in
    let new = g.B.FlashBank.bank c.program.new.self in
    let body : BodyIs c.args.front old b c.args.cell c.args.slot c.args.octets.now = record {
      record_is = c.in_ok-write_body.ensures.record;
      fenced = c.in_ok-write_body.ensures.fence;
      same = c.in_ok-write_body.ensures.same;
      torn = c.in_ok-write_body.ensures.firm ∙ sym c.requires.settled.firm;
      size = c.in_ok-write_body.ensures.size;
    } in
    let p : Programs (mark c.args.front c.args.cell) 0 (is_ok c.program.result) b new = subst (λ (n : ℕ). Programs n 0 (is_ok c.program.result) b new)
    (ap (λ (n : ℕ). n +
    11) c.place_of.ensures) c.program.ensures.programs in
    on_err c.program.result (λ choice one two. left_at_mark c.args.front old b new c.args.cell c.args.slot c.args.octets.now choice _
    c.requires.settled c.requires.room body p one two)

pub returns-clause-records : goal.returns-clause-records
returns-clause-records g c =
    let old = g.B.FlashBank.bank c.args.bank.now in
    let b = g.B.FlashBank.bank c.write_body.new.bank in
    let new = g.B.FlashBank.bank c.program.new.self in
    let body : BodyIs c.args.front old b c.args.cell c.args.slot c.args.octets.now = record {
      record_is = c.in_ok-write_body.ensures.record;
      fenced = c.in_ok-write_body.ensures.fence;
      same = c.in_ok-write_body.ensures.same;
      torn = c.in_ok-write_body.ensures.firm ∙ sym c.requires.settled.firm;
      size = c.in_ok-write_body.ensures.size;
    } in
    let p : Programs (mark c.args.front c.args.cell) 0 (is_ok c.program.result) b new = subst (λ (n : ℕ). Programs n 0 (is_ok c.program.result) b new)
    (ap (λ (n : ℕ). n +
    11) c.place_of.ensures) c.program.ensures.programs in
    on_ok_of c.program.result (λ ok. records_marked c.args.front old b new c.args.cell c.args.slot c.args.octets.now c.requires.settled body
    (subst (λ (k : Bool). Programs (mark c.args.front c.args.cell) 0 k b new) ok p))

pub returns-clause-settled : goal.returns-clause-settled
returns-clause-settled g c =
    let old = g.B.FlashBank.bank c.args.bank.now in
    let b = g.B.FlashBank.bank c.write_body.new.bank in
    let new = g.B.FlashBank.bank c.program.new.self in
    let body : BodyIs c.args.front old b c.args.cell c.args.slot c.args.octets.now = record {
      record_is = c.in_ok-write_body.ensures.record;
      fenced = c.in_ok-write_body.ensures.fence;
      same = c.in_ok-write_body.ensures.same;
      torn = c.in_ok-write_body.ensures.firm ∙ sym c.requires.settled.firm;
      size = c.in_ok-write_body.ensures.size;
    } in
    let p : Programs (mark c.args.front c.args.cell) 0 (is_ok c.program.result) b new = subst (λ (n : ℕ). Programs n 0 (is_ok c.program.result) b new)
    (ap (λ (n : ℕ). n +
    11) c.place_of.ensures) c.program.ensures.programs in
    on_ok_of c.program.result (λ ok. settled_marked c.args.front old b new c.args.cell c.args.slot c.args.octets.now c.requires.settled c.requires.room body
    (subst (λ (k : Bool). Programs (mark c.args.front c.args.cell) 0 k b new) ok p))

pub returns-then-not-is_clean-clause-counts : goal.returns-then-not-is_clean-clause-counts
returns-then-not-is_clean-clause-counts g c =
    no_counts (g.B.FlashBank.bank c.args.bank.now) (place c.args.front c.args.cell) (place c.args.front c.args.cell + 12)

pub returns-in_err-write_body-clause-counts : goal.returns-in_err-write_body-clause-counts
returns-in_err-write_body-clause-counts g c =
    let k = c.args.cell in
    wider_counts (g.B.FlashBank.bank c.args.bank.now) (g.B.FlashBank.bank c.write_body.new.bank) (place c.args.front k) (mark c.args.front k)
    (place c.args.front k) (place c.args.front k + 12) (omega arith)
    (omega arith) c.write_body.ensures.counts

pub returns-clause-counts : goal.returns-clause-counts
returns-clause-counts g c =
    let k = c.args.cell in
    let a = g.B.FlashBank.bank c.args.bank.now in
    let b = g.B.FlashBank.bank c.write_body.new.bank in
    let e = g.B.FlashBank.bank c.program.new.self in
    then_counts a b e (place c.args.front k) (mark c.args.front k) (place c.args.front k + 12) (omega arith) (omega arith) c.write_body.ensures.counts
    (program_counts b e (c.place_of.result + 11) 0 (mark c.args.front k) (place c.args.front k + 12) (is_ok c.program.result)
    (omega (arith, c.place_of.ensures))
    (omega (arith, c.place_of.ensures)) c.program.ensures.programs)
