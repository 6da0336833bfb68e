use Rattle.std.proofs.Common.{◌∙◌, inl, inr, refl, sym, arith}
use Rattle.std.specs.FinMap.{insert}
use Rattle.flash_keeper.specs.Log.{upto, Choice}
use Rattle.flash_keeper.proofs.Outcomes.{on_err}
use Rattle.flash_keeper.proofs.BankLemmas.{front_of_cells, held_beside_dead, numbered-same}
use Rattle.flash_keeper.proofs.WearLemmas.{put_keeps, worn_more, put_is_worn}
use Rattle.flash_keeper.proofs.pair.Pair.append.Goals as goal

pub returns-in_err-write_cell-clause-held : goal.returns-in_err-write_cell-clause-held
returns-in_err-write_cell-clause-held g c =
    let old = g.B.FlashBank.bank c.args.self.now.live in
    let new = g.B.FlashBank.bank c.write_cell.new.bank in
    let n = c.args.self.now.next in
    let choice : Choice = record {
      old = upto c.args.self.now.front old.words n;
      new = insert (upto c.args.self.now.front old.words n) c.args.slot c.args.octets.now;
    } in
    on_err c.from_residual.result ((held_beside_dead c.args.self.now.front new (g.B.FlashBank.bank c.args.self.now.spare) n c.args.self.now.copied choice
    (c.write_cell.ensures.size ∙ c.requires.ready.sizes)
    (numbered-same old new (c.write_cell.ensures.firm ∙ sym c.requires.ready.number.firm) (c.write_cell.ensures.same 1 (inl (omega arith)))
    c.requires.ready.number)
    (c.write_cell.ensures.same 2 (inl (omega arith)) ∙ c.requires.ready.mark) (c.in_err-write_cell.ensures.left choice (inl refl) (inr refl))
    c.requires.ready.beside c.requires.fresh).0)

pub returns-in_err-write_cell-clause-found : goal.returns-in_err-write_cell-clause-found
returns-in_err-write_cell-clause-found g c =
    let old = g.B.FlashBank.bank c.args.self.now.live in
    let n = c.args.self.now.next in
    let choice : Choice = record {
      old = upto c.args.self.now.front old.words n;
      new = insert (upto c.args.self.now.front old.words n) c.args.slot c.args.octets.now;
    } in
    on_err c.from_residual.result (c.in_err-write_cell.ensures.left choice (inl refl) (inr refl)).stands_next

pub returns-in_err-write_cell-clause-same : goal.returns-in_err-write_cell-clause-same
returns-in_err-write_cell-clause-same g c =
    on_err c.from_residual.result (front_of_cells c.args.self.now.front (g.B.FlashBank.bank c.args.self.now.live) (g.B.FlashBank.bank c.write_cell.new.bank)
    c.args.self.now.next
    c.requires.ready.log.has_front c.write_cell.ensures.same)

pub returns-in_err-write_cell-clause-cut : goal.returns-in_err-write_cell-clause-cut
returns-in_err-write_cell-clause-cut g c =
    let old = g.B.FlashBank.bank c.args.self.now.live in
    let new = g.B.FlashBank.bank c.write_cell.new.bank in
    on_err c.from_residual.result (λ f is. (
      worn_more c.args.self.now.front f old new (g.B.FlashBank.bank c.args.self.now.spare)
          (put_keeps c.args.self.now.front old new c.args.self.now.next c.requires.ready.log c.write_cell.ensures.same c.write_cell.ensures.size)
          c.write_cell.ensures.counts.once is,
      inl c.requires.ready.beside,
    ))

pub returns-clause-worn : goal.returns-clause-worn
returns-clause-worn g c = λ f is.
    put_is_worn c.args.self.now.front f c.args.self.now.next (g.B.FlashBank.bank c.args.self.now.live) (g.B.FlashBank.bank c.write_cell.new.bank)
    (g.B.FlashBank.bank c.args.self.now.spare)
    c.requires.ready.log c.in_ok-write_cell.ensures.settled c.requires.room c.write_cell.ensures.same c.write_cell.ensures.size c.write_cell.ensures.counts is
