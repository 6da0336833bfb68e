use Rattle.std.proofs.Common.{◌≡◌, ◌∙◌, sym, ap, refl, arith}
use Rattle.flash_keeper.specs.Log.{kept}
use Rattle.flash_keeper.proofs.CopyLemmas.{kept-zero, kept-all}
use Rattle.flash_keeper.proofs.copy.copy_cells.Goals as goal

pub loop-cell-init : goal.loop-cell-init
loop-cell-init g c = record {
  growing = c.requires.growing;
  records = c.requires.records ∙ sym (kept-zero c.args.front (g.B.FlashBank.bank c.args.from.now).words c.args.cells);
  room = omega (arith, c.requires.room);
  heads = λ i le. refl;
  firm = c.requires.growing.firm;
  size = refl;
  below = omega arith;
}

pub returns-clause-records : goal.returns-clause-records
returns-clause-records g c =
    let words = (g.B.FlashBank.bank c.args.from.now).words in
    let all : c.loop-cell.cell ≡ c.args.cells = omega (arith, c.loop-cell-test.false, c.loop-cell.invariant.below) in
    c.loop-cell.invariant.records ∙ ap (kept c.args.front words c.args.cells) all ∙ kept-all c.args.front words c.args.cells
