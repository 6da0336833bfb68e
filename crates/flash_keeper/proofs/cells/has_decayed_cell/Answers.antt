use Rattle.std.proofs.Common.{◌≡◌, inl, inr, ℕ, subst, arith}
use Rattle.std.proofs.lemmas.Bool.{cases_lt}
use Rattle.flash_keeper.specs.Log.{IsDecayedCell}
use Rattle.flash_keeper.proofs.OpeningLemmas.{never_decayed, true_is_false}
use Rattle.flash_keeper.proofs.cells.has_decayed_cell.Goals as goal

pub loop-cell-preserved : goal.loop-cell-preserved
loop-cell-preserved g c =
    let bank = g.B.FlashBank.bank c.args.bank.now in
    let cell = c.loop-cell.cell in
    record {
      fine = λ k le decayed. elim (cases_lt k cell) [
        | inl before ↦ c.loop-cell.invariant.fine k before decayed
        | inr from ↦ (let here : k ≡ cell = omega (arith, le, from) in
            true_is_false c.is_decayed.result (c.is_decayed.ensures.decayed (subst (λ (n : ℕ). IsDecayedCell c.args.front bank.words n) here decayed))
            c.if-is_decayed.false)
      ];
      below = omega (arith, c.loop-cell-test.true);
    }

pub returns-then-is_decayed-clause-left : goal.returns-then-is_decayed-clause-left
returns-then-is_decayed-clause-left g c = λ is n choice left.
    never_decayed c.args.front (g.B.FlashBank.bank c.args.bank.now) n c.loop-cell.cell choice c.is_decayed.result left c.if-is_decayed.true
    c.is_decayed.ensures.whole c.is_decayed.ensures.unmarked

pub returns-clause-decayed : goal.returns-clause-decayed
returns-clause-decayed g c = λ is k less decayed. c.loop-cell.invariant.fine k (omega (
  arith,
  less,
  c.loop-cell-test.false,
  c.cell_count-count.ensures,
)) decayed
