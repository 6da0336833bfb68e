use Rattle.std.proofs.Common.{◌≡◌, ℕ, ◌+◌, ◌-◌, Bool, cond, List}
use Rattle.std.proofs.Common.{Some, sym, ap, ◌∙◌, arith}
use Rattle.std.specs.FinMap as map
use Rattle.flash_keeper.specs.Records.{octets_at}
use Rattle.flash_keeper.specs.Log.{upto, place}
use Rattle.flash_keeper.proofs.CopyLemmas.{get_upto, get_upto-zero}
use Rattle.flash_keeper.proofs.cells.find.Goals as goal

pub returns-then-is_of : goal.returns-then-is_of
returns-then-is_of g c =
    let words = (g.B.FlashBank.bank c.args.bank.now).words in
    let k : ℕ = c.loop-cell.cell - 1 in
    let next : c.loop-cell.cell ≡ k + 1 = omega (arith, c.loop-cell-test.true) in
    ap (λ (o : List ℕ). Some o) (c.record_of.ensures.value ∙ ap (λ (at : ℕ). octets_at words at 8) c.place_of.ensures)
    ∙ sym (c.loop-cell.invariant.same ∙ ap (λ (n : ℕ). map.get (upto c.args.front words n) c.args.slot) next ∙ get_upto c.args.front words k c.args.slot
    ∙ ap (λ (b : Bool). cond b (Some (octets_at words (place c.args.front k) 8)) (map.get (upto c.args.front words k) c.args.slot))
    (sym c.is_of.ensures ∙ c.if-is_of.true))

pub loop-cell-preserved : goal.loop-cell-preserved
loop-cell-preserved g c =
    let words = (g.B.FlashBank.bank c.args.bank.now).words in
    let k : ℕ = c.loop-cell.cell - 1 in
    let next : c.loop-cell.cell ≡ k + 1 = omega (arith, c.loop-cell-test.true) in
    record {
      same = c.loop-cell.invariant.same ∙ ap (λ (n : ℕ). map.get (upto c.args.front words n) c.args.slot) next ∙ get_upto c.args.front words k c.args.slot
          ∙ ap (λ (b : Bool). cond b (Some (octets_at words (place c.args.front k) 8)) (map.get (upto c.args.front words k) c.args.slot))
          (sym c.is_of.ensures ∙ c.if-is_of.false);
      below = omega (arith, c.loop-cell.invariant.below);
    }

pub returns : goal.returns
returns g c =
    let words = (g.B.FlashBank.bank c.args.bank.now).words in
    let none : c.loop-cell.cell ≡ 0 = omega (arith, c.loop-cell-test.false) in
    c.find_in_front.ensures ∙ sym (c.loop-cell.invariant.same ∙ ap (λ (n : ℕ). map.get (upto c.args.front words n) c.args.slot) none
    ∙ get_upto-zero c.args.front words c.args.slot)
