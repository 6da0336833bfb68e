use Rattle.std.proofs.Common.{◌+◌, ◌-◌, ◌<◌, ◌||◌, Bool}
use Rattle.std.proofs.Common.{sym, ap, ◌∙◌, arith}
use Rattle.flash_keeper.specs.Log.{holds_later}
use Rattle.flash_keeper.proofs.CopyLemmas.{holds_later-suc, holds_later-end}
use Rattle.flash_keeper.proofs.cells.is_replaced.Goals as goal

pub returns-then-is_of : goal.returns-then-is_of
returns-then-is_of g c =
    let words = (g.B.FlashBank.bank c.args.bank.now).words in
    let later = c.loop-later.later in
    let less : later < c.args.cells = omega (arith, c.loop-later-test.true) in
    sym (c.loop-later.invariant.same ∙ holds_later-suc c.args.front words later c.args.cells c.args.slot less
    ∙ ap (λ (b : Bool). b || holds_later c.args.front words (later + 1) (c.args.cells - (later + 1)) c.args.slot) (sym c.is_of.ensures ∙ c.if-is_of.true))

pub loop-later-preserved : goal.loop-later-preserved
loop-later-preserved g c =
    let words = (g.B.FlashBank.bank c.args.bank.now).words in
    let later = c.loop-later.later in
    let less : later < c.args.cells = omega (arith, c.loop-later-test.true) in
    record {
      same = c.loop-later.invariant.same ∙ holds_later-suc c.args.front words later c.args.cells c.args.slot less
          ∙ ap (λ (b : Bool). b || holds_later c.args.front words (later + 1) (c.args.cells - (later + 1)) c.args.slot)
          (sym c.is_of.ensures ∙ c.if-is_of.false);
      below = omega (arith, less);
    }

pub returns : goal.returns
returns g c =
    let words = (g.B.FlashBank.bank c.args.bank.now).words in
    let later = c.loop-later.later in
    sym (c.loop-later.invariant.same ∙ holds_later-end c.args.front words later c.args.cells c.args.slot (omega (arith, c.loop-later-test.false)))
