use Rattle.std.proofs.Common.{◌∙◌, ap}
use Rattle.flash_keeper.specs.Flash.{layout_in}
use Rattle.flash_keeper.proofs.OpeningLemmas.{no_layout, some_layout}
use Rattle.flash_keeper.proofs.bank.layout_of.Goals as goal

pub returns-then-head-clause-named : goal.returns-then-head-clause-named
returns-then-head-clause-named g c = λ firm word is.
    let e = c.read-head.ensures.firm firm word is in
    no_layout c.read-head.result c.if-head.true ∙ ap layout_in e

pub returns-clause-named : goal.returns-clause-named
returns-clause-named g c = λ firm word is.
    let e = c.read-head.ensures.firm firm word is in
    some_layout c.read-head.result c.if-head.false ∙ ap layout_in e
