use Rattle.std.proofs.Common.{inl, inr, arith}
use Rattle.std.proofs.lemmas.Bool.{cases_lt}
use Rattle.flash_keeper.proofs.ModelLemmas.{shown_past, counted_past}
use Rattle.flash_keeper.proofs.model_flash.ModelFlash.blank.Goals as goal

pub returns-clause-blank : goal.returns-clause-blank
returns-clause-blank c = λ i. elim (cases_lt i c.loop-at.at) [
  | inl less ↦ c.loop-at.invariant.blank i less
  | inr past ↦ shown_past c.loop-at.self.words.items i (omega (arith, past, c.loop-at-test.false))
]

pub returns-clause-fresh : goal.returns-clause-fresh
returns-clause-fresh c = λ i. elim (cases_lt i c.loop-at.at) [
  | inl less ↦ c.loop-at.invariant.fresh i less
  | inr past ↦ counted_past c.loop-at.self.words.items i (omega (arith, past, c.loop-at-test.false))
]
