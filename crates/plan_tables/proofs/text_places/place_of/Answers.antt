use Rattle.std.proofs.Common.{◌∙◌, sym, subst, arith}
use Rattle.plan_tables.proofs.Lines.{found_feed, found_more}
use Rattle.plan_tables.specs.TextPlaces.{IsNumbered}
use Rattle.plan_tables.specs.declared.text_places.Step.{Step}
use Rattle.plan_tables.proofs.text_places.place_of.Goals as goal
use Rattle.plan_tables.proofs.text_places.place_of.Goals.{then-text-at-eq10+in_ok-step+in-More, else-text-at-eq10}

pub loop-at-preserved : goal.loop-at-preserved
loop-at-preserved c =
    let (low, _, numbered, so_far) = c.loop-at.invariant in
    let here = c.loop-at-test.true in
    elim c.if-text-at-eq10.branch [
      | then-text-at-eq10+in_ok-step+in-More w ↦
          let number = subst (λ (s : Step). IsNumbered c.loop-at.finder.number s) w.in-More.is w.in_ok-step.ensures.numbered in
          let made = sym w.in-More.is ∙ w.in_ok-step.ensures.value in
          let gone = found_feed c.as_bytes-name.result.now c.args.key.now c.args.text.now c.loop-at.finder w.in-More.next c.loop-at.start c.loop-at.at
          here w.if-text-at-eq10.true made in
          rw (w.start-is, w.finder-is) (omega arith, omega (arith, here), omega (arith, number, numbered), sym gone ∙ so_far)
      | else-text-at-eq10 w ↦
          let gone = found_more c.as_bytes-name.result.now c.args.key.now c.args.text.now c.loop-at.finder c.loop-at.start c.loop-at.at
          low here w.if-text-at-eq10.false in
          rw (w.start-is, w.finder-is) (omega (arith, low), omega (arith, here), omega (arith, numbered), sym gone ∙ so_far)
    ]
