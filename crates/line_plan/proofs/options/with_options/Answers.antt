use Rattle.std.proofs.Common.{sym, ◌∙◌}
use Rattle.line_plan.proofs.Members.{one_more, all_done}
use Rattle.line_plan.proofs.options.with_options.Goals as goal

pub loop-nth-preserved : goal.loop-nth-preserved
loop-nth-preserved c =
    sym (one_more c.args.options.now c.loop-nth.nth _ _ _ _ _ _ c.index-options-nth.is c.index-options-nth-in-loop-nth.is c.as_str-name.ensures.value
    c.as_str-word.ensures.value c.loop-nth-test.true c.in-Ok.ensures)
    ∙ c.loop-nth.invariant

pub returns : goal.returns
returns c = sym c.loop-nth.invariant ∙ all_done c.args.options.now c.loop-nth.nth _ c.loop-nth-test.false
