use Rattle.line_plan.proofs.Lines.{option_refused, changed_wrong}
use Rattle.line_plan.proofs.option_reading.plan_changed.Goals as goal

pub returns-in-Err-clause-wrong : goal.returns-in-Err-clause-wrong
returns-in-Err-clause-wrong c = option_refused _ c.args.options.now c.in-Err.fault c.wrong_option.result c.in-Err.ensures c.wrong_option.ensures

pub returns-in-Ok-Err-clause-wrong : goal.returns-in-Ok-Err-clause-wrong
returns-in-Ok-Err-clause-wrong c =
    changed_wrong _ _ c.args.options.now c.in-Ok-Err.cause c.wrong_with_options.result c.in-Ok.ensures
    (rw c.in-Ok-Err.field-0-is at c.in-Ok-Err.ensures) c.wrong_with_options.ensures
