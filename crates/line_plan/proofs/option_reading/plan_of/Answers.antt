use Rattle.line_plan.proofs.Lines.{text_wrong}
use Rattle.line_plan.proofs.option_reading.plan_of.Goals as goal

pub returns-in-Ok-table_from_str-clause-wrong : goal.returns-in-Ok-table_from_str-clause-wrong
returns-in-Ok-table_from_str-clause-wrong c =
    text_wrong c.args.text.now c.args.options.now _ _ c.plan_changed.result c.in-Ok.ensures.plan c.in-Ok-table_from_str.ensures.ok c.plan_changed.ensures.wrong
