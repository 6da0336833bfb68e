use Rattle.line_plan.proofs.Lines.{long_refused, no_text_refused, no_plan_of}
use Rattle.line_plan.proofs.option_reading.read_plan.Goals as goal

pub returns-in-Err-clause-refused : goal.returns-in-Err-clause-refused
returns-in-Err-clause-refused g c =
    no_plan_of _ _ c.args.options.now c.as_str.result.now c.in-Err.wrong c.no_plan-in-Err.result c.no_plan-in-Err.ensures
    (rw c.as_str.ensures.value c.in-Ok.ensures.whole) c.in-Err.ensures.wrong

pub returns-in-Err-Long-clause-refused : goal.returns-in-Err-Long-clause-refused
returns-in-Err-Long-clause-refused g c =
    long_refused (g.S.Source.state c.args.source.now) (g.S.Source.state c.read_text.new.source) c.args.options.now c.in-Err-Long.field-0
    c.in-Err-Long.place c.long_text.result c.no_plan.result (cc) c.no_plan.ensures c.in-Err-Long.ensures.refused c.long_text.ensures

pub returns-in-Err-Text-clause-refused : goal.returns-in-Err-Text-clause-refused
returns-in-Err-Text-clause-refused g c =
    no_text_refused (g.S.Source.state c.args.source.now) (g.S.Source.state c.read_text.new.source) c.args.options.now c.in-Err-Text.field-0
    c.in-Err-Text.place c.no_text.result c.no_plan-in-Err-Text.result (cc) c.no_plan-in-Err-Text.ensures c.in-Err-Text.ensures.refused c.no_text.ensures
