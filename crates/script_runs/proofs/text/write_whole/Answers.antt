use Rattle.script_runs.proofs.WrittenTexts.{wrote_all, wrote_part}
use Rattle.script_runs.proofs.text.write_whole.Goals as goal

pub returns-in-Ok : goal.returns-in-Ok
returns-in-Ok g c = wrote_all c.args.done c.in-Ok.ensures c.in-Ok.ensures.all

pub returns-in-Err : goal.returns-in-Err
returns-in-Err g c = wrote_part c.args.done c.in-Err.ensures c.in-Err.ensures.cause.failed
