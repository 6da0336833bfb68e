use Rattle.script_lines.proofs.Turned.{written_stop, written_short}
use Rattle.script_lines.proofs.text_output.stop.Goals as goal

pub returns-in-Ok-clause-stops : goal.returns-in-Ok-clause-stops
returns-in-Ok-clause-stops g c = λ t is. written_stop t c.in-Ok.field-0 (c.in-Ok.ensures.is_written t is)

pub returns-in-Err-clause-stops : goal.returns-in-Err-clause-stops
returns-in-Err-clause-stops g c = λ t is. written_short t c.in-Err.reason (c.in-Err.ensures.is_written t is)
