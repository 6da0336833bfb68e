use Rattle.std.proofs.Common.{string_bytes}
use Rattle.line_script.specs.declared.report.Reason.TheVariants as reasons
use Rattle.line_view.specs.CheckRuns.{Tells, input_finding}
use Rattle.line_view.proofs.Turns.{turned_stop, unwritten}
use Rattle.line_view.proofs.check.Check.take_too_much.Goals as goal

pub returns-in_default : goal.returns-in_default
returns-in_default g c = unwritten (g.K.Sink.state c.args.sink.now) c.args.self.now c.look_at_too_much.new.self _

pub returns : goal.returns
returns g c =
    rw (← c.self.view_is) (turned_stop (string_bytes c.clear.new.self) (string_bytes c.look_at_too_much.new.text) c.as_str.result.now
    c.self.inside.checker c.look_at_too_much.new.self c.args.number (Tells reasons.Input input_finding) c.write_made.result c.clear.ensures.bytes
    c.as_str.ensures.value c.in-Ok.ensures c.write_made.ensures.is_written c.bad_line.result c.bad_line.ensures)
