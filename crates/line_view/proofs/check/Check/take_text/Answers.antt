use Rattle.std.proofs.Common.{string_bytes}
use Rattle.line_view.specs.CheckRuns.{text_look}
use Rattle.line_view.proofs.Turns.{turned, unwritten}
use Rattle.line_view.proofs.check.Check.take_text.Goals as goal

pub returns-in_default : goal.returns-in_default
returns-in_default g c = unwritten (g.K.Sink.state c.args.sink.now) c.args.self.now c.look.new.self _

pub returns : goal.returns
returns g c =
    rw (← c.self.view_is) (turned (string_bytes c.clear.new.self) (string_bytes c.look.new.text) c.as_str.result.now c.self.inside.checker
    c.look.new.self c.args.number c.args.line.now (text_look c.self.inside.checker c.args.line.now) c.write_made.result c.clear.ensures.bytes
    c.as_str.ensures.value
    c.in-Ok.ensures c.write_made.ensures.is_written)
