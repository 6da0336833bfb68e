use Rattle.std.proofs.Common.{◌+◌, ◌++◌, arith}
use Rattle.line_script.specs.Texts.{happened_text}
use Rattle.line_replay.specs.Texts.{sent_text}
use Rattle.line_replay.proofs.EventTurns.{event_taken, made_so}
use Rattle.line_replay.proofs.replay.Player.take_event.Goals as goal

pub returns : goal.returns
returns g c =
    rw (← c.self.view_is) (event_taken
    c.self.inside.quiet
    c.args.number
    c.counts-taken.result.events
    c.self.inside.world
    c.step.new.self
    c.args.event.now
    c.in-Ok.happenings
    c.write_made.result
    c.counts-taken.ensures.events
    (omega arith)
    c.in-Ok.ensures.step
    (c.write_made.ensures.is_written (happened_text (c.counts-taken.result.events + 1) c.args.event.now c.in-Ok.happenings
    ++ sent_text c.self.inside.quiet c.step.new.self c.in-Ok.happenings.first_flight)
    (made_so c.push_entry-made.result _ c.as_str.ensures.value c.clear.ensures.bytes c.push_entry-made.ensures)))
