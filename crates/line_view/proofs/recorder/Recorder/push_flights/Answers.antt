use Rattle.line_view.proofs.Recorded.{one_more}
use Rattle.line_view.proofs.recorder.Recorder.push_flights.Goals as goal

pub loop-i-preserved : goal.loop-i-preserved
loop-i-preserved c =
    one_more c.args.before c.loop-i.i c.args.self.now _ c.push_flight.new.self c.loop-i.invariant c.in_ok-push_flight.ensures
