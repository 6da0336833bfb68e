use Rattle.line_view.proofs.Captured.{flight_more}
use Rattle.line_view.proofs.capture.flown.Goals as goal

pub loop-i-preserved : goal.loop-i-preserved
loop-i-preserved c =
    record {
      octets = flight_more c.args.world.now _ _ _ c.loop-i.i c.loop-i.invariant.octets c.flight.ensures c.in_ok-push_frame.ensures.octets;
      frames = c.in_ok-push_frame.ensures.frames c.loop-i.invariant.frames;
    }
