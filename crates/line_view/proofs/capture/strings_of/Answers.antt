use Rattle.line_view.proofs.Captured.{string_more}
use Rattle.line_view.proofs.capture.strings_of.Goals as goal

pub loop-place-preserved : goal.loop-place-preserved
loop-place-preserved c =
    record {
      octets = string_more c.args.log.now.strings _ _ _ c.loop-place.place c.loop-place.invariant.octets c.get.ensures c.in_ok-push_frame.ensures.octets;
      frames = c.in_ok-push_frame.ensures.frames c.loop-place.invariant.frames;
    }
