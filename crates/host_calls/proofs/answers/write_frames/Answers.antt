use Rattle.std.proofs.Common.{◌+◌, drop, refl}
use Rattle.std.proofs.lemmas.Result.{err_from_is_err_and}
use Rattle.host_calls.specs.Answers.{frame_text, frames_text}
use Rattle.host_calls.proofs.WrittenTexts.{all, one_next, one_more, one_less}
use Rattle.host_calls.proofs.answers.write_frames.Goals as goal

pub returns-in_err-write_frame : goal.returns-in_err-write_frame
returns-in_err-write_frame g c =
    let p = err_from_is_err_and c.from_residual.result c.from_residual.ensures.1 in
    let front = c.loop-frame.invariant.front in
    rw p.1 (one_less p.0 front.0 (frame_text c.frame-item.result) (frames_text (drop c.loop-frame.frame-index c.args.frames.now)) _
    (frames_text c.args.frames.now) front.1 front.2
    (one_next frame_text frames_text (λ x rest. refl) c.args.frames.now c.loop-frame.frame-index c.frame-item.result c.loop-frame-test.true c.frame-item.is)
    c.in_err-write_frame.ensures)

pub loop-frame-preserved : goal.loop-frame-preserved
loop-frame-preserved g c =
    let front = c.loop-frame.invariant.front in
    record {
      front =
          one_more front.0 (frame_text c.frame-item.result) (frames_text (drop c.loop-frame.frame-index c.args.frames.now))
          (frames_text (drop (c.loop-frame.frame-index + 1) c.args.frames.now)) (frames_text c.args.frames.now) front.1 front.2
          (one_next frame_text frames_text (λ x rest. refl) c.args.frames.now c.loop-frame.frame-index c.frame-item.result c.loop-frame-test.true
          c.frame-item.is)
          (all c.in_ok-write_frame.ensures);
    }
