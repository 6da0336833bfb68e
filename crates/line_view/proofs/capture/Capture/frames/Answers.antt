use Rattle.std.proofs.Common.{ap, ◌∙◌}
use Rattle.line_view.specs.CaptureRuns.{CaptureRun, octets_of}
use Rattle.line_view.specs.declared.capture.Capture.TheInside.{Inside}
use Rattle.line_view.proofs.Captured.{frames_written}
use Rattle.line_view.proofs.capture.Capture.frames.Goals as goal

pub returns : goal.returns
returns c =
    frames_written c.args.heard c.args.self.now c.args.remark.now c.in_ok-file.file.items _ _ _ _ _ c.in_ok-file.ensures.file
    c.recording-recording.ensures.totals c.recording-recording.ensures.euis c.recording-recording.ensures.run
    (c.as_slice-2.ensures.value ∙ c.in_ok-octets.ensures.octets ∙ ap (λ (i : Inside). octets_of i.run.world) c.self-inside.view_is
    ∙ ap (λ (m : CaptureRun). octets_of m.run.world) c.self.view_is)
    (c.as_slice-3.ensures.value ∙ c.in_ok-injected.ensures.octets ∙ ap (λ (i : Inside). i.injected.strings) c.self-inside.view_is
    ∙ ap (λ (m : CaptureRun). m.injected) c.self.view_is)
