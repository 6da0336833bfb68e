use Rattle.std.proofs.Common.{◌≡◌, List, ℕ, ◌++◌, drop}
use Rattle.host_calls.proofs.WrittenTexts.{Wrote}
use Rattle.host_calls.specs.Answers.{frames_text}
use Rattle.host_calls.proofs.answers.write_frames.Given as goal

-- the frames so far were written, and the others are to come
abbrev pub invariant-loop-frame : goal.invariant-loop-frame
invariant-loop-frame g l = record {
  front : (front : List ℕ) × Wrote (g.K.Sink.state l.fn.sink) (g.K.Sink.state l.sink) front
      × (frames_text l.frames ≡ front ++ frames_text (drop l.frame-index l.frames));
}
