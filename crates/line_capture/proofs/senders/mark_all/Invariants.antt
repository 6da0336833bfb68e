use Rattle.std.proofs.Common.{◌≡◌, drop}
use Rattle.line_capture.specs.Profiles.{marked_by}
use Rattle.line_capture.proofs.senders.mark_all.Given as goal

-- what comes of the frames to come
abbrev pub invariant-loop-frame : goal.invariant-loop-frame
invariant-loop-frame l = marked_by (drop l.frame-index l.frames) l.seen ≡ marked_by l.frames l.fn.seen
