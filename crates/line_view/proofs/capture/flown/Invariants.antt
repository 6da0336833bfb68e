use Rattle.std.proofs.Common.{◌≡◌, take}
use Rattle.std.specs.Prelude.{All}
use Rattle.line_capture.specs.Captures.{IsFrame}
use Rattle.line_view.specs.CaptureRuns.{octets_of}
use Rattle.line_view.proofs.capture.flown.Given as goal

abbrev pub invariant-loop-i : goal.invariant-loop-i
invariant-loop-i l = record { octets : l.list.items ≡ take l.i (octets_of l.world); frames : All IsFrame l.list.items }
