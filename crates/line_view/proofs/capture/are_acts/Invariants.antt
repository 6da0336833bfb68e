use Rattle.std.proofs.Common.{take}
use Rattle.std.specs.Prelude.{All}
use Rattle.line_capture.specs.Places.{HasAct}
use Rattle.line_view.proofs.capture.are_acts.Given as goal

abbrev pub invariant-loop-recorded : goal.invariant-loop-recorded
invariant-loop-recorded l = All HasAct (take l.recorded-index l.events)
