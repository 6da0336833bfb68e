use Rattle.std.proofs.Common.{◌≡◌, drop}
use Rattle.script_faults.specs.Runs.{row_of}
use Rattle.script_faults.proofs.run.row_of.Given as goal

-- what the other events answer is what all answer
abbrev pub invariant-loop-event : goal.invariant-loop-event
invariant-loop-event l = row_of l.wanted (drop l.event-index l.events) ≡ row_of l.wanted l.events
