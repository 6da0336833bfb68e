use Rattle.std.proofs.Common.{◌≡◌, ◌≤◌, ◌+◌, drop}
use Rattle.script_faults.specs.Runs.{neighbours}
use Rattle.script_faults.proofs.run.neighbours.Given as goal

abbrev pub invariant-loop-event : goal.invariant-loop-event
invariant-loop-event l = record {
  count : l.count + neighbours (drop l.event-index l.events) l.node ≡ neighbours l.events l.node;
  within : l.count ≤ l.event-index;
}
