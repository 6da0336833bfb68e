use Rattle.std.proofs.Common.{◌≡◌, ◌≤◌, length, take}
use Rattle.station_queues.specs.Expiring.{notes_of_old}
use Rattle.station_queues.proofs.bodies.notes_of_ended.Given as goal

abbrev pub invariant-loop-body : goal.invariant-loop-body
invariant-loop-body l = record {
  notes : l.notes.items ≡ notes_of_old l.now (take l.body-index l.body-items);
  few : length l.notes.items ≤ l.body-index;
}
