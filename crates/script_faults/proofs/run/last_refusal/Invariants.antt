use Rattle.std.proofs.Common.{◌≡◌, drop}
use Rattle.script_faults.specs.Runs.{refusal_from}
use Rattle.script_faults.proofs.run.last_refusal.Given as goal

abbrev pub invariant-loop-event : goal.invariant-loop-event
invariant-loop-event l = record {
  at : l.at ≡ l.event-index;
  rest : refusal_from l.at l.last (drop l.event-index l.events) ≡ refusal_from 0 0 l.events;
}
