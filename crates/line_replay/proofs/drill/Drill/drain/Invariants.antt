use Rattle.std.proofs.Common.{◌≡◌, ◌-◌}
use Rattle.line_events.specs.declared.event.TheConstants.{MAX_EVENTS}
use Rattle.line_replay.specs.Drills.{drain_within}
use Rattle.line_replay.proofs.drill.Drill.drain.Given as goal

abbrev pub invariant-loop-turn : goal.invariant-loop-turn
invariant-loop-turn l = drain_within (MAX_EVENTS - l.turn) l.meters l.self ≡ drain_within MAX_EVENTS l.meters l.fn.self
