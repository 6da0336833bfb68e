use Rattle.std.proofs.Common.{◌≡◌, map, take}
use Rattle.line_simulation.specs.Turns.{time_of}
use Rattle.line_simulation.proofs.turns.times_of.Given as goal

abbrev pub invariant-loop-incident : goal.invariant-loop-incident
invariant-loop-incident l = l.times.items ≡ map time_of (take l.incident-index l.incidents)
