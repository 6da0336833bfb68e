use Rattle.std.proofs.Common.{◌≡◌, take}
use Rattle.std.specs.Prelude.{fold}
use Rattle.station_queues.specs.FirstEnd.{end_by}
use Rattle.station_queues.proofs.bodies.first_end.Given as goal

abbrev pub invariant-loop-body : goal.invariant-loop-body
invariant-loop-body l = l.end ≡ fold end_by l.time (take l.body-index l.body-items)
