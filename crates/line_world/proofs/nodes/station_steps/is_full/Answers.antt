-- The ranks are counted.
use Rattle.std.proofs.Common.{List, false, length, ap}
use Rattle.std.specs.Prelude.{nat_lt}
use Rattle.routing_set.specs.declared.entry.RoutingEntry.{RoutingEntry}
use Rattle.line_world.proofs.LentStations.{halted_says, running_says}
use Rattle.line_world.proofs.nodes.station_steps.is_full.Goals as goal

pub returns-then-halted : goal.returns-then-halted
returns-then-halted c = halted_says c.args.station.now.memory (λ l. nat_lt 63 (length l.routing.entries)) false c.if-halted.ensures

pub returns : goal.returns
returns c =
    running_says c.args.station.now.memory (λ t. nat_lt 63 (length t.entries)) c.routing.result.now false _ c.if-halted.ensures c.routing.ensures
    (ap (λ (es : List RoutingEntry). nat_lt 63 (length es)) c.entries.ensures.value)
