-- A rank is looked up.
use Rattle.std.proofs.Common.{Option, false, ap, ◌∙◌}
use Rattle.std.specs.Prelude.{is_some}
use Rattle.routing_set.specs.declared.rank.Rank.{Rank}
use Rattle.routing_set.specs.RoutingSet as routing
use Rattle.line_world.proofs.LentStations.{halted_says, running_says}
use Rattle.line_world.proofs.nodes.station_steps.has_rank.Goals as goal

pub returns-then-halted : goal.returns-then-halted
returns-then-halted c = halted_says c.args.station.now.memory (λ l. is_some (routing.rank_of l.routing c.args.dest)) false c.if-halted.ensures

pub returns : goal.returns
returns c =
    running_says c.args.station.now.memory (λ t. is_some (routing.rank_of t c.args.dest)) c.routing.result.now false _ c.if-halted.ensures c.routing.ensures
    (c.is_some.ensures ∙ ap (λ (r : Option Rank). is_some r) c.rank.ensures)
