-- A neighbour is offered.
use Rattle.std.proofs.Common.{refl}
use Rattle.line_world.proofs.NodeActs.{if_none, not_none, not_some}
use Rattle.line_world.proofs.nodes.station_steps.offer_near.Goals as goal

pub returns-then-halted-clause-halted : goal.returns-then-halted-clause-halted
returns-then-halted-clause-halted c = if_none c.args.station.now.memory _ (refl, refl)

pub returns-then-halted-clause-carries : goal.returns-then-halted-clause-carries
returns-then-halted-clause-carries c = not_some c.args.station.now.memory _ c.if-halted.ensures

pub returns-clause-halted : goal.returns-clause-halted
returns-clause-halted c = not_none c.args.station.now.memory _ c.if-halted.ensures
