-- What the nodes hold has room in their stores.
use Rattle.std.proofs.Common.{List, subst}
use Rattle.std.specs.Prelude.{All}
use Rattle.node_rules.specs.Memory.{Node}
use Rattle.line_world.specs.Soundness.{IsBelow, IsShort}
use Rattle.line_world.proofs.Storable.{is_below, is_short, nodes_are}
use Rattle.line_world.proofs.nodes.Nodes.short_tables.Goals as goal

pub returns-clause-tables : goal.returns-clause-tables
returns-clause-tables c =
    subst (λ (ns : List Node). All IsShort ns) c.self.view_is (nodes_are IsShort is_short c.self.inside.coordinator c.self.inside.meters.items c.self.invariant)

pub returns-clause-counters : goal.returns-clause-counters
returns-clause-counters c =
    subst (λ (ns : List Node). All IsBelow ns) c.self.view_is (nodes_are IsBelow is_below c.self.inside.coordinator c.self.inside.meters.items c.self.invariant)
