-- The address of a node.
use Rattle.std.proofs.Common.{arith}
use Rattle.line_world.proofs.NumberedNodes.{coordinator_at, found_at, found_its, meter_at}
use Rattle.line_world.proofs.Places.{address_is}
use Rattle.line_world.proofs.nodes.Nodes.address.Goals as goal

pub returns-then-number-gt0 : goal.returns-then-number-gt0
returns-then-number-gt0 c =
    let at = meter_at c.self.inside.coordinator c.self.inside.meters.items _ c.args.number c.index.result.now c.self.view_is c.self.invariant
    c.if-number-gt0.true
    c.requires.there c.index.ensures in
    found_at at _ (address_is c.index.result.now _ c.address.ensures)

pub returns : goal.returns
returns c =
    let at = coordinator_at c.self.inside.coordinator c.self.inside.meters.items _ c.args.number c.in-Some.coordinator c.self.view_is c.self.invariant
    c.in-Some.is (omega (arith, c.if-number-gt0.false)) in
    found_its at _ c.address-2.ensures
