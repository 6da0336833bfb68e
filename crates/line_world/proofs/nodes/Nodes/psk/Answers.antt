-- What is found of a meter.
use Rattle.std.proofs.Common.{Some, sym, ap}
use Rattle.line_world.proofs.NumberedNodes.{found_at, meter_at}
use Rattle.line_world.proofs.nodes.Nodes.psk.Goals as goal

pub returns : goal.returns
returns c =
    let at = meter_at c.self.inside.coordinator c.self.inside.meters.items _ c.args.number c.index.result.now c.self.view_is c.self.invariant c.requires.meter
    c.requires.there c.index.ensures in
    found_at at _ (ap (λ k. Some k) (sym c.psk.ensures))
