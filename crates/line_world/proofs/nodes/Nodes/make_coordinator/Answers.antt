-- The coordinator is made.
use Rattle.line_world.proofs.NewCoordinators.{made, made_sound, may_begin}
use Rattle.line_world.proofs.NewMeters.{first_node}
use Rattle.line_world.proofs.nodes.Nodes.make_coordinator.Goals as goal

pub returns-clause-ok : goal.returns-clause-ok
returns-clause-ok c =
    first_node c.self.inside.coordinator c.self.inside.meters.items c.args.self.now c.in-Ok.coordinator _ c.self.view_is c.requires c.self.invariant
    (made c.in_ok-keeper.keeper c.args.eui c.args.key.now c.in-Ok.coordinator c.in_ok-keeper.ensures c.in-Ok.ensures.opened)

pub invariant_of-self : goal.invariant_of-self
invariant_of-self c =
    let may = may_begin c.in_ok-keeper.keeper c.args.eui c.args.key.now c.in-Ok.coordinator c.in_ok-keeper.ensures in
    record {
      coordinator = made_sound c.in_ok-keeper.keeper c.args.eui c.args.key.now c.in-Ok.coordinator c.in_ok-keeper.ensures
          c.in-Ok.ensures.opened c.in-Ok.ensures.running (c.in-Ok.ensures.holds may);
      meters = c.self.invariant.meters;
      begun = tt;
    }
