-- A meter is made.
use Rattle.std.proofs.Common.{subst, sym, List}
use Rattle.meter_node.specs.MeterStates.{MeterState}
use Rattle.line_world.specs.Soundness.{AreSound}
use Rattle.line_world.proofs.NewMeters.{Opened, made_meter, made_sound, node_made, sound_made}
use Rattle.line_world.proofs.nodes.Nodes.make_meter.Goals as goal

pub invariant_of-self : goal.invariant_of-self
invariant_of-self c =
    subst (λ (k : List MeterState). AreSound c.self.inside.coordinator k) (sym c.in_err-push.ensures.items) c.self.invariant

pub invariant_of-self-2 : goal.invariant_of-self-2
invariant_of-self-2 c =
    let made : Opened c.in_ok-keeper.keeper c.args.eui c.args.psk c.in-Ok.meter = record {
      keeper_is = c.in_ok-keeper.ensures;
      store = c.in-Ok.ensures.opened.0;
      eui = c.in-Ok.ensures.opened.1;
      psk = c.in-Ok.ensures.opened.2;
      memory = c.in-Ok.ensures.opened.3;
      agrees = c.in-Ok.ensures.agrees;
    } in
    made_sound c.self.inside.coordinator c.self.inside.meters.items c.push.new.self.items c.args.self.now c.in-Ok.meter c.self.view_is c.requires.begun
    c.in_ok-push.ensures.items
    c.self.invariant (sound_made c.in_ok-keeper.keeper c.args.eui c.args.psk c.in-Ok.meter made)

pub returns-clause-ok : goal.returns-clause-ok
returns-clause-ok c =
    let made : Opened c.in_ok-keeper.keeper c.args.eui c.args.psk c.in-Ok.meter = record {
      keeper_is = c.in_ok-keeper.ensures;
      store = c.in-Ok.ensures.opened.0;
      eui = c.in-Ok.ensures.opened.1;
      psk = c.in-Ok.ensures.opened.2;
      memory = c.in-Ok.ensures.opened.3;
      agrees = c.in-Ok.ensures.agrees;
    } in
    made_meter c.self.inside.coordinator c.self.inside.meters.items c.push.new.self.items c.args.self.now c.in-Ok.meter c.self.view_is c.requires.begun
    c.in_ok-push.ensures.items _
    (node_made c.in_ok-keeper.keeper c.args.eui c.args.psk c.in-Ok.meter made)
