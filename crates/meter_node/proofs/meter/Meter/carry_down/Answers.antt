use Rattle.std.proofs.Common.{[], ◌∷◌, ◌++◌, sym, ap, refl, ◌∙◌}
use Rattle.std.specs.Option.{option_map}
use Rattle.node_rules.specs.HearingRules.{dropped}
use Rattle.node_rules.specs.Meters as meters
use Rattle.node_rules.specs.Ciphers.{network}
use Rattle.node_rules.specs.Frames.{Down, spelled}
use Rattle.node_rules.specs.declared.heard.MeterHeard.TheVariants as heard
use Rattle.node_rules.specs.declared.refusal.Dropped.TheVariants.{BadUnit}
use Rattle.plc_station.proofs.CarriedPlans.{at_some}
use Rattle.meter_node.specs.Sessions.{session_of}
use Rattle.meter_node.specs.MeterStates.{memory_with}
use Rattle.meter_node.proofs.Carried.{on_node, refuses, changes}
use Rattle.meter_node.proofs.MeterRules.{carries_down, not_carried, carried_without}
use Rattle.meter_node.proofs.meter.Meter.carry_down.Goals as goal

pub returns-in_default-clause-carries : goal.returns-in_default-clause-carries
returns-in_default-clause-carries g c =
    rw (← c.self.view_is) (on_node (record {
      station = c.self.inside.station;
      psk = c.self.inside.pair_key;
      randoms = c.self.inside.randoms;
      session = option_map session_of c.self.inside.session;
    }) _ (λ l running.
    refuses dropped (record {
      station = c.self.inside.station;
      psk = c.self.inside.pair_key;
      randoms = c.self.inside.randoms;
      session = option_map session_of c.self.inside.session;
    }) (record {
      station = c.self.inside.station;
      psk = c.self.inside.pair_key;
      randoms = c.self.inside.randoms;
      session = option_map session_of c.self.inside.session;
    }) l BadUnit (meters.carry_down (memory_with (record {
      station = c.self.inside.station;
      psk = c.self.inside.pair_key;
      randoms = c.self.inside.randoms;
      session = option_map session_of c.self.inside.session;
    }) l) c.args.join.now c.args.join.now.body) c.args.out.now running refl
    (carried_without (record {
      station = c.self.inside.station;
      psk = c.self.inside.pair_key;
      randoms = c.self.inside.randoms;
      session = option_map session_of c.self.inside.session;
    }) l c.args.join.now c.args.join.now.body (c.in_default.ensures ∙ ap (option_map (λ g. g.address)) (at_some _ _ l running c.ring.ensures)))
    c.requires.ready.empty))

pub returns-then-not-goes_down-clause-carries : goal.returns-then-not-goes_down-clause-carries
returns-then-not-goes_down-clause-carries g c =
    rw (← c.self.view_is) (on_node (record {
      station = c.self.inside.station;
      psk = c.self.inside.pair_key;
      randoms = c.self.inside.randoms;
      session = option_map session_of c.self.inside.session;
    }) _ (λ l running.
    refuses dropped (record {
      station = c.self.inside.station;
      psk = c.self.inside.pair_key;
      randoms = c.self.inside.randoms;
      session = option_map session_of c.self.inside.session;
    }) (record {
      station = c.self.inside.station;
      psk = c.self.inside.pair_key;
      randoms = c.self.inside.randoms;
      session = option_map session_of c.self.inside.session;
    }) l BadUnit (meters.carry_down (memory_with (record {
      station = c.self.inside.station;
      psk = c.self.inside.pair_key;
      randoms = c.self.inside.randoms;
      session = option_map session_of c.self.inside.session;
    }) l) c.args.join.now c.args.join.now.body) c.args.out.now running refl
    (not_carried (record {
      station = c.self.inside.station;
      psk = c.self.inside.pair_key;
      randoms = c.self.inside.randoms;
      session = option_map session_of c.self.inside.session;
    }) l c.args.join.now c.args.join.now.body (sym c.if-not-goes_down.ensures)) c.requires.ready.empty))

pub returns-clause-carries : goal.returns-clause-carries
returns-clause-carries g c =
    rw (← c.self.view_is) (on_node (record {
      station = c.self.inside.station;
      psk = c.self.inside.pair_key;
      randoms = c.self.inside.randoms;
      session = option_map session_of c.self.inside.session;
    }) _ (λ l running.
    changes dropped (record {
      station = c.self.inside.station;
      psk = c.self.inside.pair_key;
      randoms = c.self.inside.randoms;
      session = option_map session_of c.self.inside.session;
    }) (record {
      station = c.self.inside.station;
      psk = c.self.inside.pair_key;
      randoms = c.self.inside.randoms;
      session = option_map session_of c.self.inside.session;
    }) l (Down c.in-Some.own c.args.join.now
    ∷ []) heard.Carried (meters.carry_down (memory_with (record {
      station = c.self.inside.station;
      psk = c.self.inside.pair_key;
      randoms = c.self.inside.randoms;
      session = option_map session_of c.self.inside.session;
    }) l) c.args.join.now c.args.join.now.body) _ running (rw (← c.self.view_is) at c.requires.ready.agrees) refl
    (carries_down (record {
      station = c.self.inside.station;
      psk = c.self.inside.pair_key;
      randoms = c.self.inside.randoms;
      session = option_map session_of c.self.inside.session;
    }) l c.args.join.now c.in-Some.own c.args.join.now.body (c.in-Some.ensures ∙ ap (option_map (λ g. g.address)) (at_some _ _ l running c.ring.ensures))
    (sym c.if-not-goes_down.ensures))
    (c.push_down.ensures ∙ (λ i. record {
      frames = (c.requires.ready.empty i).frames ++ spelled network (Down c.in-Some.own c.args.join.now) ∷ [];
      tags = (c.requires.ready.empty i).tags;
    }))))
