use Rattle.std.proofs.Common.{Result, sym, subst}
use Rattle.std.specs.Option.{option_map}
use Rattle.node_rules.specs.declared.heard.MeterHeard.{MeterHeard}
use Rattle.node_rules.specs.declared.refusal.Dropped.{Dropped}
use Rattle.node_rules.specs.CarriedPlans.{Carries}
use Rattle.node_rules.specs.Meters as meters
use Rattle.plc_station.proofs.CarriedPlans.{at_some}
use Rattle.meter_node.specs.Sessions.{session_of}
use Rattle.meter_node.specs.MeterStates.{MeterState, node_of, memory_with, identity_of}
use Rattle.meter_node.proofs.Carried.{on_node}
use Rattle.meter_node.proofs.HearingRules.{some_at, running_on, came, at_rest, heard_joining, heard_other, never_itself, replied_other}
use Rattle.meter_node.proofs.meter.Meter.hear.Goals as goal

pub hear_joining-requires-clause-ready : goal.hear_joining-requires-clause-ready
hear_joining-requires-clause-ready g c =
    record {
      running =
          let running = rw (← c.self.view_is) at c.requires.ready.running in
          let m = some_at c.self.inside.station.memory running in
          running_on m.0 c.args.got c.args.cost c.args.note c.args.now c.self.inside.station c.hear-heard.new.self c.hear-heard.result c.hear-heard.new.out
          (at_some _ _ m.0 m.1 c.hear-heard.ensures.carries)
          c.in-Some.command.way c.in-Some.command.body c.in-Some.ensures;
      agrees = c.hear-heard.ensures.agrees;
      empty =
          let running = rw (← c.self.view_is) at c.requires.ready.running in
          let m = some_at c.self.inside.station.memory running in
          (at_rest m.0 c.args.got c.args.cost c.args.note c.args.now c.self.inside.station c.hear-heard.new.self c.hear-heard.result c.hear-heard.new.out
          (at_some _ _ m.0 m.1 c.hear-heard.ensures.carries)
          c.in-Some.command.way c.in-Some.command.body c.in-Some.ensures).out_is;
    }

pub hear_joining-requires-clause-came : goal.hear_joining-requires-clause-came
hear_joining-requires-clause-came g c =
    let running = rw (← c.self.view_is) at c.requires.ready.running in
    let up = rw (← c.self.view_is) at c.requires.came in
    let m = some_at c.self.inside.station.memory running in
    came m.0 c.args.got c.args.cost c.args.note c.args.now c.self.inside.station c.hear-heard.new.self c.hear-heard.result c.hear-heard.new.out
    (at_some _ _ m.0 m.1 c.hear-heard.ensures.carries)
    c.in-Some.command.way c.in-Some.command.body c.in-Some.ensures (at_some _ _ m.0 m.1 up)

pub returns-in-Some-clause-carries : goal.returns-in-Some-clause-carries
returns-in-Some-clause-carries g c =
    let x : MeterState = record {
      station = c.self.inside.station;
      psk = c.self.inside.pair_key;
      randoms = c.self.inside.randoms;
      session = option_map session_of c.self.inside.session;
    } in
    rw (← c.self.view_is) (on_node x _ (λ l running.
    heard_joining x c.hear-heard.new.self l c.args.got c.args.cost c.args.note c.args.now c.hear-heard.result c.hear-heard.new.out running
    (at_some _ _ l running c.hear-heard.ensures.carries)
    c.hear_joining.new.self c.in-Some.command.way c.in-Some.command.body c.hear_joining.result c.hear_joining.new.out c.in-Some.ensures
    (rw c.octets.ensures at c.hear_joining.ensures.carries)))

pub returns-in-None-clause-carries : goal.returns-in-None-clause-carries
returns-in-None-clause-carries g c =
    let x : MeterState = record {
      station = c.self.inside.station;
      psk = c.self.inside.pair_key;
      randoms = c.self.inside.randoms;
      session = option_map session_of c.self.inside.session;
    } in
    rw (← c.self.view_is) (on_node x _ (λ l running.
    subst (λ (r : Result MeterHeard Dropped). Carries (node_of x) (meters.hear_meter (identity_of x) (memory_with x l) c.args.got c.args.cost c.args.note
    c.args.now) r c.hear-heard.new.out (node_of (record x { station = c.hear-heard.new.self })))
    (sym c.heard_by_station.ensures)
    (heard_other x c.hear-heard.new.self l c.args.got c.args.cost c.args.note c.args.now c.hear-heard.result c.hear-heard.new.out running
    (at_some _ _ l running c.hear-heard.ensures.carries) c.in-None.ensures)))

pub returns-in-Some-clause-replied : goal.returns-in-Some-clause-replied
returns-in-Some-clause-replied g c =
    let x : MeterState = record {
      station = c.self.inside.station;
      psk = c.self.inside.pair_key;
      randoms = c.self.inside.randoms;
      session = option_map session_of c.self.inside.session;
    } in
    rw (← c.self.view_is) (on_node x _ (λ l running none. absurd (
    never_itself x c.hear-heard.new.self l c.args.got c.args.cost c.args.note c.args.now c.hear-heard.result c.hear-heard.new.out running
    (at_some _ _ l running c.hear-heard.ensures.carries)
    c.in-Some.command.way c.in-Some.command.body c.in-Some.ensures none)))

pub returns-in-None-clause-replied : goal.returns-in-None-clause-replied
returns-in-None-clause-replied g c =
    let x : MeterState = record {
      station = c.self.inside.station;
      psk = c.self.inside.pair_key;
      randoms = c.self.inside.randoms;
      session = option_map session_of c.self.inside.session;
    } in
    rw (← c.self.view_is) (on_node x _ (λ l running none.
    replied_other x c.hear-heard.new.self l c.args.got c.args.cost c.args.note c.args.now c.hear-heard.result c.hear-heard.new.out running
    (at_some _ _ l running c.hear-heard.ensures.carries) c.in-None.ensures
    (at_some _ _ l running c.hear-heard.ensures.replied)))
