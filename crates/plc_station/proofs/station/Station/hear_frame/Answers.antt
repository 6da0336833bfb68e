use Rattle.std.proofs.Common.{Err, ap, sym, ◌∙◌}
use Rattle.mesh_header.specs.Reader.{unit_in}
use Rattle.node_rules.specs.declared.refusal.Dropped.TheVariants.{BadUnit, Store}
use Rattle.node_rules.specs.HearingRules.{dropped}
use Rattle.plc_station.specs.StationViews.{station_in}
use Rattle.plc_station.proofs.CarriedPlans.{if_some, on_memory}
use Rattle.plc_station.proofs.SentReplies.{refusal_heard, rested_heard}
use Rattle.plc_station.proofs.HearingCases.{no_unit, unit_unjoined, up_none, up_some, down_none, down_some}
use Rattle.plc_station.proofs.station.Station.hear_frame.Goals as goal

pub returns-in_default-clause-hears : goal.returns-in_default-clause-hears
returns-in_default-clause-hears g c =
    if_some c.args.self.now.memory _ (λ l m. refusal_heard dropped c.args.self.now l BadUnit _ _ m
    (no_unit l c.args.got.now.path (unit_in c.args.got.now.payload) c.args.cost c.args.note c.args.now
    (c.in_default.ensures.unit ∙ ap unit_in c.payload.ensures.value)) c.requires.ready.empty c.requires.fresh)

pub returns-in_default-grant-clause-hears : goal.returns-in_default-grant-clause-hears
returns-in_default-grant-clause-hears g c =
    rw (← c.self.view_is) (on_memory c.self.inside.halted _ _
    (λ running. refusal_heard dropped _ (station_in c.self.inside.parts c.self.inside.bodies) BadUnit _ _ running
    (unit_unjoined (station_in c.self.inside.parts c.self.inside.bodies) c.args.got.now.path (unit_in c.args.got.now.payload) c.in-Some.unit c.in-Sealed.from
    c.in-Sealed.to_all c.in-Sealed.key c.args.cost c.args.note c.args.now (c.in-Some.ensures.unit ∙ ap unit_in c.payload.ensures.value)
    (sym c.in-Sealed.ensures)
    c.in_default-grant.ensures) c.requires.ready.empty (rw (← c.self.view_is) at c.requires.fresh)))

pub returns-in_default-joining_body-clause-hears : goal.returns-in_default-joining_body-clause-hears
returns-in_default-joining_body-clause-hears g c =
    if_some c.args.self.now.memory _ (λ l m. refusal_heard dropped c.args.self.now l BadUnit _ _ m
    (up_none l c.args.got.now.path (unit_in c.args.got.now.payload) c.in-Some.unit c.in-Up.from c.args.cost c.args.note c.args.now
    (c.in-Some.ensures.unit ∙ ap unit_in c.payload.ensures.value) (sym c.in-Up.ensures) c.in_default-joining_body.ensures) c.requires.ready.empty
    c.requires.fresh)

pub returns-in_default-joining_body-2-clause-hears : goal.returns-in_default-joining_body-2-clause-hears
returns-in_default-joining_body-2-clause-hears g c =
    if_some c.args.self.now.memory _ (λ l m. refusal_heard dropped c.args.self.now l BadUnit _ _ m
    (down_none l c.args.got.now.path (unit_in c.args.got.now.payload) c.in-Some.unit c.in-Down.from c.args.cost c.args.note c.args.now
    (c.in-Some.ensures.unit ∙ ap unit_in c.payload.ensures.value) (sym c.in-Down.ensures) c.in_default-joining_body-2.ensures) c.requires.ready.empty
    c.requires.fresh)

pub returns-in-Some-joining_body-clause-hears : goal.returns-in-Some-joining_body-clause-hears
returns-in-Some-joining_body-clause-hears g c =
    if_some c.args.self.now.memory _ (λ l m. rested_heard c.args.self.now l _ (Err Store) _ _ m
    (up_some l c.args.got.now.path (unit_in c.args.got.now.payload) c.in-Some.unit c.in-Up.from c.in-Some-joining_body.body c.args.cost c.args.note c.args.now
    (c.in-Some.ensures.unit ∙ ap unit_in c.payload.ensures.value) (sym c.in-Up.ensures) c.in-Some-joining_body.ensures) c.requires.ready.empty c.requires.fresh)

pub returns-in-Some-joining_body-2-clause-hears : goal.returns-in-Some-joining_body-2-clause-hears
returns-in-Some-joining_body-2-clause-hears g c =
    if_some c.args.self.now.memory _ (λ l m. rested_heard c.args.self.now l _ (Err Store) _ _ m
    (down_some l c.args.got.now.path (unit_in c.args.got.now.payload) c.in-Some.unit c.in-Down.from c.in-Some-joining_body-2.body c.args.cost c.args.note
    c.args.now (c.in-Some.ensures.unit ∙ ap unit_in c.payload.ensures.value) (sym c.in-Down.ensures) c.in-Some-joining_body-2.ensures) c.requires.ready.empty
    c.requires.fresh)
