use Rattle.std.proofs.Common.{◌∷◌, [], ◌++◌, length, refl, ap, ◌∙◌}
use Rattle.store_tables.proofs.WritesLemmas.{wrote_one}
use Rattle.node_rules.specs.declared.heard.SentHow.TheVariants.{Waiting}
use Rattle.node_rules.specs.Drafts.{waits}
use Rattle.node_rules.specs.Calls.{sending_ends}
use Rattle.plc_station.specs.OwnLoads.{own_load, own_draft}
use Rattle.fragment_buffers.specs.Loads.{load_of}
use Rattle.node_rules.specs.Agreement.{AgreesWith}
use Rattle.station_queues.specs.Bodies.{Held}
use Rattle.plc_station.specs.StationViews.{station_in}
use Rattle.plc_station.proofs.CarriedPlans.{at_some, on_memory, lines_are}
use Rattle.plc_station.proofs.EndedSteps.{settled, stopped}
use Rattle.plc_station.proofs.LoadTags.{with_own, own_is, untagged}
use Rattle.plc_station.proofs.station.Station.waits.Goals as goal

pub returns-in_default-clause-carries : goal.returns-in_default-clause-carries
unfolding waits
returns-in_default-clause-carries g c =
    rw (← c.self.view_is)
    (on_memory c.self.inside.halted _ _ (λ running. stopped sending_ends _ _
    (waits c.args.to c.args.note (own_load c.args.kind c.args.octets.now c.self.inside.parts.next_tag) c.args.now
    (with_own c.args.kind c.args.octets.now (station_in c.self.inside.parts c.self.inside.bodies)))
    (waits c.args.to c.args.note (own_load c.args.kind c.args.octets.now c.self.inside.parts.next_tag) c.args.now
    (own_draft c.args.kind c.args.octets.now (station_in c.self.inside.parts c.self.inside.bodies))) Waiting _
    (ap (waits c.args.to c.args.note (own_load c.args.kind c.args.octets.now c.self.inside.parts.next_tag) c.args.now)
    (own_is c.args.kind c.args.octets.now (station_in c.self.inside.parts c.self.inside.bodies)))
    (wrote_one _ _ _ _ c.in_default.ensures.store) c.requires.ready.empty refl))

pub returns-clause-carries : goal.returns-clause-carries
unfolding waits
returns-clause-carries g c =
    let before = rw (← c.self.view_is) at c.requires.ready.agrees in
    rw (← c.self.view_is)
    (on_memory c.self.inside.halted _ _
    (λ running. settled sending_ends _ _ (waits c.args.to c.args.note (own_load c.args.kind c.args.octets.now c.self.inside.parts.next_tag) c.args.now
    (with_own c.args.kind c.args.octets.now (station_in c.self.inside.parts c.self.inside.bodies))).puts
    (waits c.args.to c.args.note (own_load c.args.kind c.args.octets.now c.self.inside.parts.next_tag) c.args.now
    (with_own c.args.kind c.args.octets.now (station_in c.self.inside.parts c.self.inside.bodies))).memory
    (waits c.args.to c.args.note (own_load c.args.kind c.args.octets.now c.self.inside.parts.next_tag) c.args.now
    (own_draft c.args.kind c.args.octets.now (station_in c.self.inside.parts c.self.inside.bodies))) Waiting _
    (ap (waits c.args.to c.args.note (own_load c.args.kind c.args.octets.now c.self.inside.parts.next_tag) c.args.now)
    (own_is c.args.kind c.args.octets.now (station_in c.self.inside.parts c.self.inside.bodies)))
    (wrote_one _ _ _ _ c.in-Ok.ensures.store)
    (at_some _ (λ l. AgreesWith l (g.K.Keeper.store c.self.inside.keeper).records) (station_in c.self.inside.parts c.self.inside.bodies) running
    before).counter.below c.requires.ready.empty
    (lines_are _ _ _ _ refl refl refl refl refl c.in-Ok.ensures.next (ap (λ (h : Held). h.reassemblies) c.push.ensures)
    (ap (λ (h : Held). h.waiting) c.push.ensures
    ∙ (λ i. c.self.inside.bodies.waiting
    ++ record { to = c.args.to; note = c.args.note; since = c.args.now; load = load_of (c.in-Ok.ensures.tag i) c.args.octets.now } ∷ [])))))

pub push-requires-clause-command : goal.push-requires-clause-command
push-requires-clause-command g c = untagged c.args.kind c.self.inside.parts.next_tag _ (length c.args.octets.now) _ c.requires.load.command c.in-Ok.ensures.tag
