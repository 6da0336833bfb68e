use Rattle.std.proofs.Common.{◌≡◌, Some, map, length, refl, sym, ap, ◌∙◌}
use Rattle.store_tables.proofs.WritesLemmas.{wrote_one}
use Rattle.node_rules.specs.declared.heard.SentHow.TheVariants.{Sent}
use Rattle.node_rules.specs.Ciphers.{network}
use Rattle.node_rules.specs.Frames.{spelled}
use Rattle.node_rules.specs.Memory.{StationMemory}
use Rattle.node_rules.specs.Drafts.{sealed_by, body_goes, all_go, units_of}
use Rattle.node_rules.specs.Calls.{sending_ends}
use Rattle.plc_station.specs.OwnLoads.{own_load, own_draft}
use Rattle.fragment_buffers.specs.Loads.{load_of}
use Rattle.node_rules.proofs.Sizes.{length-all_go, length-units_of}
use Rattle.plc_station.specs.StationViews.{station_in}
use Rattle.plc_station.specs.SentFrames.{only_frames}
use Rattle.node_rules.specs.States.{State}
use Rattle.plc_station.proofs.CarriedPlans.{on_memory, at_some, lines_are}
use Rattle.plc_station.proofs.EndedSteps.{ended, stopped, uncounted}
use Rattle.plc_station.proofs.LoadTags.{with_own, own_is, frames_are, untagged}
use Rattle.plc_station.proofs.station.Station.goes.Goals as goal

pub returns-in_default-clause-carries : goal.returns-in_default-clause-carries
unfolding body_goes
returns-in_default-clause-carries g c =
    rw (← c.self.view_is)
    (on_memory c.self.inside.halted _ _ (λ running. stopped sending_ends _ _
    (body_goes c.args.grant.now.address c.args.hop c.args.to c.args.note (own_load c.args.kind c.args.octets.now c.self.inside.parts.next_tag)
    (with_own c.args.kind c.args.octets.now (station_in c.self.inside.parts c.self.inside.bodies)))
    (body_goes c.args.grant.now.address c.args.hop c.args.to c.args.note (own_load c.args.kind c.args.octets.now c.self.inside.parts.next_tag)
    (own_draft c.args.kind c.args.octets.now (station_in c.self.inside.parts c.self.inside.bodies))) Sent _
    (ap (body_goes c.args.grant.now.address c.args.hop c.args.to c.args.note (own_load c.args.kind c.args.octets.now c.self.inside.parts.next_tag))
    (own_is c.args.kind c.args.octets.now (station_in c.self.inside.parts c.self.inside.bodies)))
    (wrote_one _ _ _ _ c.in_default.ensures.store) c.requires.ready.empty refl))

pub returns-in_default-reserve-clause-carries : goal.returns-in_default-reserve-clause-carries
unfolding body_goes
returns-in_default-reserve-clause-carries g c =
    let count = c.frames_in-count.ensures ∙ frames_are c.args.kind c.args.octets.now c.self.inside.parts.next_tag ∙ sym (length-all_go c.args.hop c.args.note _
    ∙ length-units_of c.args.grant.now.address c.args.to (own_load c.args.kind c.args.octets.now c.self.inside.parts.next_tag)) in
    rw (← c.self.view_is)
    (on_memory c.self.inside.halted _ _ (λ running. uncounted sending_ends _ _
    (body_goes c.args.grant.now.address c.args.hop c.args.to c.args.note (own_load c.args.kind c.args.octets.now c.self.inside.parts.next_tag)
    (with_own c.args.kind c.args.octets.now (station_in c.self.inside.parts c.self.inside.bodies)))
    (body_goes c.args.grant.now.address c.args.hop c.args.to c.args.note (own_load c.args.kind c.args.octets.now c.self.inside.parts.next_tag)
    (own_draft c.args.kind c.args.octets.now (station_in c.self.inside.parts c.self.inside.bodies))) Sent _ _ _
    (ap (body_goes c.args.grant.now.address c.args.hop c.args.to c.args.note (own_load c.args.kind c.args.octets.now c.self.inside.parts.next_tag))
    (own_is c.args.kind c.args.octets.now (station_in c.self.inside.parts c.self.inside.bodies)))
    (wrote_one _ _ _ _ c.in-Ok.ensures.store) count c.in_default-reserve.ensures.store c.requires.ready.empty refl))

pub returns-clause-carries : goal.returns-clause-carries
unfolding body_goes
returns-clause-carries g c =
    let count = c.frames_in-count.ensures ∙ frames_are c.args.kind c.args.octets.now c.self.inside.parts.next_tag ∙ sym (length-all_go c.args.hop c.args.note _
    ∙ length-units_of c.args.grant.now.address c.args.to (own_load c.args.kind c.args.octets.now c.self.inside.parts.next_tag)) in
    rw (← c.self.view_is)
    (on_memory c.self.inside.halted _ _ (λ running. ended sending_ends _ _
    (body_goes c.args.grant.now.address c.args.hop c.args.to c.args.note (own_load c.args.kind c.args.octets.now c.self.inside.parts.next_tag)
    (with_own c.args.kind c.args.octets.now (station_in c.self.inside.parts c.self.inside.bodies)))
    (body_goes c.args.grant.now.address c.args.hop c.args.to c.args.note (own_load c.args.kind c.args.octets.now c.self.inside.parts.next_tag)
    (own_draft c.args.kind c.args.octets.now (station_in c.self.inside.parts c.self.inside.bodies))) Sent _ _ _
    (ap (body_goes c.args.grant.now.address c.args.hop c.args.to c.args.note (own_load c.args.kind c.args.octets.now c.self.inside.parts.next_tag))
    (own_is c.args.kind c.args.octets.now (station_in c.self.inside.parts c.self.inside.bodies)))
    (wrote_one _ _ _ _ c.in-Ok.ensures.store) count c.in-Ok-reserve.ensures.store
    (c.seal_own.ensures ∙ (λ i. only_frames (map (spelled network)
    (sealed_by ((sym (at_some c.args.self.now.memory (λ l. l.ring ≡ Some c.args.grant.now) (station_in c.self.inside.parts c.self.inside.bodies)
    (ap (λ (s : State StationMemory). s.memory) (sym c.self.view_is) ∙ running) c.requires.ready.ring)) i) (c.in-Ok-reserve.ensures.number i)
    (all_go c.args.hop c.args.note (units_of c.args.grant.now.address c.args.to (load_of (c.in-Ok.ensures.tag i) c.args.octets.now)))))))
    (lines_are _ _ _ _ refl c.in-Ok-reserve.ensures.counter refl refl refl c.in-Ok.ensures.next refl refl)))

pub seal_own-requires-clause-command : goal.seal_own-requires-clause-command
seal_own-requires-clause-command g c =
    untagged c.args.kind c.self.inside.parts.next_tag _ (length c.args.octets.now) _ c.requires.load.command c.in-Ok.ensures.tag
