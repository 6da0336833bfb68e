use Rattle.std.proofs.Common.{◌≡◌, ◌∷◌, [], ◌++◌, Some, map, length, refl, sym, ap, ◌∙◌}
use Rattle.store_tables.proofs.WritesLemmas.{wrote_one, wrote_then, wrote_stop}
use Rattle.node_rules.specs.declared.heard.SentHow.TheVariants.{Waiting}
use Rattle.node_rules.specs.Ciphers.{network}
use Rattle.node_rules.specs.Frames.{spelled}
use Rattle.node_rules.specs.Memory.{StationMemory}
use Rattle.node_rules.specs.Drafts.{Draft, sealed_by, waits, seeks, goes, with_own_number}
use Rattle.node_rules.specs.Calls.{sending_ends}
use Rattle.plc_station.specs.OwnLoads.{own_load, own_draft}
use Rattle.fragment_buffers.specs.Loads.{load_of}
use Rattle.station_queues.specs.Bodies.{Held}
use Rattle.plc_station.specs.StationViews.{station_in}
use Rattle.plc_station.specs.SentFrames.{only_frames}
use Rattle.node_rules.specs.States.{State, unless_halted}
use Rattle.plc_station.proofs.CarriedPlans.{on_memory, of_some, at_some, lines_are}
use Rattle.plc_station.proofs.Agreement.{agrees_tagged, agrees_numbered, agrees_counted, agrees_holding}
use Rattle.node_rules.specs.Agreement.{AgreesWith}
use Rattle.std.specs.Prelude.{IfSome}
use Rattle.plc_station.proofs.EndedSteps.{ended, stopped, uncounted}
use Rattle.plc_station.proofs.LoadTags.{with_own, own_is, untagged}
use Rattle.loadng_messages.specs.Grammar as messages
use Rattle.loadng_messages.specs.declared.message.Message.TheVariants.{Rreq}
use Rattle.mesh_header.specs.declared.unit.Unit.TheVariants.{Local}
use Rattle.plc_station.proofs.station.Station.seeks.Goals as goal

pub returns-in_default-clause-carries : goal.returns-in_default-clause-carries
unfolding waits goes with_own_number
returns-in_default-clause-carries g c =
    rw (← c.self.view_is)
    (on_memory c.self.inside.halted _ _ (λ running. stopped sending_ends _ _
    ((λ (e : Draft StationMemory). waits c.args.to c.args.note (own_load c.args.kind c.args.octets.now c.self.inside.parts.next_tag) c.args.now
    (seeks c.args.grant.now.address c.args.to e)) (with_own c.args.kind c.args.octets.now (station_in c.self.inside.parts c.self.inside.bodies)))
    ((λ (e : Draft StationMemory). waits c.args.to c.args.note (own_load c.args.kind c.args.octets.now c.self.inside.parts.next_tag) c.args.now
    (seeks c.args.grant.now.address c.args.to e)) (own_draft c.args.kind c.args.octets.now (station_in c.self.inside.parts c.self.inside.bodies))) Waiting _
    (ap ((λ (e : Draft StationMemory). waits c.args.to c.args.note (own_load c.args.kind c.args.octets.now c.self.inside.parts.next_tag) c.args.now
    (seeks c.args.grant.now.address c.args.to e))) (own_is c.args.kind c.args.octets.now (station_in c.self.inside.parts c.self.inside.bodies)))
    (wrote_stop _ _ _ _ c.in_default.ensures.store) c.requires.ready.empty refl))

pub returns-in_default-advance-clause-carries : goal.returns-in_default-advance-clause-carries
unfolding waits goes with_own_number
returns-in_default-advance-clause-carries g c =
    rw (← c.self.view_is)
    (on_memory c.self.inside.halted _ _ (λ running. stopped sending_ends _ _
    ((λ (e : Draft StationMemory). waits c.args.to c.args.note (own_load c.args.kind c.args.octets.now c.self.inside.parts.next_tag) c.args.now
    (seeks c.args.grant.now.address c.args.to e)) (with_own c.args.kind c.args.octets.now (station_in c.self.inside.parts c.self.inside.bodies)))
    ((λ (e : Draft StationMemory). waits c.args.to c.args.note (own_load c.args.kind c.args.octets.now c.self.inside.parts.next_tag) c.args.now
    (seeks c.args.grant.now.address c.args.to e)) (own_draft c.args.kind c.args.octets.now (station_in c.self.inside.parts c.self.inside.bodies))) Waiting _
    (ap ((λ (e : Draft StationMemory). waits c.args.to c.args.note (own_load c.args.kind c.args.octets.now c.self.inside.parts.next_tag) c.args.now
    (seeks c.args.grant.now.address c.args.to e))) (own_is c.args.kind c.args.octets.now (station_in c.self.inside.parts c.self.inside.bodies)))
    (wrote_then _ _ _ _ _ _ c.in-Ok.ensures.store (wrote_one _ _ _ _ c.in_default-advance.ensures.store)) c.requires.ready.empty refl))

pub returns-in_default-reserve-clause-carries : goal.returns-in_default-reserve-clause-carries
unfolding waits goes with_own_number
returns-in_default-reserve-clause-carries g c =
    rw (← c.self.view_is)
    (on_memory c.self.inside.halted _ _ (λ running. uncounted sending_ends _ _
    ((λ (e : Draft StationMemory). waits c.args.to c.args.note (own_load c.args.kind c.args.octets.now c.self.inside.parts.next_tag) c.args.now
    (seeks c.args.grant.now.address c.args.to e)) (with_own c.args.kind c.args.octets.now (station_in c.self.inside.parts c.self.inside.bodies)))
    ((λ (e : Draft StationMemory). waits c.args.to c.args.note (own_load c.args.kind c.args.octets.now c.self.inside.parts.next_tag) c.args.now
    (seeks c.args.grant.now.address c.args.to e)) (own_draft c.args.kind c.args.octets.now (station_in c.self.inside.parts c.self.inside.bodies))) Waiting _
    _ _
    (ap ((λ (e : Draft StationMemory). waits c.args.to c.args.note (own_load c.args.kind c.args.octets.now c.self.inside.parts.next_tag) c.args.now
    (seeks c.args.grant.now.address c.args.to e))) (own_is c.args.kind c.args.octets.now (station_in c.self.inside.parts c.self.inside.bodies)))
    (wrote_then _ _ _ _ _ _ c.in-Ok.ensures.store (wrote_one _ _ _ _ c.in-Ok-advance.ensures.store)) refl c.in_default-reserve.ensures.store
    c.requires.ready.empty
    refl))

pub returns-clause-carries : goal.returns-clause-carries
unfolding waits goes with_own_number
returns-clause-carries g c =
    rw (← c.self.view_is)
    (on_memory c.self.inside.halted _ _ (λ running. ended sending_ends _ _
    ((λ (e : Draft StationMemory). waits c.args.to c.args.note (own_load c.args.kind c.args.octets.now c.self.inside.parts.next_tag) c.args.now
    (seeks c.args.grant.now.address c.args.to e)) (with_own c.args.kind c.args.octets.now (station_in c.self.inside.parts c.self.inside.bodies)))
    ((λ (e : Draft StationMemory). waits c.args.to c.args.note (own_load c.args.kind c.args.octets.now c.self.inside.parts.next_tag) c.args.now
    (seeks c.args.grant.now.address c.args.to e)) (own_draft c.args.kind c.args.octets.now (station_in c.self.inside.parts c.self.inside.bodies))) Waiting _
    _ _
    (ap ((λ (e : Draft StationMemory). waits c.args.to c.args.note (own_load c.args.kind c.args.octets.now c.self.inside.parts.next_tag) c.args.now
    (seeks c.args.grant.now.address c.args.to e))) (own_is c.args.kind c.args.octets.now (station_in c.self.inside.parts c.self.inside.bodies)))
    (wrote_then _ _ _ _ _ _ c.in-Ok.ensures.store (wrote_one _ _ _ _ c.in-Ok-advance.ensures.store)) refl c.in-Ok-reserve.ensures.store
    (c.seal_request.ensures ∙ (λ i. only_frames (map (spelled network)
    (sealed_by ((sym (at_some c.args.self.now.memory (λ l. l.ring ≡ Some c.args.grant.now) (station_in c.self.inside.parts c.self.inside.bodies)
    (ap (λ (s : State StationMemory). s.memory) (sym c.self.view_is) ∙ running) c.requires.ready.ring)) i) (c.in-Ok-reserve.ensures.number i)
    (record { to = 0xFFFF; unit = Local 1 (messages.spelling (Rreq (c.in-Ok-advance.ensures.number i) 0 c.args.grant.now.address c.args.to)); note = 0 }
    ∷ [])))))
    (lines_are _ _ _ _ refl c.in-Ok-reserve.ensures.counter refl refl c.in-Ok-advance.ensures.numbering c.in-Ok.ensures.next
    (ap (λ (h : Held). h.reassemblies) c.push.ensures) (ap (λ (h : Held). h.waiting) c.push.ensures
    ∙ (λ i. c.self.inside.bodies.waiting
    ++ record { to = c.args.to; note = c.args.note; since = c.args.now; load = load_of (c.in-Ok.ensures.tag i) c.args.octets.now } ∷ [])))))

pub push-requires-clause-command : goal.push-requires-clause-command
push-requires-clause-command g c = untagged c.args.kind c.self.inside.parts.next_tag _ (length c.args.octets.now) _ c.requires.load.command c.in-Ok.ensures.tag

pub returns-clause-after : goal.returns-clause-after
returns-clause-after g c = record {
  agrees =
      let before : IfSome (unless_halted c.self.inside.halted (station_in c.self.inside.parts c.self.inside.bodies))
      (λ l. AgreesWith l (g.K.Keeper.store c.self.inside.keeper).records) = rw (← c.self.view_is) at c.requires.ready.agrees in
      let running = rw (← c.self.view_is) at c.requires.ready.running in
      let tagged = agrees_tagged (station_in c.self.inside.parts c.self.inside.bodies) _ _ _ (of_some _ _ _ running before) c.in-Ok.ensures.kept
      c.in-Ok.ensures.elsewhere in
      agrees_holding _ c.self.inside.bodies c.push.new.self _
      (agrees_counted _ _ _ _ (agrees_numbered _ _ _ _ tagged c.in-Ok-advance.ensures.kept c.in-Ok-advance.ensures.elsewhere)
      c.in-Ok-reserve.ensures.kept c.in-Ok-reserve.ensures.elsewhere);
  replied = rw (← c.self.view_is) refl;
}
