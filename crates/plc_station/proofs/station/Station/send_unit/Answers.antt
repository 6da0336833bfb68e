use Rattle.std.proofs.Common.{◌≡◌, ◌∷◌, [], ◌++◌, Some, map, refl, sym, ap, ◌∙◌}
use Rattle.store_tables.proofs.WritesLemmas.{wrote_none}
use Rattle.node_rules.specs.Ciphers.{network}
use Rattle.node_rules.specs.Frames.{spelled}
use Rattle.node_rules.specs.Memory.{StationMemory}
use Rattle.node_rules.specs.Drafts.{empty_draft, goes, sealed_by}
use Rattle.node_rules.specs.HearingRules.{dropped}
use Rattle.plc_station.specs.StationViews.{station_in}
use Rattle.plc_station.specs.SentFrames.{only_frames}
use Rattle.station_queues.specs.Frames.{unit_frame}
use Rattle.node_rules.specs.States.{State}
use Rattle.plc_station.proofs.CarriedPlans.{on_memory, at_some, lines_are}
use Rattle.plc_station.proofs.EndedSteps.{ended, uncounted}
use Rattle.plc_station.proofs.Sealed.{one_sent}
use Rattle.plc_station.proofs.station.Station.send_unit.Goals as goal

pub returns-in_default-clause-carries : goal.returns-in_default-clause-carries
unfolding goes empty_draft
returns-in_default-clause-carries g c =
    rw (← c.self.view_is) (on_memory c.self.inside.halted _ _ (λ running. uncounted dropped _ _
    (goes c.args.to c.args.unit.now c.args.note (empty_draft (station_in c.self.inside.parts c.self.inside.bodies)))
    (goes c.args.to c.args.unit.now c.args.note (empty_draft (station_in c.self.inside.parts c.self.inside.bodies))) tt _ _ _ refl (wrote_none _) refl
    c.in_default.ensures.store c.requires.ready.empty refl))

pub returns-clause-carries : goal.returns-clause-carries
unfolding goes empty_draft
returns-clause-carries g c =
    rw (← c.self.view_is)
    (on_memory c.self.inside.halted _ _ (λ running. ended dropped _ _
    (goes c.args.to c.args.unit.now c.args.note (empty_draft (station_in c.self.inside.parts c.self.inside.bodies)))
    (goes c.args.to c.args.unit.now c.args.note (empty_draft (station_in c.self.inside.parts c.self.inside.bodies))) tt _ _ _ refl (wrote_none _) refl
    c.in-Ok.ensures.store
    (c.seal.ensures
    ∙ (λ i. record {
      frames = (c.requires.ready.empty i).frames
          ++ unit_frame c.args.grant.now c.sealing_key-key.result (c.in-Ok.ensures.number i)
          (record { to = c.args.to; unit = c.args.unit.now; note = c.args.note }) ∷ [];
      tags = (c.requires.ready.empty i).tags;
    })
    ∙ ap only_frames (one_sent c.args.grant.now c.sealing_key-key.result c.self.inside.parts.counter.next
    (record { to = c.args.to; unit = c.args.unit.now; note = c.args.note }) c.sealing_key-key.ensures)
    ∙ (λ i. only_frames (map (spelled network) (sealed_by ((sym (at_some c.args.self.now.memory (λ l. l.ring ≡ Some c.args.grant.now)
    (station_in c.self.inside.parts c.self.inside.bodies) (ap (λ (s : State StationMemory). s.memory) (sym c.self.view_is) ∙ running) c.requires.ready.ring)) i)
    c.self.inside.parts.counter.next ((record { to = c.args.to; unit = c.args.unit.now; note = c.args.note }) ∷ [])))))
    (lines_are _ _ _ _ refl c.in-Ok.ensures.counter refl refl refl refl refl refl)))
