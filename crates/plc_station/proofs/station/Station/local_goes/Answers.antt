use Rattle.std.proofs.Common.{◌≡◌, ◌∷◌, [], ◌++◌, Some, List, map, refl, sym, ap, ◌∙◌}
use Rattle.store_tables.proofs.WritesLemmas.{wrote_none}
use Rattle.plc_base.specs.declared.out_frame.OutFrame.{OutFrame}
use Rattle.mesh_header.specs.declared.unit.Unit.TheVariants.{Local}
use Rattle.station_queues.specs.Frames.{unit_frame, with_frames}
use Rattle.node_rules.specs.Ciphers.{network}
use Rattle.node_rules.specs.Frames.{spelled}
use Rattle.node_rules.specs.Memory.{StationMemory}
use Rattle.node_rules.specs.Drafts.{empty_draft, goes, sealed_by}
use Rattle.node_rules.specs.Neighbours.{local_ends}
use Rattle.node_rules.specs.States.{State}
use Rattle.plc_station.specs.StationViews.{station_in}
use Rattle.plc_station.proofs.CarriedPlans.{on_memory, at_some, lines_are}
use Rattle.plc_station.proofs.EndedSteps.{ended, uncounted, sent, unsent}
use Rattle.plc_station.proofs.Sealed.{one_sent}
use Rattle.plc_station.proofs.Beside.{followed_by}
use Rattle.plc_station.proofs.station.Station.local_goes.Goals as goal

pub returns-in_default-clause-carries : goal.returns-in_default-clause-carries
unfolding goes empty_draft
returns-in_default-clause-carries g c =
    rw (← c.self.view_is) (on_memory c.self.inside.halted _ _ (λ running. record {
      added = unsent (goes c.args.to (Local c.args.code c.args.body.now) 0 (empty_draft (station_in c.self.inside.parts c.self.inside.bodies)));
      carries = uncounted local_ends _ _ (goes c.args.to (Local c.args.code c.args.body.now) 0
          (empty_draft (station_in c.self.inside.parts c.self.inside.bodies)))
          (goes c.args.to (Local c.args.code c.args.body.now) 0 (empty_draft (station_in c.self.inside.parts c.self.inside.bodies))) tt _ _ _ refl
          (wrote_none _) refl c.in_default.ensures.store refl refl;
      out_is = c.clear.ensures;
    }))

pub returns-clause-carries : goal.returns-clause-carries
unfolding goes empty_draft
returns-clause-carries g c =
    rw (← c.self.view_is) (on_memory c.self.inside.halted _ _ (λ running. record {
      added = sent (goes c.args.to (Local c.args.code c.args.body.now) 0 (empty_draft (station_in c.self.inside.parts c.self.inside.bodies)));
      carries = ended local_ends _ _ (goes c.args.to (Local c.args.code c.args.body.now) 0 (empty_draft (station_in c.self.inside.parts c.self.inside.bodies)))
          (goes c.args.to (Local c.args.code c.args.body.now) 0 (empty_draft (station_in c.self.inside.parts c.self.inside.bodies))) tt _ _ _ refl
          (wrote_none _) refl c.in-Ok.ensures.store refl
          (lines_are _ _ _ _ refl c.in-Ok.ensures.counter refl refl refl refl refl refl);
      out_is =
          c.seal.ensures
          ∙ (λ i. with_frames (c.args.out.now.frames
          ++ unit_frame c.args.grant.now c.sealing_key-key.result (c.in-Ok.ensures.number i)
          (record { to = c.args.to; unit = Local c.args.code (c.new-body.ensures i); note = 0 }) ∷ []) c.args.out.now)
          ∙ ap (λ (frames : List OutFrame). with_frames (c.args.out.now.frames ++ frames) c.args.out.now)
          (one_sent c.args.grant.now c.sealing_key-key.result c.self.inside.parts.counter.next
          (record { to = c.args.to; unit = Local c.args.code c.args.body.now; note = 0 }) c.sealing_key-key.ensures)
          ∙ (λ i. with_frames (c.args.out.now.frames
          ++ map (spelled network) (sealed_by ((sym (at_some c.args.self.now.memory (λ l. l.ring ≡ Some c.args.grant.now)
          (station_in c.self.inside.parts c.self.inside.bodies) (ap (λ (s : State StationMemory). s.memory) (sym c.self.view_is) ∙ running) c.requires.ring)) i)
          c.self.inside.parts.counter.next ((record { to = c.args.to; unit = Local c.args.code c.args.body.now; note = 0 }) ∷ []))) c.args.out.now)
          ∙ followed_by c.args.out.now _;
    }))
