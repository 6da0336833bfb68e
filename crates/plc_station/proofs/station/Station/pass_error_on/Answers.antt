use Rattle.std.proofs.Common.{◌≡◌, ◌∷◌, [], ◌++◌, Some, map, refl, sym, ap, ◌∙◌}
use Rattle.std.specs.Prelude.{IfSome}
use Rattle.store_tables.proofs.WritesLemmas.{wrote_none}
use Rattle.loadng_messages.specs.Grammar as messages
use Rattle.loadng_messages.specs.declared.message.Message.TheVariants.{Rerr}
use Rattle.mesh_header.specs.declared.unit.Unit.TheVariants.{Local}
use Rattle.node_rules.specs.declared.heard.Heard.TheVariants.{Broken}
use Rattle.node_rules.specs.Ciphers.{network}
use Rattle.node_rules.specs.Frames.{spelled}
use Rattle.node_rules.specs.Memory.{StationMemory}
use Rattle.node_rules.specs.Drafts.{empty_draft, goes, send_message, with_routing_by, sealed_by}
use Rattle.node_rules.specs.HearingRules.{dropped, loses}
use Rattle.node_rules.specs.Agreement.{AgreesWith}
use Rattle.plc_station.specs.StationViews.{station_in}
use Rattle.plc_station.specs.SentFrames.{only_frames}
use Rattle.node_rules.specs.States.{State, unless_halted}
use Rattle.plc_station.proofs.CarriedPlans.{on_memory, at_some, of_some, lines_are}
use Rattle.plc_station.proofs.Agreement.{agrees_counted, agrees_routed}
use Rattle.plc_station.proofs.EndedSteps.{ended, uncounted}
use Rattle.plc_station.proofs.station.Station.pass_error_on.Goals as goal

pub returns-in_default-clause-carries : goal.returns-in_default-clause-carries
unfolding goes empty_draft with_routing_by
returns-in_default-clause-carries g c =
    rw (← c.self.view_is) (on_memory c.self.inside.halted _ _ (λ running. uncounted dropped _ _
    (send_message c.args.hop (Rerr c.args.lost c.args.to) (loses c.args.lost c.args.by (station_in c.self.inside.parts c.self.inside.bodies)))
    (send_message c.args.hop (Rerr c.args.lost c.args.to) (loses c.args.lost c.args.by (station_in c.self.inside.parts c.self.inside.bodies))) Broken _ _ _ refl
    (wrote_none _) refl c.in_default.ensures.store c.requires.ready.empty refl))

pub returns-clause-carries : goal.returns-clause-carries
unfolding goes empty_draft with_routing_by
returns-clause-carries g c =
    rw (← c.self.view_is)
    (on_memory c.self.inside.halted _ _ (λ running. ended dropped _ _
    (send_message c.args.hop (Rerr c.args.lost c.args.to) (loses c.args.lost c.args.by (station_in c.self.inside.parts c.self.inside.bodies)))
    (send_message c.args.hop (Rerr c.args.lost c.args.to) (loses c.args.lost c.args.by (station_in c.self.inside.parts c.self.inside.bodies))) Broken _ _ _ refl
    (wrote_none _) refl c.in-Ok.ensures.store
    (c.seal_message.ensures.sent
    ∙ (λ i. record {
      frames = (c.requires.ready.empty i).frames
          ++ map (spelled network) (sealed_by (Some c.args.grant.now) (c.in-Ok.ensures.number i)
          (record { to = c.one.ensures.value i; unit = Local 1 (messages.spelling (Rerr c.args.lost c.args.to)); note = 0 } ∷ []));
      tags = (c.requires.ready.empty i).tags;
    })
    ∙ (λ i. only_frames (map (spelled network) (sealed_by ((sym (at_some c.args.self.now.memory (λ l. l.ring ≡ Some c.args.grant.now)
    (station_in c.self.inside.parts c.self.inside.bodies) (ap (λ (s : State StationMemory). s.memory) (sym c.self.view_is) ∙ running) c.requires.ready.ring)) i)
    c.self.inside.parts.counter.next (record { to = c.args.hop; unit = Local 1 (messages.spelling (Rerr c.args.lost c.args.to)); note = 0 } ∷ [])))))
    (lines_are _ _ _ _ refl c.in-Ok.ensures.counter refl c.invalidate.ensures.routing refl refl refl refl)))

pub returns-clause-after : goal.returns-clause-after
returns-clause-after g c = record {
  agrees =
      let before : IfSome (unless_halted c.self.inside.halted (station_in c.self.inside.parts c.self.inside.bodies))
      (λ l. AgreesWith l (g.K.Keeper.store c.self.inside.keeper).records) = rw (← c.self.view_is) at c.requires.ready.agrees in
      let running = rw (← c.self.view_is) at c.requires.ready.running in
      agrees_routed _ _ _ (agrees_counted (station_in c.self.inside.parts c.self.inside.bodies) _ _ _ (of_some _ _ _ running before) c.in-Ok.ensures.kept
      c.in-Ok.ensures.elsewhere) c.invalidate.ensures.kept;
  replied = rw (← c.self.view_is) refl;
}
