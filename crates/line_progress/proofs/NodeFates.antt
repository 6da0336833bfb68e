-- What a node makes of a frame that it accepted, whatever power is lost: what its station makes of it, or what it makes of a joining message.
use Rattle.std.proofs.Common.{◌≡◌, ℕ, Option, Some, None, Result, Err, refl, sym, ap, subst, ◌∙◌}
use Rattle.std.specs.Option.{option_map}
use Rattle.plc_base.specs.declared.key.Key.{Key}
use Rattle.joining_messages.specs.Reader.{join_in}
use Rattle.node_rules.specs.Accepted.{Accepted}
use Rattle.node_rules.specs.declared.heard.MeterHeard.{MeterHeard}
use Rattle.node_rules.specs.declared.heard.CoordinatorHeard.{CoordinatorHeard}
use Rattle.node_rules.specs.declared.refusal.Dropped.{Dropped}
use Rattle.node_rules.specs.declared.refusal.Dropped.TheVariants as drops
use Rattle.node_rules.specs.Ciphers.{Ciphers}
use Rattle.node_rules.specs.Coordinators as coordinator_rules
use Rattle.node_rules.specs.HearingRules.{Hearing, hear}
use Rattle.node_rules.specs.Memory.{StationMemory, Memory, Node, Role, Coordinator, Meter}
use Rattle.node_rules.specs.MemoryDrafts.{Unread, in_memory, unread}
use Rattle.node_rules.specs.Meters as meters
use Rattle.node_rules.specs.NodeSteps.{NodeStep, acts}
use Rattle.node_rules.proofs.Refusals as refusals
use Rattle.line_events.specs.declared.event.Answer.TheVariants as answers
use Rattle.line_rules.specs.Answers.{Reception, meter_reception, coordinator_reception}
use Rattle.line_rules.specs.Steps.{hearing_step, identity}
use Rattle.line_progress.specs.Held.{KeepsHeld}
use Rattle.line_progress.proofs.WholePlans.{Acted, Whole, Failed, acts_either}
use Rattle.line_progress.proofs.HeardKept.{KeepsOrLeaves, KeepsAll, Leaves, meters_keep, coordinators_keep}
use Rattle.line_progress.proofs.HeldEvents.{station_of}
use Rattle.line_progress.proofs.HeldKept.{PlanKeeps}
use Rattle.line_progress.proofs.StationReceipts.{Receives, receives}

-- A frame without a joining command is received as the station plans; at a joining message the node keeps all that it holds, or leaves; or a
-- write failed.
pub data Makes (l : StationMemory) (p : Hearing) (d : NodeStep Reception) : Type 0 where
  AsStation : unread p.answer ≡ None → Receives p d → Makes l p d
  Keeps : (now : StationMemory) → station_of d.node ≡ Some now → KeepsHeld l now → Makes l p d
  HasLeft : (u : Unread) (now : StationMemory) → unread p.answer ≡ Some u → station_of d.node ≡ Some now → d.answer.answer ≡ answers.Left → Makes l p d
  Halts : d.answer.answer ≡ answers.Store → d.node.memory ≡ None → Makes l p d

module _ (ciphers : Ciphers) (x : Node) (m : Memory) (runs : x.memory ≡ Some m) (got : Accepted) (cost note now : ℕ) where
  abbrev plan_is : Hearing
  plan_is = hear m.station got cost note now

  abbrev MakesSo : NodeStep Reception → Type 0
  MakesSo d = Makes m.station plan_is d

  module _ (psk : Key) (u : Unread) (e : unread plan_is.answer ≡ Some u) where
    abbrev own : meters.Identity
    own = identity ciphers x psk

    abbrev meter_plan : Memory → meters.Hearing
    meter_plan n = meters.hear_meter own n got cost note now

    meter_is : meter_plan m ≡ meters.hear_join_in own m u.way (join_in u.body) now
    meter_is = λ i. meters.heard_by own m now plan_is (e i)

    meter_fails : (meter_plan m).failed ≡ Err drops.Store
    meter_fails = (refusals.meters_drops own m got cost note now).0

    by_meter : (d : NodeStep (Result MeterHeard Dropped)) → Acted (meter_plan m) d → KeepsOrLeaves m (meter_plan m)
        → MakesSo (record { node = d.node; answer = meter_reception d.answer; frames = d.frames; made = d.made; opened = d.opened })
    by_meter d (Failed a f g) fate = Halts (ap (λ (r : Result MeterHeard Dropped). (meter_reception r).answer) (a ∙ meter_fails)) g
    by_meter d (Whole a f g) (KeepsAll k) =
        Keeps (meter_plan m).memory.station (ap (λ (o : Option Memory). option_map (λ (n : Memory). n.station) o) g) k.held
    by_meter d (Whole a f g) (Leaves is) =
        HasLeft u (meter_plan m).memory.station e (ap (λ (o : Option Memory). option_map (λ (n : Memory). n.station) o) g)
        (ap (λ (r : Result MeterHeard Dropped). (meter_reception r).answer) (a ∙ is))

    as_meter : MakesSo (hearing_step ciphers (record x { role = Meter psk }) got cost note now)
    as_meter =
        by_meter (acts (record x { role = Meter psk }) (Err drops.Store) meter_plan)
        (acts_either (record x { role = Meter psk }) m (Err drops.Store) meter_plan runs)
        (subst (KeepsOrLeaves m) (sym meter_is) (meters_keep own m now u.way (join_in u.body)))

  module _ (u : Unread) (e : unread plan_is.answer ≡ Some u) where
    abbrev identity_is : coordinator_rules.CoordinatorIdentity
    identity_is = record { eui = x.eui; ciphers = ciphers }

    abbrev plan : Memory → coordinator_rules.Hearing
    plan n = coordinator_rules.hear_coordinator identity_is n got cost note now

    plan_joins : plan m ≡ coordinator_rules.hear_join_in identity_is m u.way (join_in u.body) now
    plan_joins = λ i. coordinator_rules.heard_by identity_is m now plan_is (e i)

    plan_fails : (plan m).failed ≡ Err drops.Store
    plan_fails = (refusals.coordinators_drops identity_is m got cost note now).0

    by_plan : (d : NodeStep (Result CoordinatorHeard Dropped)) → Acted (plan m) d → PlanKeeps in_memory m (plan m)
        → MakesSo (record { node = d.node; answer = coordinator_reception d.answer; frames = d.frames; made = d.made; opened = d.opened })
    by_plan d (Failed a f g) k = Halts (ap (λ (r : Result CoordinatorHeard Dropped). (coordinator_reception r).answer) (a ∙ plan_fails)) g
    by_plan d (Whole a f g) k =
        Keeps (plan m).memory.station (ap (λ (o : Option Memory). option_map (λ (n : Memory). n.station) o) g) k.held

    as_coordinator : MakesSo (hearing_step ciphers (record x { role = Coordinator }) got cost note now)
    as_coordinator =
        by_plan (acts (record x { role = Coordinator }) (Err drops.Store) plan)
        (acts_either (record x { role = Coordinator }) m (Err drops.Store) plan runs)
        (subst (PlanKeeps in_memory m) (sym plan_joins) (coordinators_keep identity_is m now u.way (join_in u.body)))

  by_role : (u : Unread) → unread plan_is.answer ≡ Some u → (role : Role) → x.role ≡ role → MakesSo (hearing_step ciphers x got cost note now)
  by_role u e Coordinator same = subst (λ r. MakesSo (hearing_step ciphers (record x { role = r }) got cost note now)) (sym same) (as_coordinator u e)
  by_role u e (Meter psk) same = subst (λ r. MakesSo (hearing_step ciphers (record x { role = r }) got cost note now)) (sym same) (as_meter psk u e)

  pub makes : MakesSo (hearing_step ciphers x got cost note now)
  makes = by_unread (unread plan_is.answer) refl
    where
      by_unread : (o : Option Unread) → unread plan_is.answer ≡ o → MakesSo (hearing_step ciphers x got cost note now)
      by_unread None e = AsStation e (receives ciphers x m runs got cost note now e)
      by_unread (Some u) e = by_role u e x.role refl
