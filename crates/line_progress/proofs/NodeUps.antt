-- What a node hands up of a frame is what its station hands up.
use Rattle.std.proofs.Common.{◌≡◌, ℕ, List, Option, Some, None, Result, Ok, Err, refl, sym, ap, subst, ◌∙◌}
use Rattle.std.specs.Option.{option_map_or}
use Rattle.joining_messages.specs.Reader.{join_in}
use Rattle.plc_base.specs.declared.key.Key.{Key}
use Rattle.node_rules.specs.Accepted.{Accepted}
use Rattle.node_rules.specs.declared.heard.Heard.{Heard}
use Rattle.node_rules.specs.declared.heard.Heard.TheVariants as heard
use Rattle.node_rules.specs.declared.refusal.Dropped.{Dropped}
use Rattle.node_rules.specs.declared.refusal.Dropped.TheVariants as drops
use Rattle.node_rules.specs.Ciphers.{Ciphers}
use Rattle.node_rules.specs.Coordinators as coordinator_rules
use Rattle.node_rules.specs.HearingRules.{Hearing, hear}
use Rattle.node_rules.specs.Memory.{Memory, Node, Role, Coordinator, Meter}
use Rattle.node_rules.specs.MemoryDrafts.{Unread, unread}
use Rattle.node_rules.specs.Meters as meters
use Rattle.node_rules.specs.NodeSteps.{NodeStep, acts, left_by, stays}
use Rattle.node_rules.specs.Plans.{Plan, carry_out}
use Rattle.line_rules.specs.Answers.{Reception, Up, meter_reception, coordinator_reception}
use Rattle.line_rules.specs.Steps.{hearing_step, identity}
use Rattle.line_progress.proofs.WholePlans.{Acted, Whole, Failed, acts_either}
use Rattle.line_progress.proofs.StationReceipts.{Receives, AsPlanned, HasHalted, says, receives}
use Rattle.line_progress.proofs.Silence.{IsSilent, meters_are_silent, coordinators_are_silent}

-- nothing is handed up, or what the station's plan hands up
pub data IsUpOf (p : Hearing) (o : Option Up) : Type 0 where
  NoUp : o ≡ None → IsUpOf p o
  OneUp : (origin n : ℕ) (octets : List ℕ) → p.answer ≡ Ok (heard.Up origin n octets) → o ≡ Some (record { note = n; octets = octets }) → IsUpOf p o

by_answer : (p : Hearing) (o : Option Up) (r : Result Heard Dropped) → p.answer ≡ r → o ≡ (says r).up → IsUpOf p o
by_answer p o (Ok (heard.Up origin n octets)) is e = OneUp origin n octets is e
by_answer p o (Ok heard.Held) is e = NoUp e
by_answer p o (Ok heard.Relayed) is e = NoUp e
by_answer p o (Ok heard.Answered) is e = NoUp e
by_answer p o (Ok heard.Learned) is e = NoUp e
by_answer p o (Ok heard.Broken) is e = NoUp e
by_answer p o (Ok heard.Reported) is e = NoUp e
by_answer p o (Ok (heard.Joining way body)) is e = NoUp e
by_answer p o (Ok (heard.Local from all code body)) is e = NoUp e
by_answer p o (Err reason) is e = NoUp e

silent_step : {H : Type 0} (reads : Result H Dropped → Reception) (p : Plan Memory (Result H Dropped)) (d : NodeStep (Result H Dropped)) → IsSilent reads p
    → Acted p d → (reads d.answer).up ≡ None
silent_step reads p d silent (Whole a f e) = ap (λ r. (reads r).up) a ∙ silent.answer
silent_step reads p d silent (Failed a f e) = ap (λ r. (reads r).up) a ∙ silent.failed

module _ (ciphers : Ciphers) (x : Node) (got : Accepted) (cost note now : ℕ) where
  abbrev up_of : Role → Option Up
  up_of role = (hearing_step ciphers (record x { role = role }) got cost note now).answer.up

  by_role : (P : Option Up → Type 0) → P (up_of Coordinator) → ((psk : Key) → P (up_of (Meter psk))) → P (hearing_step ciphers x got cost note now).answer.up
  by_role P one other = by x.role refl
    where
      by : (role : Role) → x.role ≡ role → P (hearing_step ciphers x got cost note now).answer.up
      by Coordinator e = subst (λ r. P (up_of r)) (sym e) one
      by (Meter psk) e = subst (λ r. P (up_of r)) (sym e) (other psk)

  pub halted_hands_none : x.memory ≡ None → (hearing_step ciphers x got cost note now).answer.up ≡ None
  unfolding acts
  halted_hands_none e =
      by_role (λ o. o ≡ None)
      (λ i. (coordinator_reception (option_map_or (λ m. left_by (record x { role = Coordinator })
      (carry_out x.store.records x.store.cut (coordinator_rules.hear_coordinator (record { eui = x.eui; ciphers = ciphers }) m got cost note now))) (e i)
      (stays (record x { role = Coordinator }) (Err drops.Store))).answer).up)
      (λ psk. λ i. (meter_reception (option_map_or (λ m. left_by (record x { role = Meter psk })
      (carry_out x.store.records x.store.cut (meters.hear_meter (identity ciphers (record x { role = Meter psk }) psk) m got cost note now))) (e i)
      (stays (record x { role = Meter psk }) (Err drops.Store))).answer).up)

  module _ (m : Memory) (runs : x.memory ≡ Some m) where
    abbrev plan_of : Hearing
    plan_of = hear m.station got cost note now

    as_meter : (u : Unread) → unread plan_of.answer ≡ Some u → (psk : Key) → up_of (Meter psk) ≡ None
    as_meter u some psk =
        let y : Node = record x { role = Meter psk } in
        let own = identity ciphers y psk in
        let is : meters.hear_meter own m got cost note now ≡ meters.hear_join_in own m u.way (join_in u.body) now =
        λ i. meters.heard_by own m now plan_of (some i) in
        silent_step meter_reception _ _ (subst (λ p. IsSilent meter_reception p) (sym is) (meters_are_silent own m now u.way (join_in u.body)))
        (acts_either y m (Err drops.Store) (λ n. meters.hear_meter own n got cost note now) runs)

    as_coordinator : (u : Unread) → unread plan_of.answer ≡ Some u → up_of Coordinator ≡ None
    as_coordinator u some =
        let y : Node = record x { role = Coordinator } in
        let own : coordinator_rules.CoordinatorIdentity = record { eui = x.eui; ciphers = ciphers } in
        let is : coordinator_rules.hear_coordinator own m got cost note now ≡ coordinator_rules.hear_join_in own m u.way (join_in u.body) now =
        λ i. coordinator_rules.heard_by own m now plan_of (some i) in
        silent_step coordinator_reception _ _ (subst (λ p. IsSilent coordinator_reception p) (sym is) (coordinators_are_silent own m now u.way
        (join_in u.body)))
        (acts_either y m (Err drops.Store) (λ n. coordinator_rules.hear_coordinator own n got cost note now) runs)

    by_receives : Receives plan_of (hearing_step ciphers x got cost note now) → IsUpOf plan_of (hearing_step ciphers x got cost note now).answer.up
    by_receives (AsPlanned a f e) = by_answer plan_of _ plan_of.answer refl (ap (λ (r : Reception). r.up) a)
    by_receives (HasHalted a f e) = NoUp (ap (λ (r : Reception). r.up) a)

    pub node_hands_up : IsUpOf plan_of (hearing_step ciphers x got cost note now).answer.up
    node_hands_up = by_unread (unread plan_of.answer) refl
      where
        by_unread : (o : Option Unread) → unread plan_of.answer ≡ o → IsUpOf plan_of (hearing_step ciphers x got cost note now).answer.up
        by_unread None none = by_receives (receives ciphers x m runs got cost note now none)
        by_unread (Some u) some = NoUp (by_role (λ o. o ≡ None) (as_coordinator u some) (as_meter u some))
