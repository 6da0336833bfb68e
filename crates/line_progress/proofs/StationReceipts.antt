-- What a node makes of a frame that carries no joining command is what its station makes of it, or a write fails.
use Rattle.std.proofs.Common.{◌≡◌, ℕ, [], Option, Some, None, Result, Ok, Err, refl, sym, ap}
use Rattle.std.proofs.Common.{subst, ◌∙◌}
use Rattle.plc_base.specs.declared.key.Key.{Key}
use Rattle.std.specs.Option.{option_map}
use Rattle.node_rules.specs.Accepted.{Accepted}
use Rattle.node_rules.specs.declared.heard.Heard.{Heard}
use Rattle.node_rules.specs.declared.heard.MeterHeard.{MeterHeard}
use Rattle.node_rules.specs.declared.heard.CoordinatorHeard.{CoordinatorHeard}
use Rattle.node_rules.specs.declared.refusal.Dropped.{Dropped}
use Rattle.node_rules.specs.declared.refusal.Dropped.TheVariants as drops
use Rattle.node_rules.specs.Ciphers.{Ciphers}
use Rattle.node_rules.specs.Coordinators as coordinator_rules
use Rattle.node_rules.specs.HearingRules.{Hearing, hear}
use Rattle.node_rules.specs.Memory.{Memory, Node, Role, Coordinator, Meter}
use Rattle.node_rules.specs.MemoryDrafts.{unread, with_station}
use Rattle.node_rules.specs.Meters as meters
use Rattle.node_rules.specs.NodeSteps.{NodeStep, acts}
use Rattle.node_rules.specs.Plans.{within}
use Rattle.node_rules.proofs.Refusals as refusals
use Rattle.line_events.specs.declared.event.Answer.TheVariants as answers
use Rattle.line_rules.specs.Answers.{Reception, only, drop_word, station_reception, meter_reception, coordinator_reception}
use Rattle.line_rules.specs.Steps.{hearing_step, identity}
use Rattle.line_progress.proofs.WholePlans.{Acted, Whole, Failed, acts_either}

-- # What is said of a frame

-- the same in the words of the report, for either kind of node
abbrev pub says : Result Heard Dropped → Reception
says (Ok h) = station_reception h
says (Err reason) = only (drop_word reason)

says_meter : (r : Result Heard Dropped) → meter_reception (meters.heard_by_station r) ≡ says r
says_meter (Ok h) = refl
says_meter (Err reason) = refl

says_coordinator : (r : Result Heard Dropped) → coordinator_reception (coordinator_rules.heard_by_station r) ≡ says r
says_coordinator (Ok h) = refl
says_coordinator (Err reason) = refl

-- A node's reception of a frame: what its station's plan says, sends and leaves, or that a write failed and it has halted.
pub data Receives (p : Hearing) (d : NodeStep Reception) : Type 0 where
  AsPlanned : d.answer ≡ says p.answer → d.frames ≡ p.frames → option_map (λ (n : Memory). n.station) d.node.memory ≡ Some p.memory → Receives p d
  HasHalted : d.answer ≡ only answers.Store → d.frames ≡ [] → d.node.memory ≡ None → Receives p d

module _ (ciphers : Ciphers) (x : Node) (m : Memory) (runs : x.memory ≡ Some m) (got : Accepted) (cost note now : ℕ)
    (none : unread (hear m.station got cost note now).answer ≡ None) where
  abbrev plan_is : Hearing
  plan_is = hear m.station got cost note now

  fails : plan_is.failed ≡ Err drops.Store
  fails = (refusals.drops m.station got cost note now).0

  as_meter : (psk : Key) → Receives plan_is (hearing_step ciphers (record x { role = Meter psk }) got cost note now)
  as_meter psk =
      let own = identity ciphers x psk in
      let y : Node = record x { role = Meter psk } in
      let is : meters.hear_meter own m got cost note now ≡ within (λ l. with_station l m) meters.heard_by_station plan_is =
      λ i. meters.heard_by own m now plan_is (none i) in
      by_act (acts y (Err drops.Store) (λ n. meters.hear_meter own n got cost note now))
      (subst (λ p. Acted p (acts y (Err drops.Store) (λ n. meters.hear_meter own n got cost note now))) is
      (acts_either y m (Err drops.Store) (λ n. meters.hear_meter own n got cost note now) runs))
    where
      by_act : (d : NodeStep (Result MeterHeard Dropped)) → Acted (within (λ l. with_station l m) meters.heard_by_station plan_is) d
          → Receives plan_is (record { node = d.node; answer = meter_reception d.answer; frames = d.frames; made = d.made; opened = d.opened })
      by_act d (Whole a f e) =
          AsPlanned (ap meter_reception a ∙ says_meter plan_is.answer) f (ap (λ (o : Option Memory). option_map (λ (n : Memory). n.station) o) e)
      by_act d (Failed a f e) = HasHalted (ap meter_reception a ∙ ap (λ r. meter_reception (meters.heard_by_station r)) fails) f e

  as_coordinator : Receives plan_is (hearing_step ciphers (record x { role = Coordinator }) got cost note now)
  as_coordinator =
      let own : coordinator_rules.CoordinatorIdentity = record { eui = x.eui; ciphers = ciphers } in
      let y : Node = record x { role = Coordinator } in
      let is : coordinator_rules.hear_coordinator own m got cost note now ≡ within (λ l. with_station l m) coordinator_rules.heard_by_station plan_is =
      λ i. coordinator_rules.heard_by own m now plan_is (none i) in
      by_act (acts y (Err drops.Store) (λ n. coordinator_rules.hear_coordinator own n got cost note now))
      (subst (λ p. Acted p (acts y (Err drops.Store) (λ n. coordinator_rules.hear_coordinator own n got cost note now))) is
      (acts_either y m (Err drops.Store) (λ n. coordinator_rules.hear_coordinator own n got cost note now) runs))
    where
      by_act : (d : NodeStep (Result CoordinatorHeard Dropped)) → Acted (within (λ l. with_station l m) coordinator_rules.heard_by_station plan_is) d
          → Receives plan_is (record { node = d.node; answer = coordinator_reception d.answer; frames = d.frames; made = d.made; opened = d.opened })
      by_act d (Whole a f e) =
          AsPlanned (ap coordinator_reception a ∙ says_coordinator plan_is.answer) f (ap (λ (o : Option Memory). option_map (λ (n : Memory). n.station) o) e)
      by_act d (Failed a f e) =
          HasHalted (ap coordinator_reception a ∙ ap (λ r. coordinator_reception (coordinator_rules.heard_by_station r)) fails) f e

  pub receives : Receives plan_is (hearing_step ciphers x got cost note now)
  receives = by_role x.role refl
    where
      by_role : (role : Role) → x.role ≡ role → Receives plan_is (hearing_step ciphers x got cost note now)
      by_role Coordinator e = subst (λ r. Receives plan_is (hearing_step ciphers (record x { role = r }) got cost note now)) (sym e) as_coordinator
      by_role (Meter psk) e = subst (λ r. Receives plan_is (hearing_step ciphers (record x { role = r }) got cost note now)) (sym e) (as_meter psk)
