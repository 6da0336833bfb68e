-- A meter hears a frame that it accepted.
use Rattle.std.proofs.Common.{◌≡◌, ℕ, Option, Some, None, Result, Err, refl, ap, subst}
use Rattle.std.specs.Prelude.{IfSome, IsSome}
use Rattle.std.specs.Option.{option_map}
use Rattle.plc_base.specs.declared.out_frame.Out.{Out}
use Rattle.node_rules.specs.Accepted.{Accepted}
use Rattle.node_rules.specs.declared.heard.MeterHeard.{MeterHeard}
use Rattle.node_rules.specs.declared.heard.Reply.{Reply}
use Rattle.node_rules.specs.declared.refusal.Dropped.{Dropped}
use Rattle.node_rules.specs.declared.refusal.Dropped.TheVariants as drops
use Rattle.node_rules.specs.CarriedPlans.{Carries}
use Rattle.node_rules.specs.Ciphers.{network}
use Rattle.node_rules.specs.HearingRules.{hear}
use Rattle.node_rules.specs.Memory.{StationMemory, Memory, Meter, Node}
use Rattle.node_rules.specs.MemoryDrafts.{unread}
use Rattle.node_rules.specs.Meters as meters
use Rattle.node_rules.specs.NodeSteps.{acts}
use Rattle.node_rules.specs.Agreement.{Agrees}
use Rattle.node_rules.specs.Replies.{reply_among, reply_sent}
use Rattle.node_rules.proofs.TablePlans.{meters_in_place}
use Rattle.reach_rules.specs.CheckedReplies.{message_of}
use Rattle.line_rules.specs.Answers as rules
use Rattle.line_rules.specs.Steps.{hearing_step}
use Rattle.meter_node.specs.MeterAnswers.{CameUp}
use Rattle.meter_node.specs.MeterStates.{MeterState, memory_with, node_of, identity_of}
use Rattle.line_world.specs.declared.nodes.reception.Reception.{Reception}
use Rattle.line_world.specs.Nodes.{of_meter}
use Rattle.line_world.specs.Receptions.{MayHear, CameTo, ReportsReception}
use Rattle.line_world.specs.Soundness.{IsSoundMeter}
use Rattle.line_world.proofs.NodeActs.{Took, at, not_none}
use Rattle.line_world.proofs.MeterActs.{meter_took, meter_sound}
use Rattle.line_world.proofs.ReportedReplies.{messages_unread, parts_of, there_is, reply_is}

pub running : (x : MeterState) (got : Accepted) → MayHear (of_meter x) got → IsSome x.station.memory
running x got h = by x.station.memory h.running
  where
    by : (o : Option StationMemory) → IsSome (option_map (memory_with x) o) → IsSome o
    by None is = absurd (cc)
    by (Some l) is = (cc)

pub came_up : (x : MeterState) (got : Accepted) → MayHear (of_meter x) got → IfSome x.station.memory (λ l. CameUp got.path l)
came_up x got h = by x.station.memory h.came
  where
    by : (o : Option StationMemory) → IfSome (option_map (memory_with x) o) (λ m. CameTo (Meter x.psk) got m) → IfSome o (λ l. CameUp got.path l)
    by None h = tt
    by (Some l) h = h

module _ (x y : MeterState) (got : Accepted) (cost note now : ℕ) (r : Result MeterHeard Dropped) (out : Out) (sound : IsSoundMeter x)
    (may : MayHear (of_meter x) got) where
  -- what it does about the frame
  abbrev plan : Memory → meters.Hearing
  plan m = meters.hear_meter (identity_of x) m got cost note now

  node_outcome : y.psk ≡ x.psk → IfSome (node_of x).memory (λ m. Carries (node_of x) (plan m) r out (node_of y))
      → Took (acts (of_meter x) (Err drops.Store) plan) r out (of_meter y)
  node_outcome psk carries = meter_took x y (Err drops.Store) plan r out sound psk (not_none (node_of x).memory _ may.running) carries

  pub heard : y.psk ≡ x.psk → IfSome (node_of x).memory (λ m. Carries (node_of x) (plan m) r out (node_of y))
      → Took (hearing_step network (of_meter x) got cost note now) (hearing_step network (of_meter x) got cost note now).answer out (of_meter y)
  heard psk carries = let t = node_outcome psk carries in record { answer_is = refl; out_is = t.out_is; node_is = t.node_is }

  pub reported : y.psk ≡ x.psk → IfSome (node_of x).memory (λ m. Carries (node_of x) (plan m) r out (node_of y)) → (word : Reception)
      → ReportsReception word (rules.meter_reception r) → ReportsReception word (hearing_step network (of_meter x) got cost note now).answer
  reported psk carries word t =
      subst (λ (k : Result MeterHeard Dropped). ReportsReception word (rules.meter_reception k)) (node_outcome psk carries).answer_is t

  pub heard_sound : IfSome (node_of x).memory (λ m. Carries (node_of x) (plan m) r out (node_of y)) → Agrees y.station → IsSoundMeter y
  heard_sound carries agrees =
      meter_sound x y (Err drops.Store) plan r out (λ m short. (meters_in_place (identity_of x) m short).hears got cost note now) sound
      (not_none (node_of x).memory _ may.running) carries agrees

  -- the reply that it reports of a route message is among the frames of its step
  pub replied_is : y.psk ≡ x.psk → IfSome (node_of x).memory (λ m. Carries (node_of x) (plan m) r out (node_of y)) → (last reported : Option Reply)
      → parts_of reported ≡ parts_of last
      → IfSome (node_of x).memory (λ m. unread (hear m.station got cost note now).answer ≡ None → last ≡ reply_sent (plan m) (node_of y).memory)
      → IsSome (message_of got)
      → reported ≡ reply_among (hearing_step network (of_meter x) got cost note now).frames
  replied_is psk carries last reported same replied is =
      let m = there_is (node_of x).memory may.running in
      reply_is (of_meter x) (Err drops.Store) plan m.0 (node_of y).memory last reported m.1 (ap (λ (n : Node). n.memory) (node_outcome psk carries).node_is)
      (at (node_of x).memory (λ m. unread (hear m.station got cost note now).answer ≡ None → last ≡ reply_sent (plan m) (node_of y).memory) m.0 m.1 replied
      (messages_unread m.0.station cost note now got is)) same
