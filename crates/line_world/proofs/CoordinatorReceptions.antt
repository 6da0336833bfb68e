-- The coordinator accepts a frame and hears it.
use Rattle.std.proofs.Common.{◌≡◌, ℕ, [], Option, Some, None, Result, Ok, Err, refl, ap, subst}
use Rattle.std.specs.Prelude.{IfSome, IfNone, IfOk, IsSome}
use Rattle.std.specs.Option.{option_map}
use Rattle.plc_base.specs.declared.out_frame.Out.{Out}
use Rattle.node_rules.specs.Accepted.{Accepted}
use Rattle.node_rules.specs.declared.heard.CoordinatorHeard.{CoordinatorHeard}
use Rattle.node_rules.specs.declared.heard.Reply.{Reply}
use Rattle.node_rules.specs.declared.refusal.Dropped.{Dropped}
use Rattle.node_rules.specs.declared.refusal.Dropped.TheVariants as drops
use Rattle.node_rules.specs.declared.refusal.FrameRefusal.{FrameRefusal}
use Rattle.node_rules.specs.declared.refusal.FrameRefusal.TheVariants.{Halted}
use Rattle.node_rules.specs.Acceptance.{accept}
use Rattle.node_rules.specs.CarriedPlans.{Carries}
use Rattle.node_rules.specs.Ciphers.{network}
use Rattle.node_rules.specs.Coordinators as coordinator_rules
use Rattle.node_rules.specs.Frames.{Arrived}
use Rattle.node_rules.specs.HearingRules.{hear}
use Rattle.node_rules.specs.Laws.{WaitingFits}
use Rattle.node_rules.specs.Memory.{StationMemory, Memory, Coordinator, Node}
use Rattle.node_rules.specs.MemoryDrafts.{unread}
use Rattle.node_rules.specs.NodeSteps.{acts}
use Rattle.node_rules.specs.Plans.{Plan}
use Rattle.node_rules.specs.Replies.{reply_among, reply_sent}
use Rattle.node_rules.specs.States.{State}
use Rattle.node_rules.proofs.RingPuts.{coordinators_write_no_ring}
use Rattle.node_rules.proofs.TablePlans.{coordinators_in_place}
use Rattle.reach_rules.specs.CheckedReplies.{message_of}
use Rattle.line_rules.specs.Answers as rules
use Rattle.line_rules.specs.Steps.{hearing_step}
use Rattle.meter_node.specs.MeterStates.{MeterState, memory_with}
use Rattle.coordinator.specs.CoordinatorAgreement.{CoordinatorAgrees}
use Rattle.coordinator.specs.CoordinatorStates.{CoordinatorState, memory_in, node_of, identity_of}
use Rattle.line_world.specs.declared.nodes.reception.Reception.{Reception}
use Rattle.line_world.specs.Nodes.{of_coordinator, of_meter}
use Rattle.line_world.specs.Receptions.{MayHear, CameTo, ReportsReception}
use Rattle.line_world.specs.Soundness.{IsSoundCoordinator}
use Rattle.line_world.proofs.AcceptingSteps.{meter_may_hear}
use Rattle.line_world.proofs.NodeActs.{Took, at, not_none}
use Rattle.line_world.proofs.CoordinatorActs.{with_its, own_took, ringless_sound}
use Rattle.line_world.proofs.ReportedReplies.{messages_unread, parts_of, there_is, reply_is}

-- a meter with the station of the coordinator
abbrev meter_with : State StationMemory → MeterState
meter_with s = record { station = s; psk = record { 0 = [] }; randoms = []; session = None }

of_station : (x : CoordinatorState) (t : State StationMemory) (o : Option StationMemory) → IsSome (option_map (memory_with (meter_with t)) o)
    → IsSome (option_map (memory_in x.randoms x.sessions x.book) o)
of_station x t None is = absurd (cc)
of_station x t (Some l) is = (cc)

any_came : (x : CoordinatorState) (got : Accepted) (o : Option StationMemory)
    → IfSome (option_map (memory_in x.randoms x.sessions x.book) o) (λ m. CameTo Coordinator got m)
any_came x got None = tt
any_came x got (Some l) = tt

waiting_too : (x : CoordinatorState) (t : State StationMemory) (o : Option StationMemory)
    → IfSome (option_map (memory_with (meter_with t)) o) (λ m. WaitingFits m.station)
    → IfSome (option_map (memory_in x.randoms x.sessions x.book) o) (λ m. WaitingFits m.station)
waiting_too x t None w = tt
waiting_too x t (Some l) w = w

runs_too : (x : CoordinatorState) (t : State StationMemory) (got : Accepted) → MayHear (of_meter (meter_with t)) got
    → MayHear (of_coordinator (with_its t x)) got
runs_too x t got h =
    record { running = of_station x t t.memory h.running; came = any_came x got t.memory; waits = waiting_too x t t.memory h.waits }

-- the coordinator that accepted a frame may hear it
pub may_hear : (x : CoordinatorState) (s t : State StationMemory) (a : Option Arrived) (r : Result Accepted FrameRefusal) (out : Out)
    → IfNone s.memory ((r ≡ Err Halted) × (t ≡ s)) → IfSome s.memory (λ l. Carries s (accept l s.eui a) r out t)
    → IfOk r (λ _. IsSome t.memory) → IfSome t.memory (λ l. WaitingFits l) → IfOk r (λ got. MayHear (of_coordinator (with_its t x)) got)
may_hear x s t a (Ok got) out halted carries running waits =
    runs_too x t got (meter_may_hear (meter_with s) s t a (Ok got) out halted carries running waits)
may_hear x s t a (Err reason) out halted carries running waits = tt

module _ (x y : CoordinatorState) (got : Accepted) (cost note now : ℕ) (r : Result CoordinatorHeard Dropped) (out : Out) (sound : IsSoundCoordinator x)
    (may : MayHear (of_coordinator x) got) where
  -- what it does about the frame
  abbrev plan : Memory → Plan Memory (Result CoordinatorHeard Dropped)
  plan m = coordinator_rules.hear_coordinator (identity_of x) m got cost note now

  node_outcome : IfSome (node_of x).memory (λ m. Carries (node_of x) (plan m) r out (node_of y))
      → Took (acts (of_coordinator x) (Err drops.Store) plan) r out (of_coordinator y)
  node_outcome carries = own_took x y (Err drops.Store) plan r out sound (not_none (node_of x).memory _ may.running) carries

  pub heard : IfSome (node_of x).memory (λ m. Carries (node_of x) (plan m) r out (node_of y))
      → Took (hearing_step network (of_coordinator x) got cost note now) (hearing_step network (of_coordinator x) got cost note now).answer out
      (of_coordinator y)
  heard carries = let t = node_outcome carries in record { answer_is = refl; out_is = t.out_is; node_is = t.node_is }

  pub reported : IfSome (node_of x).memory (λ m. Carries (node_of x) (plan m) r out (node_of y)) → (word : Reception)
      → ReportsReception word (rules.coordinator_reception r) → ReportsReception word (hearing_step network (of_coordinator x) got cost note now).answer
  reported carries word t =
      subst (λ (k : Result CoordinatorHeard Dropped). ReportsReception word (rules.coordinator_reception k)) (node_outcome carries).answer_is t

  pub heard_sound : IfSome (node_of x).memory (λ m. Carries (node_of x) (plan m) r out (node_of y)) → CoordinatorAgrees (node_of y) → IsSoundCoordinator y
  heard_sound carries h =
      ringless_sound x y (Err drops.Store) plan r out (λ m short. (coordinators_in_place (identity_of x) m short).hears got cost note now)
      (λ m. (coordinators_write_no_ring (identity_of x) m).hears got cost note now) sound (not_none (node_of x).memory _ may.running) carries h

  -- the reply that it reports of a route message is among the frames of its step
  pub replied_is : IfSome (node_of x).memory (λ m. Carries (node_of x) (plan m) r out (node_of y)) → (last reported : Option Reply)
      → parts_of reported ≡ parts_of last
      → IfSome (node_of x).memory (λ m. unread (hear m.station got cost note now).answer ≡ None → last ≡ reply_sent (plan m) (node_of y).memory)
      → IsSome (message_of got)
      → reported ≡ reply_among (hearing_step network (of_coordinator x) got cost note now).frames
  replied_is carries last reported same replied is =
      let m = there_is (node_of x).memory may.running in
      reply_is (of_coordinator x) (Err drops.Store) plan m.0 (node_of y).memory last reported m.1 (ap (λ (n : Node). n.memory) (node_outcome carries).node_is)
      (at (node_of x).memory (λ m. unread (hear m.station got cost note now).answer ≡ None → last ≡ reply_sent (plan m) (node_of y).memory) m.0 m.1 replied
      (messages_unread m.0.station cost note now got is)) same

-- a grant that went out is reported of nowhere
pub reported_beside : (word : Reception) (r : rules.Reception) (keyed : Option rules.SentGrant) → ReportsReception word r
    → ReportsReception word (record r { keyed = keyed })
reported_beside word r keyed t = record { answer = t.answer; up = t.up; took = t.took; done = t.done }
