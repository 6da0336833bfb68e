-- What comes to one node, and what it does by itself, leaves the others as they are.
use Rattle.std.proofs.Common.{◌≡◌, ◌≢◌, ℕ, Bool, true, false, List, Option, Some, None, Result, Ok, Err, refl, sym, ap, subst, ◌∙◌}
use Rattle.std.specs.Prelude.{if◌then◌else◌, is_some}
use Rattle.std.specs.Option.{option_and_then}
use Rattle.plc_base.specs.declared.keeper.BadStore.{BadStore}
use Rattle.store_tables.proofs.SlotTables.{slice_get-set_other}
use Rattle.node_rules.specs.Accepted.{Accepted}
use Rattle.node_rules.specs.declared.heard.Reply.{Reply}
use Rattle.node_rules.specs.declared.refusal.FrameRefusal.{FrameRefusal}
use Rattle.node_rules.specs.declared.refusal.LocalRefusal.{LocalRefusal}
use Rattle.node_rules.specs.Ciphers.{Ciphers}
use Rattle.node_rules.specs.Memory.{Memory, Node}
use Rattle.node_rules.specs.NodeSteps.{NodeStep}
use Rattle.reach_rules.specs.ReachingNodes.{Beside, restarted}
use Rattle.reach_rules.specs.Beacons.{is_discovery}
use Rattle.reach_rules.specs.FurtherReceptions.{NeighbourCommand, command_of}
use Rattle.line_events.specs.declared.event.Event.TheVariants as events
use Rattle.line_rules.specs.Forgery.{accepting}
use Rattle.line_rules.specs.Further.{accepted_further, acknowledged, acknowledged_if, comes}
use Rattle.line_rules.specs.Further.{delivers, discovers_by, further_hearing_outcome, hearing_outcome_by}
use Rattle.line_rules.specs.Further.{injects, is_dropped, line_step, restarts_by, restarts_further}
use Rattle.line_rules.specs.Steps.{hearing_outcome, hearing_step, leave, note_by, running_world, world_after}
use Rattle.line_rules.specs.Worlds.{World, Trace}
use Rattle.line_progress.specs.Held.{EventsLeaveOthers}
use Rattle.line_progress.proofs.Events.{StepHas, Taken, outcome_has, once, at_node, at_meter, at_flight}
use Rattle.line_progress.proofs.HeldEvents.{held_at, station_of}

module _ (ciphers : Ciphers) (w : World) (node : ℕ) where
  -- each other node is as before
  abbrev OthersStay : List Node → Type 0
  OthersStay ys = (number : ℕ) → number ≢ node → held_at ys number ≡ held_at w.nodes number

  abbrev Stays : World × Trace → Type 0
  Stays r = OthersStay r.0.nodes

  as_before : OthersStay w.nodes
  as_before number other = refl

  after_stays : {A : Type 0} (v : World) (d : NodeStep A) → OthersStay v.nodes → OthersStay (world_after ciphers v node d).nodes
  unfolding world_after
  after_stays v d stays number other =
      ap (option_and_then station_of) (slice_get-set_other v.nodes node number d.node other) ∙ stays number other

  either_stays : (b : Bool) (p q : World × Trace) → Stays p → Stays q → Stays (if b then p else q)
  either_stays true p q one other = one
  either_stays false p q one other = other

  discovers_stay : (x : Node) (octets : List ℕ) (link : ℕ) (o : Option Memory) → Stays (discovers_by w node x octets link o)
  discovers_stay x octets link None = as_before
  discovers_stay x octets link (Some m) = as_before

  acknowledged_stays : (a : NodeStep (Result (Unit {0}) LocalRefusal)) (r : World × Trace) → Stays r → Stays (acknowledged ciphers w node a r)
  acknowledged_stays a r stays = either_stays (is_some a.node.memory) _ _ (after_stays r.0 a stays) (after_stays r.0 a stays)

  acknowledged_if_stays : (x : Node) (o : Option Reply) (r : World × Trace) → Stays r → Stays (acknowledged_if ciphers w node x o r)
  acknowledged_if_stays x None r stays = stays
  acknowledged_if_stays x (Some reply) r stays = acknowledged_stays _ r stays

  heard_stays : (x : Node) (octets : List ℕ) (got : Accepted) (cost : ℕ) → Stays (hearing_outcome ciphers w node x octets got cost)
  heard_stays x octets got cost = after_stays (running_world w) _ as_before

  by_command_stays : (x : Node) (octets : List ℕ) (got : Accepted) (cost : ℕ) (o : Option NeighbourCommand)
      → Stays (hearing_outcome_by ciphers w node x octets got cost o)
  by_command_stays x octets got cost (Some c) = after_stays _ _ (heard_stays x octets got cost)
  by_command_stays x octets got cost None =
      either_stays w.checks_on _ _
      (acknowledged_if_stays (hearing_step ciphers x got cost (note_by w octets got.path) w.clock).node _ _ (heard_stays x octets got cost))
      (heard_stays x octets got cost)

  further_stays : (x : Node) (octets : List ℕ) (got : Accepted) (cost : ℕ) → Stays (further_hearing_outcome ciphers w node x octets got cost)
  further_stays x octets got cost =
      either_stays (is_dropped w node got) _ _ (after_stays (running_world w) _ as_before) (by_command_stays x octets got cost (command_of got))

  accepted_stays : (octets : List ℕ) (cost : ℕ) (d : NodeStep (Result Accepted FrameRefusal)) → Stays (accepted_further ciphers w node octets cost d)
  accepted_stays octets cost d = by_answer d.answer refl
    where
      by_answer : (a : Result Accepted FrameRefusal) → d.answer ≡ a → Stays (accepted_further ciphers w node octets cost d)
      by_answer (Ok got) e =
          subst (λ a. Stays (accepted_further ciphers w node octets cost (record d { answer = a }))) (sym e) (further_stays d.node octets got cost)
      by_answer (Err reason) e =
          subst (λ a. Stays (accepted_further ciphers w node octets cost (record d { answer = a }))) (sym e)
          (after_stays (running_world w) (record d { answer = Err reason }) as_before)

  comes_stays : (x : Node) (octets : List ℕ) (cost : ℕ) → Stays (comes ciphers w node x octets cost)
  unfolding comes
  comes_stays x octets cost =
      either_stays (is_discovery octets) _ _ (discovers_stay x octets cost x.memory) (accepted_stays octets cost (accepting ciphers x octets))

  leave_stays : StepHas Stays (leave ciphers w node)
  unfolding leave
  leave_stays = once Stays w _ (at_meter Stays w node _ (λ x e. Taken _ (after_stays (running_world w) _ as_before)))

  delivers_stay : (flight cost : ℕ) → StepHas Stays (delivers ciphers w flight node cost)
  unfolding delivers
  delivers_stay flight cost =
      once Stays w _ (at_node Stays w node _ (λ x e. at_flight Stays w flight _ (λ f g. Taken _ (comes_stays x f.octets cost))))

  injects_stay : (cost : ℕ) (octets : List ℕ) → StepHas Stays (injects ciphers w node cost octets)
  unfolding injects
  injects_stay cost octets = once Stays w _ (at_node Stays w node _ (λ x e. Taken _ (comes_stays x octets cost)))

  restarts_stay : (x : Node) (o : Result Beside BadStore) → Stays (restarts_by ciphers w node x o)
  restarts_stay x (Ok b) = after_stays (running_world w) _ as_before
  restarts_stay x (Err bad) = after_stays (running_world w) _ as_before

  restart_stays : StepHas Stays (restarts_further ciphers w node)
  unfolding restarts_further
  restart_stays = once Stays w _ (at_node Stays w node _ (λ x e. Taken _ (restarts_stay x (restarted x.store.records))))

pub events_leave : EventsLeaveOthers
events_leave ciphers w v (events.Leave node) d e number other =
    outcome_has (Stays ciphers w node) (line_step ciphers w (events.Leave node)) (v, d) (leave_stays ciphers w node) e number other
events_leave ciphers w v (events.Deliver flight node cost) d e number other =
    outcome_has (Stays ciphers w node) (line_step ciphers w (events.Deliver flight node cost)) (v, d) (delivers_stay ciphers w node flight cost) e number other
events_leave ciphers w v (events.Inject node cost octets) d e number other =
    outcome_has (Stays ciphers w node) (line_step ciphers w (events.Inject node cost octets)) (v, d) (injects_stay ciphers w node cost octets) e number other
events_leave ciphers w v (events.Restart node) d e number other =
    outcome_has (Stays ciphers w node) (line_step ciphers w (events.Restart node)) (v, d) (restart_stays ciphers w node) e number other
events_leave ciphers w v (events.Coordinator eui key) d e number other = absurd other
events_leave ciphers w v (events.Meter eui psk) d e number other = absurd other
events_leave ciphers w v (events.Depot node) d e number other = absurd other
events_leave ciphers w v (events.Near a b cost) d e number other = absurd other
events_leave ciphers w v (events.Counter node value) d e number other = absurd other
events_leave ciphers w v (events.Number node value) d e number other = absurd other
events_leave ciphers w v (events.Allow node) d e number other = absurd other
events_leave ciphers w v (events.RandomOctets node value) d e number other = absurd other
events_leave ciphers w v (events.Join node agent) d e number other = absurd other
events_leave ciphers w v (events.Send from to datagram) d e number other = absurd other
events_leave ciphers w v (events.Lose flight) d e number other = absurd other
events_leave ciphers w v (events.Break node next) d e number other = absurd other
events_leave ciphers w v (events.Tick seconds) d e number other = absurd other
events_leave ciphers w v (events.Cut node nth keeps_new) d e number other = absurd other
events_leave ciphers w v (events.Rekey index key) d e number other = absurd other
events_leave ciphers w v (events.Challenge node) d e number other = absurd other
events_leave ciphers w v (events.Activate node index) d e number other = absurd other
events_leave ciphers w v (events.Kick node) d e number other = absurd other
events_leave ciphers w v (events.Show node) d e number other = absurd other
events_leave ciphers w v events.Checks d e number other = absurd other
events_leave ciphers w v (events.Bcast node datagram) d e number other = absurd other
events_leave ciphers w v (events.Scan node) d e number other = absurd other
events_leave ciphers w v (events.Choose node k) d e number other = absurd other
events_leave ciphers w v (events.Path from to) d e number other = absurd other
