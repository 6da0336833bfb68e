-- The events that hand up no datagram and send none: all but `send`, `deliver` and `inject`.
use Rattle.std.proofs.Common.{◌≡◌, ℕ, ◌==◌, Bool, true, false, not, List, length, Option, Some, None, Result, Ok, Err, refl}
use Rattle.std.specs.Prelude.{if◌then◌else◌, is_some, nat_lt, ◌||◌}
use Rattle.plc_base.specs.declared.address.Eui.{Eui}
use Rattle.plc_base.specs.declared.key.Key.{Key}
use Rattle.plc_base.specs.declared.key.RandomOctets.{RandomOctets}
use Rattle.plc_base.specs.declared.keeper.BadStore.{BadStore}
use Rattle.plc_base.specs.Grant.{Granted}
use Rattle.node_rules.specs.declared.refusal.CoordinatorRefusal.{CoordinatorRefusal}
use Rattle.node_rules.specs.declared.refusal.CoordinatorRefusal.TheVariants as orders
use Rattle.node_rules.specs.Calls as calls
use Rattle.node_rules.specs.Ciphers.{Ciphers}
use Rattle.node_rules.specs.Coordinators as coordinator_rules
use Rattle.node_rules.specs.Memory.{StationMemory, Memory, Node, node_address}
use Rattle.node_rules.specs.NodeSteps.{NodeStep, acts}
use Rattle.reach_rules.specs.ReachingNodes.{restarted, Beside}
use Rattle.line_events.specs.declared.event.StepFault.TheVariants as faults
use Rattle.line_rules.specs.Further.{after_ok, asks_by, bcast, checks, choose, chooses_by}
use Rattle.line_rules.specs.Further.{path, restarts_by}
use Rattle.line_rules.specs.Further.{restarts_further, scan, scans_by, ticks}
use Rattle.line_rules.specs.Steps.{Step, activate, allow, allowed, breaks, breaks_by, challenge, coordinator, cut, depot, depot_by, has_begun}
use Rattle.line_rules.specs.Steps.{is_known, join, joins_by, kick, leave, lose, meter, near, near_by}
use Rattle.line_rules.specs.Steps.{preset, provisioned, psk_of, rand, rekey, set_up, show, takes_setup, tick, world_after}
use Rattle.line_rules.specs.Worlds.{World, Trace}
use Rattle.line_progress.proofs.Events.{StepHas, Fails, Taken, branch, by_option, once, setup, at_node, at_meter, at_flight}
use Rattle.std.specs.Prelude.{map, ◌+◌}
use Rattle.reach_rules.specs.ReachingNodes.{tick_beside}
use Rattle.line_rules.specs.Steps.{running_world, ticked, trace_of, happenings}
use Rattle.line_events.specs.declared.event.Answer.TheVariants as answers

-- no datagram is handed up, and none is sent
abbrev pub IsMute : World × Trace → Type 0
IsMute r = (r.1.happenings.up ≡ None) × (r.1.sent ≡ None)

module _ (ciphers : Ciphers) (w : World) where
  abbrev Mute : Step → Type 0
  Mute s = StepHas IsMute s

  -- # Setup

  pub coordinator_mute : (eui : Eui) (key : Key) → Mute (coordinator w eui key)
  unfolding coordinator
  coordinator_mute eui key = branch IsMute (has_begun w) _ _ (Fails faults.Setup) (Taken _ (refl, refl))

  pub meter_mute : (eui : Eui) (psk : Key) → Mute (meter w eui psk)
  unfolding meter
  meter_mute eui psk =
      branch IsMute (not (takes_setup w) || (nat_lt 999 (length w.nodes) || is_known w eui)) _ _ (Fails faults.Setup) (Taken _ (refl, refl))

  depot_by_mute : (number : ℕ) (x : Node) (d : NodeStep (Result Granted CoordinatorRefusal)) → Mute (depot_by ciphers w number x d)
  depot_by_mute number x d = by_answer d.answer refl
    where
      by_answer : (r : Result Granted CoordinatorRefusal) → d.answer ≡ r → Mute (depot_by ciphers w number x d)
      by_answer (Ok g) e = rw e (Taken (provisioned ciphers (world_after ciphers (set_up w) 0 (record d { answer = Ok g })) number x g) (refl, refl))
      by_answer (Err reason) e = rw e (Fails faults.Setup)

  pub depot_mute : (number : ℕ) → Mute (depot ciphers w number)
  unfolding depot
  depot_mute number =
      setup IsMute w _ (at_node IsMute w number _ (λ x e. at_node IsMute w 0 _ (λ c f.
      branch IsMute ((number == 0) || is_some (node_address x)) _ _ (Fails faults.Setup)
      (by_option IsMute (λ psk. depot_by ciphers w number x (acts c (Err orders.Halted) (λ m. coordinator_rules.depot m x.eui psk))) (psk_of x) _
      (λ psk g. depot_by_mute number x _) (Fails faults.Setup)))))

  near_by_mute : (a b cost : ℕ) (x y : Node) (p q : Option ℕ) → Mute (near_by ciphers w a b cost x y p q)
  near_by_mute a b cost x y None q = Fails faults.Setup
  near_by_mute a b cost x y (Some p) None = Fails faults.Setup
  near_by_mute a b cost x y (Some p) (Some q) = branch IsMute _ _ _ (Fails faults.Setup) (Taken _ (refl, refl))

  pub near_mute : (a b cost : ℕ) → Mute (near ciphers w a b cost)
  unfolding near
  near_mute a b cost =
      setup IsMute w _ (at_node IsMute w a _ (λ x e. at_node IsMute w b _ (λ y f. near_by_mute a b cost x y (node_address x) (node_address y))))

  pub preset_mute : (number : ℕ) (plan : StationMemory → calls.Presetting) → Mute (preset ciphers w number plan)
  preset_mute number plan = setup IsMute w _ (at_node IsMute w number _ (λ x e. Taken _ (refl, refl)))

  pub checks_mute : Mute (checks w)
  unfolding checks
  checks_mute = setup IsMute w _ (branch IsMute w.checks_on _ _ (Fails faults.Setup) (Taken _ (refl, refl)))

  -- # Calls of nodes

  pub allow_mute : (number : ℕ) → Mute (allow ciphers w number)
  unfolding allow
  allow_mute number =
      once IsMute w _ (at_meter IsMute w number _ (λ x e. at_node IsMute w 0 _ (λ c f.
      by_option IsMute (λ psk. Ok (allowed ciphers w number (acts c (Err orders.Halted) (λ m. coordinator_rules.allow m x.eui psk)))) (psk_of x) _
      (λ psk g. Taken _ (refl, refl)) (Fails faults.Node))))

  pub rand_mute : (number : ℕ) (value : RandomOctets) → Mute (rand ciphers w number value)
  unfolding rand
  rand_mute number value = once IsMute w _ (at_node IsMute w number _ (λ x e. Taken _ (refl, refl)))

  joins_mute : (number : ℕ) (x : Node) (agent : Option ℕ) (psk : Option Key) → IsMute (joins_by ciphers w number x agent psk)
  joins_mute number x None psk = (refl, refl)
  joins_mute number x (Some agent) None = (refl, refl)
  joins_mute number x (Some agent) (Some psk) = (refl, refl)

  pub join_mute : (number agent : ℕ) → Mute (join ciphers w number agent)
  unfolding join
  join_mute number agent =
      once IsMute w _ (at_meter IsMute w number _ (λ x e. at_node IsMute w agent _ (λ y f. Taken _ (joins_mute number x (node_address y) (psk_of x)))))

  pub leave_mute : (number : ℕ) → Mute (leave ciphers w number)
  unfolding leave
  leave_mute number = once IsMute w _ (at_meter IsMute w number _ (λ x e. Taken _ (refl, refl)))

  breaks_by_mute : (number : ℕ) (x : Node) (next : Option ℕ) → IsMute (breaks_by ciphers w number x next)
  breaks_by_mute number x None = (refl, refl)
  breaks_by_mute number x (Some next) = (refl, refl)

  pub breaks_mute : (number next : ℕ) → Mute (breaks ciphers w number next)
  unfolding breaks
  breaks_mute number next =
      once IsMute w _ (at_node IsMute w number _ (λ x e. at_node IsMute w next _ (λ y f. Taken _ (breaks_by_mute number x (node_address y)))))

  pub lose_mute : (number : ℕ) → Mute (lose w number)
  unfolding lose
  lose_mute number = once IsMute w _ (at_flight IsMute w number _ (λ f e. Taken _ (refl, refl)))

  pub ticks_mute : (seconds : ℕ) → Mute (ticks w seconds)
  unfolding ticks tick
  ticks_mute seconds = by_begun (has_begun w)
    where
      by_begun : (b : Bool) → Mute (after_ok (λ r. (record r.0 { beside = map (tick_beside (w.clock + seconds)) w.beside }, r.1)) (if b then Ok (
        record (running_world w) { clock = w.clock + seconds; nodes = map (ticked (w.clock + seconds)) w.nodes },
        trace_of (happenings w answers.Ticked),
      ) else Err faults.Setup))
      by_begun true = Taken _ (refl, refl)
      by_begun false = Fails faults.Setup

  restarts_mute : (number : ℕ) (x : Node) (o : Result Beside BadStore) → IsMute (restarts_by ciphers w number x o)
  restarts_mute number x (Ok b) = (refl, refl)
  restarts_mute number x (Err bad) = (refl, refl)

  pub restart_mute : (number : ℕ) → Mute (restarts_further ciphers w number)
  unfolding restarts_further
  restart_mute number = once IsMute w _ (at_node IsMute w number _ (λ x e. Taken _ (restarts_mute number x (restarted x.store.records))))

  pub cut_mute : (number nth : ℕ) (keeps_new : Bool) → Mute (cut ciphers w number nth keeps_new)
  unfolding cut
  cut_mute number nth keeps_new = once IsMute w _ (at_node IsMute w number _ (λ x e. Taken _ (refl, refl)))

  pub show_mute : (number : ℕ) → Mute (show w number)
  unfolding show
  show_mute number = once IsMute w _ (at_node IsMute w number _ (λ x e. Taken _ (refl, refl)))

  pub rekey_mute : (index : ℕ) (key : Key) → Mute (rekey ciphers w index key)
  unfolding rekey
  rekey_mute index key = once IsMute w _ (at_node IsMute w 0 _ (λ c e. Taken _ (refl, refl)))

  pub challenge_mute : (number : ℕ) → Mute (challenge ciphers w number)
  unfolding challenge
  challenge_mute number = once IsMute w _ (at_meter IsMute w number _ (λ x e. at_node IsMute w 0 _ (λ c f. Taken _ (refl, refl))))

  pub either_mute : (b : Bool) (p q : World × Trace) → IsMute p → IsMute q → IsMute (if b then p else q)
  either_mute true p q one other = one
  either_mute false p q one other = other

  pub activate_mute : (number index : ℕ) → Mute (activate ciphers w number index)
  unfolding activate
  activate_mute number index =
      once IsMute w _ (at_node IsMute w number _ (λ x e. at_node IsMute w 0 _
      (λ c f. Taken _ (either_mute (number == 0) _ _ (refl, refl) (refl, refl)))))

  pub kick_mute : (number : ℕ) → Mute (kick ciphers w number)
  unfolding kick
  kick_mute number = once IsMute w _ (at_meter IsMute w number _ (λ x e. at_node IsMute w 0 _ (λ c f. Taken _ (refl, refl))))

  -- # Further reach

  pub bcast_mute : (number : ℕ) (datagram : List ℕ) → Mute (bcast ciphers w number datagram)
  unfolding bcast
  bcast_mute number datagram = once IsMute w _ (at_node IsMute w number _ (λ x e. Taken _ (refl, refl)))

  asks_mute : (number : ℕ) (x : Node) (target : Option ℕ) → IsMute (asks_by ciphers w number x target)
  asks_mute number x None = (refl, refl)
  asks_mute number x (Some target) = (refl, refl)

  pub path_mute : (from to : ℕ) → Mute (path ciphers w from to)
  unfolding path
  path_mute from to = once IsMute w _ (at_node IsMute w from _ (λ x e. at_node IsMute w to _ (λ y f. Taken _ (asks_mute from x (node_address y)))))

  scans_mute : (number : ℕ) (o : Option Memory) → IsMute (scans_by w number o)
  scans_mute number None = (refl, refl)
  scans_mute number (Some m) = (refl, refl)

  pub scan_mute : (number : ℕ) → Mute (scan w number)
  unfolding scan
  scan_mute number = once IsMute w _ (at_meter IsMute w number _ (λ x e. Taken _ (scans_mute number x.memory)))

  chooses_mute : (number : ℕ) (x : Node) (k : ℕ) (psk : Option Key) → IsMute (chooses_by ciphers w number x k psk)
  chooses_mute number x k None = (refl, refl)
  chooses_mute number x k (Some psk) = (refl, refl)

  pub choose_mute : (number k : ℕ) → Mute (choose ciphers w number k)
  unfolding choose
  choose_mute number k = once IsMute w _ (at_meter IsMute w number _ (λ x e. Taken _ (chooses_mute number x k (psk_of x))))
