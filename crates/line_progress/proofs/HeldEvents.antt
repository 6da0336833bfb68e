-- What each kind of event but five leaves of what nodes hold.
use Rattle.std.proofs.Common.{◌≡◌, ℕ, zero, suc, ◌+◌, ◌==◌, Bool, true, false, not, List, [], ◌∷◌, ◌++◌, length, Option, Some, None, Result, Ok, Err, refl, sym}
use Rattle.std.proofs.Common.{ap, subst, ◌∙◌}
use Rattle.std.specs.Prelude.{if◌then◌else◌, is_some, nat_lt, ◌||◌, slice_get, slice_set}
use Rattle.std.specs.Option.{option_map, option_and_then}
use Rattle.std.proofs.lemmas.Bool.{eqb-true, eqb-false}
use Rattle.std.proofs.lemmas.Option.{same_Some}
use Rattle.plc_base.specs.declared.address.Eui.{Eui}
use Rattle.plc_base.specs.declared.key.Key.{Key}
use Rattle.plc_base.specs.declared.key.RandomOctets.{RandomOctets}
use Rattle.plc_base.specs.Grant.{Granted}
use Rattle.store_tables.proofs.SlotTables.{slice_get-set_other}
use Rattle.node_rules.specs.declared.refusal.CoordinatorRefusal.{CoordinatorRefusal}
use Rattle.node_rules.specs.declared.refusal.CoordinatorRefusal.TheVariants as orders
use Rattle.node_rules.specs.declared.refusal.SendRefusal.TheVariants as refusals
use Rattle.node_rules.specs.Calls as calls
use Rattle.node_rules.specs.Ciphers.{Ciphers}
use Rattle.node_rules.specs.Coordinators as coordinator_rules
use Rattle.node_rules.specs.Drafts.{alone}
use Rattle.node_rules.specs.Memory.{StationMemory, Memory, Node, node_address}
use Rattle.node_rules.specs.NodeSteps.{NodeStep, acts, answering, of_station}
use Rattle.node_rules.specs.Plans.{Plan}
use Rattle.line_events.specs.declared.event.Answer.TheVariants as answers
use Rattle.line_events.specs.declared.event.Event.{Event}
use Rattle.line_events.specs.declared.event.Event.TheVariants as events
use Rattle.line_events.specs.declared.event.StepFault.TheVariants as faults
use Rattle.line_rules.specs.Answers.{sent_word}
use Rattle.line_rules.specs.Further.{asks_by, bcast, beside_at, checks, choose, chooses_by, line_step, path, scan, scans_by}
use Rattle.line_rules.specs.Steps.{Step, activate, allow, allowed, breaks, breaks_by, challenge, coordinator, cut, depot, depot_by, has_begun}
use Rattle.line_rules.specs.Steps.{identity, is_known, join, joins_by as node_joins_by, kick, lose, meter}
use Rattle.line_rules.specs.Steps.{near, near_by, node_outcome, preset, provisioned, psk_of, rand, rekey}
use Rattle.line_rules.specs.Steps.{running_world, send, sends_by, sent_if, set_up, show, tag_of, takes_setup, world_after}
use Rattle.line_rules.specs.Worlds.{World, Trace, node_at}
use Rattle.line_progress.specs.Held.{KeepsHeld, EventsKeepHeld, may_end_held}
use Rattle.line_progress.proofs.WholePlans.{Acted, Whole, Failed, acts_either}
use Rattle.line_progress.proofs.Events.{StepHas, Fails, Taken, outcome_has, branch, by_option, once, setup, at_node, at_meter, at_flight}
use Rattle.line_progress.proofs.HeldKept.{PlanKeeps, same_held, send_keeps, counter_keeps, number_keeps, near_keeps, install_keeps, random_keeps, join_keeps}
use Rattle.line_progress.proofs.HeldKept.{allow_keeps, depot_keeps, rekey_keeps, activate_self_keeps, challenge_keeps, activate_keeps, kick_keeps}
use Rattle.line_progress.proofs.HeldKept.{broadcast_keeps, asks_keep, broke_keeps, chooses_keep}

-- # Nodes

abbrev pub station_of : Node → Option StationMemory
station_of x = option_map (λ (m : Memory). m.station) x.memory

abbrev pub held_at : List Node → ℕ → Option StationMemory
held_at xs number = option_and_then station_of (slice_get xs number)

-- a node that runs before and after holds all that it held; and so do all nodes
abbrev NodeKeeps : Node → Node → Type 0
NodeKeeps x y = (l now : StationMemory) → station_of x ≡ Some l → station_of y ≡ Some now → KeepsHeld l now

abbrev NodesKeep : List Node → List Node → Type 0
NodesKeep xs ys = (number : ℕ) (l now : StationMemory) → held_at xs number ≡ Some l → held_at ys number ≡ Some now → KeepsHeld l now

same_keeps : (o : Option StationMemory) (l now : StationMemory) → o ≡ Some l → o ≡ Some now → KeepsHeld l now
same_keeps o l now e f = subst (λ n. KeepsHeld l n) (same_Some l now (sym e ∙ f)) (same_held l)

nodes_same : (xs : List Node) → NodesKeep xs xs
nodes_same xs number l now e f = same_keeps (held_at xs number) l now e f

nodes_more : (xs ys : List Node) → NodesKeep xs (xs ++ ys)
nodes_more [] ys number l now e f = absurd (cc)
nodes_more (x ∷ xs) ys zero l now e f = same_keeps (station_of x) l now e f
nodes_more (x ∷ xs) ys (suc number) l now e f = nodes_more xs ys number l now e f

got_set : (ys : List Node) (number : ℕ) (y : Node) (now : StationMemory) → held_at (slice_set ys number y) number ≡ Some now → station_of y ≡ Some now
got_set [] number y now e = absurd (cc)
got_set (z ∷ ys) zero y now e = e
got_set (z ∷ ys) (suc number) y now e = got_set ys number y now e

nodes_set : (xs ys : List Node) (number : ℕ) (x y : Node) → NodesKeep xs ys → slice_get xs number ≡ Some x → NodeKeeps x y
    → NodesKeep xs (slice_set ys number y)
nodes_set xs ys number x y keeps there node n l now e f = by_place (n == number) refl
  where
    by_place : (b : Bool) → (n == number) ≡ b → KeepsHeld l now
    by_place true same =
        let is : n ≡ number = eqb-true n number same in
        node l now (sym (ap (option_and_then station_of) (ap (slice_get xs) is ∙ there)) ∙ e)
        (got_set ys number y now (sym (ap (held_at (slice_set ys number y)) is) ∙ f))
    by_place false other =
        keeps n l now e
        (sym (ap (option_and_then station_of) (slice_get-set_other ys number n y (eqb-false n number other))) ∙ f)

acts_keep : {A : Type 0} (x : Node) (halts : A) (plan : Memory → Plan Memory A) → ((m : Memory) → KeepsHeld m.station (plan m).memory.station)
    → NodeKeeps x (acts x halts plan).node
acts_keep {A} x halts plan keeps l now e f = by_memory x.memory refl
  where
    by_act : (m : Memory) → x.memory ≡ Some m → Acted (plan m) (acts x halts plan) → KeepsHeld l now
    by_act m runs (Whole a frames left) =
        let old : m.station ≡ l = same_Some m.station l (sym (ap (option_map (λ (n : Memory). n.station)) runs) ∙ e) in
        let new : (plan m).memory.station ≡ now =
        same_Some (plan m).memory.station now (sym (ap (option_map (λ (n : Memory). n.station)) left) ∙ f) in
        subst (λ s. KeepsHeld s now) old (subst (λ s. KeepsHeld m.station s) new (keeps m))
    by_act m runs (Failed a frames left) =
        let none : station_of (acts x halts plan).node ≡ None = ap (option_map (λ (n : Memory). n.station)) left in
        absurd (cc)

    by_memory : (o : Option Memory) → x.memory ≡ o → KeepsHeld l now
    by_memory None halted =
        let none : station_of x ≡ None = ap (option_map (λ (n : Memory). n.station)) halted in
        absurd (cc)
    by_memory (Some m) runs = by_act m runs (acts_either x m halts plan runs)

-- # Events

module _ (ciphers : Ciphers) (w : World) where
  abbrev Keeps : World × Trace → Type 0
  Keeps r = NodesKeep w.nodes r.0.nodes

  abbrev Kept : Step → Type 0
  Kept s = StepHas Keeps s

  as_before : NodesKeep w.nodes w.nodes
  as_before = nodes_same w.nodes

  after_keeps : {A : Type 0} (v : World) (number : ℕ) (x : Node) (d : NodeStep A) → NodesKeep w.nodes v.nodes → node_at w number ≡ Some x
      → NodeKeeps x d.node → NodesKeep w.nodes (world_after ciphers v number d).nodes
  unfolding world_after
  after_keeps v number x d keeps there node = nodes_set w.nodes v.nodes number x d.node keeps there node

  coordinator_kept : (eui : Eui) (key : Key) → Kept (coordinator w eui key)
  unfolding coordinator
  coordinator_kept eui key = branch Keeps (has_begun w) _ _ (Fails faults.Setup) (Taken _ (nodes_more w.nodes _))

  meter_kept : (eui : Eui) (psk : Key) → Kept (meter w eui psk)
  unfolding meter
  meter_kept eui psk =
      branch Keeps (not (takes_setup w) || (nat_lt 999 (length w.nodes) || is_known w eui)) _ _ (Fails faults.Setup) (Taken _ (nodes_more w.nodes _))

  depot_by_kept : (number : ℕ) (x c : Node) (d : NodeStep (Result Granted CoordinatorRefusal)) → node_at w number ≡ Some x → node_at w 0 ≡ Some c
      → NodeKeeps c d.node → Kept (depot_by ciphers w number x d)
  depot_by_kept number x c d there here keeps = by_answer d.answer refl
    where
      by_answer : (r : Result Granted CoordinatorRefusal) → d.answer ≡ r → Kept (depot_by ciphers w number x d)
      by_answer (Ok g) e = rw e (Taken (provisioned ciphers (world_after ciphers (set_up w) 0 (record d { answer = Ok g })) number x g)
          (after_keeps _ number x _ (after_keeps (set_up w) 0 c (record d { answer = Ok g }) as_before here keeps) there
          (acts_keep x _ _ (λ m. (install_keeps m.station g).held))))
      by_answer (Err reason) e = rw e (Fails faults.Setup)

  depot_kept : (number : ℕ) → Kept (depot ciphers w number)
  unfolding depot
  depot_kept number =
      setup Keeps w _ (at_node Keeps w number _ (λ x e. at_node Keeps w 0 _ (λ c f.
      branch Keeps ((number == 0) || is_some (node_address x)) _ _ (Fails faults.Setup)
      (by_option Keeps (λ psk. depot_by ciphers w number x (acts c (Err orders.Halted) (λ m. coordinator_rules.depot m x.eui psk))) (psk_of x) _
      (λ psk g. depot_by_kept number x c _ e f (acts_keep c _ _ (λ m. (depot_keeps m x.eui psk).held))) (Fails faults.Setup)))))

  near_by_kept : (a b cost : ℕ) (x y : Node) (p q : Option ℕ) → node_at w a ≡ Some x → node_at w b ≡ Some y → Kept (near_by ciphers w a b cost x y p q)
  near_by_kept a b cost x y None q e f = Fails faults.Setup
  near_by_kept a b cost x y (Some p) None e f = Fails faults.Setup
  near_by_kept a b cost x y (Some p) (Some q) e f =
      branch Keeps _ _ _ (Fails faults.Setup)
      (Taken _ (after_keeps _ b y _ (after_keeps (set_up w) a x _ as_before e (acts_keep x (Ok tt) _ (λ m. (near_keeps m.station q cost w.clock).held))) f
      (acts_keep y (Ok tt) _ (λ m. (near_keeps m.station p cost w.clock).held))))

  near_kept : (a b cost : ℕ) → Kept (near ciphers w a b cost)
  unfolding near
  near_kept a b cost =
      setup Keeps w _ (at_node Keeps w a _ (λ x e. at_node Keeps w b _ (λ y f. near_by_kept a b cost x y (node_address x) (node_address y) e f)))

  preset_kept : (number : ℕ) (plan : StationMemory → calls.Presetting) → ((l : StationMemory) → PlanKeeps alone l (plan l))
      → Kept (preset ciphers w number plan)
  preset_kept number plan keeps =
      setup Keeps w _ (at_node Keeps w number _ (λ x e. Taken _ (after_keeps (set_up w) number x _ as_before e (acts_keep x _ _ (λ m.
      (keeps m.station).held)))))

  checks_kept : Kept (checks w)
  unfolding checks
  checks_kept = setup Keeps w _ (branch Keeps w.checks_on _ _ (Fails faults.Setup) (Taken _ as_before))

  allow_kept : (number : ℕ) → Kept (allow ciphers w number)
  unfolding allow
  allow_kept number =
      once Keeps w _ (at_meter Keeps w number _ (λ x e. at_node Keeps w 0 _ (λ c f.
      by_option Keeps (λ psk. Ok (allowed ciphers w number (acts c (Err orders.Halted) (λ m. coordinator_rules.allow m x.eui psk)))) (psk_of x) _
      (λ psk g. Taken _ (after_keeps (running_world w) 0 c _ as_before f (acts_keep c _ _ (λ m. (allow_keeps m x.eui psk).held)))) (Fails faults.Node))))

  rand_kept : (number : ℕ) (value : RandomOctets) → Kept (rand ciphers w number value)
  unfolding rand
  rand_kept number value =
      once Keeps w _ (at_node Keeps w number _ (λ x e. Taken _ (after_keeps (running_world w) number x _ as_before e (acts_keep x _ _ (λ m.
      (random_keeps m value).held)))))

  joins_kept : (number : ℕ) (x : Node) (agent : Option ℕ) (psk : Option Key) → node_at w number ≡ Some x → Keeps (node_joins_by ciphers w number x agent psk)
  joins_kept number x None psk e = as_before
  joins_kept number x (Some agent) None e = as_before
  joins_kept number x (Some agent) (Some psk) e =
      after_keeps (running_world w) number x _ as_before e (acts_keep x _ _ (λ m. (join_keeps m (identity ciphers x psk) agent w.clock).held))

  join_kept : (number agent : ℕ) → Kept (join ciphers w number agent)
  unfolding join
  join_kept number agent =
      once Keeps w _ (at_meter Keeps w number _ (λ x e. at_node Keeps w agent _ (λ y f. Taken _ (joins_kept number x (node_address y) (psk_of x) e))))

  sent_keeps : (from to : ℕ) (datagram : List ℕ) (tag : ℕ) (b : Bool) (r : World × Trace) → Keeps r → Keeps (sent_if w from to datagram tag b r)
  sent_keeps from to datagram tag false r k = k
  sent_keeps from to datagram tag true r k = k

  sends_kept : (from to : ℕ) (datagram : List ℕ) (x : Node) (address : Option ℕ) → node_at w from ≡ Some x
      → Keeps (sends_by ciphers w from to datagram x address)
  sends_kept from to datagram x None e = as_before
  sends_kept from to datagram x (Some address) e =
      sent_keeps from to datagram (tag_of x) _ (node_outcome ciphers w from (answering sent_word
      (acts x (Err refusals.Halted) (λ m. of_station m (calls.send m.station address datagram (w.sends + 1) w.clock))))) (after_keeps
      (running_world w) from x _ as_before e (acts_keep x _ _ (λ m. (send_keeps m.station address datagram (w.sends + 1) w.clock).held)))

  send_kept : (from to : ℕ) (datagram : List ℕ) → Kept (send ciphers w from to datagram)
  unfolding send
  send_kept from to datagram =
      once Keeps w _ (at_node Keeps w from _ (λ x e. at_node Keeps w to _ (λ y f. Taken _ (sends_kept from to datagram x (node_address y) e))))

  lose_kept : (number : ℕ) → Kept (lose w number)
  unfolding lose
  lose_kept number = once Keeps w _ (at_flight Keeps w number _ (λ f e. Taken _ as_before))

  breaks_by_kept : (number : ℕ) (x : Node) (next : Option ℕ) → node_at w number ≡ Some x → Keeps (breaks_by ciphers w number x next)
  breaks_by_kept number x None e = as_before
  breaks_by_kept number x (Some next) e =
      after_keeps (running_world w) number x _ as_before e (acts_keep x _ _ (λ m. (broke_keeps m answers.Broken next).held))

  breaks_kept : (number next : ℕ) → Kept (breaks ciphers w number next)
  unfolding breaks
  breaks_kept number next =
      once Keeps w _ (at_node Keeps w number _ (λ x e. at_node Keeps w next _ (λ y f. Taken _ (breaks_by_kept number x (node_address y) e))))

  cut_kept : (number nth : ℕ) (keeps_new : Bool) → Kept (cut ciphers w number nth keeps_new)
  unfolding cut
  cut_kept number nth keeps_new =
      once Keeps w _ (at_node Keeps w number _ (λ x e.
      Taken _ (after_keeps (running_world w) number x _ as_before e (λ l now f g. same_keeps (station_of x) l now f g))))

  show_kept : (number : ℕ) → Kept (show w number)
  unfolding show
  show_kept number = once Keeps w _ (at_node Keeps w number _ (λ x e. Taken _ as_before))

  rekey_kept : (index : ℕ) (key : Key) → Kept (rekey ciphers w index key)
  unfolding rekey
  rekey_kept index key =
      once Keeps w _ (at_node Keeps w 0 _ (λ c e. Taken _ (after_keeps (running_world w) 0 c _ as_before e (acts_keep c _ _ (λ m.
      (rekey_keeps m index key).held)))))

  challenge_kept : (number : ℕ) → Kept (challenge ciphers w number)
  unfolding challenge
  challenge_kept number =
      once Keeps w _ (at_meter Keeps w number _ (λ x e. at_node Keeps w 0 _ (λ c f.
      Taken _ (after_keeps (running_world w) 0 c _ as_before f (acts_keep c _ _ (λ m. (challenge_keeps m c.eui x.eui w.clock).held))))))

  either_keeps : (b : Bool) (p q : World × Trace) → Keeps p → Keeps q → Keeps (if b then p else q)
  either_keeps true p q one other = one
  either_keeps false p q one other = other

  activate_kept : (number index : ℕ) → Kept (activate ciphers w number index)
  unfolding activate
  activate_kept number index =
      once Keeps w _ (at_node Keeps w number _ (λ x e. at_node Keeps w 0 _ (λ c f.
      Taken _ (either_keeps (number == 0) _ _ (after_keeps (running_world w) 0 c _ as_before f (acts_keep c _ _ (λ m. (activate_self_keeps m index).held)))
      (after_keeps (running_world w) 0 c _ as_before f (acts_keep c _ _ (λ m. (activate_keeps m x.eui index w.clock).held)))))))

  kick_kept : (number : ℕ) → Kept (kick ciphers w number)
  unfolding kick
  kick_kept number =
      once Keeps w _ (at_meter Keeps w number _ (λ x e. at_node Keeps w 0 _ (λ c f. Taken _ (after_keeps (running_world w) 0 c _ as_before f
      (acts_keep c _ _ (λ m. (kick_keeps m x.eui).held))))))

  -- # Further reach

  bcast_kept : (number : ℕ) (datagram : List ℕ) → Kept (bcast ciphers w number datagram)
  unfolding bcast
  bcast_kept number datagram =
      once Keeps w _ (at_node Keeps w number _ (λ x e. Taken _ (after_keeps (running_world w) number x _ as_before e
      (acts_keep x _ _ (λ m. (broadcast_keeps (record { memory = m; beside = beside_at w number }) datagram).held)))))

  asks_kept : (number : ℕ) (x : Node) (target : Option ℕ) → node_at w number ≡ Some x → Keeps (asks_by ciphers w number x target)
  asks_kept number x None e = as_before
  asks_kept number x (Some target) e =
      after_keeps (running_world w) number x _ as_before e
      (acts_keep x _ _ (λ m. (asks_keep (record { memory = m; beside = beside_at w number }) target).held))

  path_kept : (from to : ℕ) → Kept (path ciphers w from to)
  unfolding path
  path_kept from to =
      once Keeps w _ (at_node Keeps w from _ (λ x e. at_node Keeps w to _ (λ y f. Taken _ (asks_kept from x (node_address y) e))))

  scans_kept : (number : ℕ) (o : Option Memory) → Keeps (scans_by w number o)
  scans_kept number None = as_before
  scans_kept number (Some m) = as_before

  scan_kept : (number : ℕ) → Kept (scan w number)
  unfolding scan
  scan_kept number = once Keeps w _ (at_meter Keeps w number _ (λ x e. Taken _ (scans_kept number x.memory)))

  chooses_kept : (number : ℕ) (x : Node) (k : ℕ) (psk : Option Key) → node_at w number ≡ Some x → Keeps (chooses_by ciphers w number x k psk)
  chooses_kept number x k None e = as_before
  chooses_kept number x k (Some psk) e =
      after_keeps (running_world w) number x _ as_before e
      (acts_keep x _ _ (λ m. (chooses_keep (record { memory = m; beside = beside_at w number }) (identity ciphers x psk) k w.clock).held))

  choose_kept : (number k : ℕ) → Kept (choose ciphers w number k)
  unfolding choose
  choose_kept number k = once Keeps w _ (at_meter Keeps w number _ (λ x e. Taken _ (chooses_kept number x k (psk_of x) e)))

  each_kept : (event : Event) → may_end_held event ≡ false → Kept (line_step ciphers w event)
  each_kept (events.Coordinator eui key) e = coordinator_kept eui key
  each_kept (events.Meter eui psk) e = meter_kept eui psk
  each_kept (events.Depot node) e = depot_kept node
  each_kept (events.Near a b cost) e = near_kept a b cost
  each_kept (events.Counter node value) e = preset_kept node _ (λ l. counter_keeps l value)
  each_kept (events.Number node value) e = preset_kept node _ (λ l. number_keeps l value)
  each_kept (events.Allow node) e = allow_kept node
  each_kept (events.RandomOctets node value) e = rand_kept node value
  each_kept (events.Join node agent) e = join_kept node agent
  each_kept (events.Leave node) e = absurd (cc)
  each_kept (events.Send from to datagram) e = send_kept from to datagram
  each_kept (events.Deliver flight node cost) e = absurd (cc)
  each_kept (events.Inject node cost octets) e = absurd (cc)
  each_kept (events.Lose flight) e = lose_kept flight
  each_kept (events.Break node next) e = breaks_kept node next
  each_kept (events.Tick seconds) e = absurd (cc)
  each_kept (events.Restart node) e = absurd (cc)
  each_kept (events.Cut node nth keeps_new) e = cut_kept node nth keeps_new
  each_kept (events.Rekey index key) e = rekey_kept index key
  each_kept (events.Challenge node) e = challenge_kept node
  each_kept (events.Activate node index) e = activate_kept node index
  each_kept (events.Kick node) e = kick_kept node
  each_kept (events.Show node) e = show_kept node
  each_kept events.Checks e = checks_kept
  each_kept (events.Bcast node datagram) e = bcast_kept node datagram
  each_kept (events.Scan node) e = scan_kept node
  each_kept (events.Choose node k) e = choose_kept node k
  each_kept (events.Path from to) e = path_kept from to

pub events_keep : EventsKeepHeld
events_keep ciphers w v event d kind e number l now there left =
    outcome_has (Keeps ciphers w) (line_step ciphers w event) (v, d) (each_kept ciphers w event kind) e number l now there left
