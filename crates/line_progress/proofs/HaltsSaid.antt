-- A node that halts in an event does so with the answer Store, but in events that hide it.
use Rattle.std.proofs.Common.{◌≡◌, ℕ, ◌+◌, ◌==◌, Bool, true, false, List, Option, Some, None, Result, Ok, Err, refl, sym, ap, ◌∙◌}
use Rattle.std.specs.Prelude.{if◌then◌else◌, slice_get, slice_set}
use Rattle.std.specs.Option.{option_map_or, option_and_then}
use Rattle.std.proofs.lemmas.Bool.{eqb-true, eqb-false}
use Rattle.plc_base.specs.declared.key.Key.{Key}
use Rattle.store_tables.proofs.SlotTables.{slice_get-set_other}
use Rattle.node_rules.specs.declared.refusal.CoordinatorRefusal.{CoordinatorRefusal}
use Rattle.node_rules.specs.declared.refusal.CoordinatorRefusal.TheVariants as orders
use Rattle.node_rules.specs.declared.refusal.SendRefusal.TheVariants as refusals
use Rattle.reach_rules.specs.declared.refusal.AskRefusal.TheVariants as asks
use Rattle.reach_rules.specs.declared.refusal.BroadcastRefusal.TheVariants as broadcasts
use Rattle.node_rules.specs.Calls as calls
use Rattle.node_rules.specs.Ciphers.{Ciphers}
use Rattle.node_rules.specs.Coordinators as coordinator_rules
use Rattle.node_rules.specs.Memory.{StationMemory, Memory, Node, node_address}
use Rattle.node_rules.specs.MemoryDrafts.{with_station}
use Rattle.node_rules.specs.NodeSteps.{NodeStep, acts, answering, changing, left_by, of_station, stays}
use Rattle.node_rules.specs.Plans.{Plan, carry_out, resting}
use Rattle.node_rules.proofs.CoordinatorShapes.{allow_shape, rekey_shape, activate_self_shape, challenge_shape, activate_shape, kick_shape}
use Rattle.node_rules.proofs.Refusals.{sends_refused}
use Rattle.node_rules.proofs.Shapes.{refuses_cleanly}
use Rattle.line_events.specs.declared.event.Answer.{Answer}
use Rattle.line_events.specs.declared.event.Answer.TheVariants as answers
use Rattle.line_events.specs.declared.event.Event.{Event}
use Rattle.line_events.specs.declared.event.Event.TheVariants as events
use Rattle.line_events.specs.declared.event.StepFault.TheVariants as faults
use Rattle.line_rules.specs.Answers.{ask_word, broadcast_word, ordered_word, sent_word}
use Rattle.line_rules.specs.Further.{asks_by, bcast, beside_at, line_step, path, scan, scans_by}
use Rattle.line_rules.specs.Steps.{Step, activate, allow, allowed, allowed_word, breaks, breaks_by, challenge, cut, kick, lose, node_outcome, psk_of}
use Rattle.line_rules.specs.Steps.{rekey, send, sends_by, sent_if, show, tag_of, world_after}
use Rattle.line_rules.specs.Worlds.{World, Trace, node_at}
use Rattle.line_progress.specs.EventFates.{hides_a_loss}
use Rattle.line_progress.specs.Held.{may_end_held}
use Rattle.line_progress.proofs.WholePlans.{Acted, Whole, Failed, acts_either}
use Rattle.line_progress.proofs.ComesFates.{left_there, station_in}
use Rattle.line_progress.proofs.Events.{StepHas, Taken, Fails, outcome_has, by_option, once, at_node, at_meter, at_flight}
use Rattle.line_progress.proofs.HeldEvents.{held_at, station_of}
use Rattle.line_progress.proofs.ReachFails.{asks_fail, broadcasts_fail}

-- # Nodes

-- a node that runs before, and not after, is answered Store
abbrev NodeSays : Node → Node → Answer → Type 0
NodeSays x y word = (l : StationMemory) → station_of x ≡ Some l → station_of y ≡ None → word ≡ answers.Store

acts_say : {A : Type 0} (x : Node) (halts : A) (plan : Memory → Plan Memory A) (word : A → Answer)
    → ((m : Memory) → word (plan m).failed ≡ answers.Store) → NodeSays x (acts x halts plan).node (word (acts x halts plan).answer)
acts_say {A} x halts plan word fails l runs none = by_memory x.memory refl
  where
    by_act : (m : Memory) → Acted (plan m) (acts x halts plan) → word (acts x halts plan).answer ≡ answers.Store
    by_act m (Whole a f g) = let h : station_of (acts x halts plan).node ≡ Some (plan m).memory.station = ap station_in g in absurd (cc)
    by_act m (Failed a f g) = ap word a ∙ fails m

    by_memory : (o : Option Memory) → x.memory ≡ o → word (acts x halts plan).answer ≡ answers.Store
    by_memory None e = let h : station_of x ≡ None = ap station_in e in absurd (cc)
    by_memory (Some m) e = by_act m (acts_either x m halts plan e)

-- a plan that stores nothing leaves its node running
still_runs : {A : Type 0} (x : Node) (said halts : A) (change : Memory → Memory) (word : Answer)
    → NodeSays x (acts x halts (λ m. changing said (change m))).node word
unfolding acts carry_out resting
still_runs {A} x said halts change word l runs none = by_memory x.memory refl
  where
    by_memory : (o : Option Memory) → x.memory ≡ o → word ≡ answers.Store
    by_memory None e = let h : station_of x ≡ None = ap station_in e in absurd (cc)
    by_memory (Some m) e =
        let h : station_of (acts x halts (λ n. changing said (change n))).node ≡ Some (change m).station =
        λ i. station_in (option_map_or (λ n. left_by x (carry_out x.store.records x.store.cut (changing said (change n)))) (e i) (stays x halts)).node.memory in
        absurd (cc)

-- # Events

module _ (ciphers : Ciphers) (w : World) where
  abbrev Said : World × Trace → Type 0
  Said r = (number : ℕ) (l : StationMemory) → held_at w.nodes number ≡ Some l → held_at r.0.nodes number ≡ None → r.1.happenings.answer ≡ answers.Store

  abbrev SaidAll : Step → Type 0
  SaidAll s = StepHas Said s

  set_said : (number : ℕ) (x y : Node) (word : Answer) → node_at w number ≡ Some x → NodeSays x y word → (n : ℕ) (l : StationMemory)
      → held_at w.nodes n ≡ Some l → held_at (slice_set w.nodes number y) n ≡ None → word ≡ answers.Store
  set_said number x y word there says n l runs none = by_place (n == number) refl
    where
      by_place : (b : Bool) → (n == number) ≡ b → word ≡ answers.Store
      by_place true same =
          let is : n ≡ number = eqb-true n number same in
          says l (sym (ap (option_and_then station_of) (ap (slice_get w.nodes) is ∙ there)) ∙ runs)
          (sym (left_there w.nodes number x y there) ∙ sym (ap (held_at (slice_set w.nodes number y)) is) ∙ none)
      by_place false other =
          let h : held_at (slice_set w.nodes number y) n ≡ held_at w.nodes n =
          ap (option_and_then station_of) (slice_get-set_other w.nodes number n y (eqb-false n number other)) in
          absurd (cc)

  same_said : (word : Answer) (n : ℕ) (l : StationMemory) → held_at w.nodes n ≡ Some l → held_at w.nodes n ≡ None → word ≡ answers.Store
  same_said word n l runs none = absurd (cc)

  outcome_said : (number : ℕ) (x : Node) (d : NodeStep Answer) → node_at w number ≡ Some x → NodeSays x d.node d.answer
      → Said (node_outcome ciphers w number d)
  unfolding world_after
  outcome_said number x d there says = set_said number x d.node d.answer there says

  ordered_said : {A : Type 0} (c : Node) (word : Answer) (order : Memory → Plan Memory (Result A CoordinatorRefusal)) → node_at w 0 ≡ Some c
      → ((m : Memory) → (order m).failed ≡ Err orders.Store)
      → Said (node_outcome ciphers w 0 (answering (ordered_word word) (acts c (Err orders.Halted) order)))
  ordered_said {A} c word order here fails =
      outcome_said 0 c (answering (ordered_word word) (acts c (Err orders.Halted) order)) here
      (acts_say c (Err orders.Halted) order (λ r. ordered_word word r) (λ m. ap (λ (r : Result A CoordinatorRefusal). ordered_word word r) (fails m)))

  allow_said : (number : ℕ) → SaidAll (allow ciphers w number)
  unfolding allow world_after
  allow_said number =
      once Said w _ (at_meter Said w number _ (λ x e. at_node Said w 0 _ (λ c f.
      by_option Said (λ psk. Ok (allowed ciphers w number (acts c (Err orders.Halted) (λ m. coordinator_rules.allow m x.eui psk)))) (psk_of x) _
      (λ psk g. Taken _ (set_said 0 c _ _ f (acts_say c (Err orders.Halted) (λ m. coordinator_rules.allow m x.eui psk) allowed_word
      (λ m. ap allowed_word (refuses_cleanly _ _ m _ _ (allow_shape (record { eui = c.eui; ciphers = ciphers }) m x.eui psk)).0)))) (Fails faults.Node))))

  sent_said : (from to : ℕ) (datagram : List ℕ) (tag : ℕ) (b : Bool) (r : World × Trace) → Said r → Said (sent_if w from to datagram tag b r)
  sent_said from to datagram tag false r s = s
  sent_said from to datagram tag true r s = s

  sends_said : (from to : ℕ) (datagram : List ℕ) (x : Node) (address : Option ℕ) → node_at w from ≡ Some x
      → Said (sends_by ciphers w from to datagram x address)
  sends_said from to datagram x None e = same_said _
  sends_said from to datagram x (Some address) e =
      sent_said from to datagram (tag_of x) _ (node_outcome ciphers w from (answering sent_word
      (acts x (Err refusals.Halted) (λ m. of_station m (calls.send m.station address datagram (w.sends + 1) w.clock)))))
      (outcome_said from x _ e (acts_say x (Err refusals.Halted) (λ m. of_station m (calls.send m.station address datagram (w.sends + 1) w.clock)) sent_word
      (λ m. ap sent_word ((sends_refused m.station address datagram (w.sends + 1) w.clock).0).0)))

  send_said : (from to : ℕ) (datagram : List ℕ) → SaidAll (send ciphers w from to datagram)
  unfolding send
  send_said from to datagram =
      once Said w _ (at_node Said w from _ (λ x e. at_node Said w to _ (λ y f. Taken _ (sends_said from to datagram x (node_address y) e))))

  lose_said : (number : ℕ) → SaidAll (lose w number)
  unfolding lose
  lose_said number = once Said w _ (at_flight Said w number _ (λ f e. Taken _ (same_said _)))

  breaks_by_said : (number : ℕ) (x : Node) (next : Option ℕ) → node_at w number ≡ Some x → Said (breaks_by ciphers w number x next)
  breaks_by_said number x None e = same_said _
  breaks_by_said number x (Some next) e =
      outcome_said number x (acts x answers.Halted (λ m. changing answers.Broken (with_station (calls.broke next m.station) m))) e
      (still_runs x answers.Broken answers.Halted (λ m. with_station (calls.broke next m.station) m) _)

  breaks_said : (number next : ℕ) → SaidAll (breaks ciphers w number next)
  unfolding breaks
  breaks_said number next =
      once Said w _ (at_node Said w number _ (λ x e. at_node Said w next _ (λ y f. Taken _ (breaks_by_said number x (node_address y) e))))

  cut_said : (number nth : ℕ) (keeps_new : Bool) → SaidAll (cut ciphers w number nth keeps_new)
  unfolding cut
  cut_said number nth keeps_new =
      once Said w _ (at_node Said w number _ (λ x e. Taken _ (outcome_said number x _ e (λ l runs none. absurd (cc)))))

  show_said : (number : ℕ) → SaidAll (show w number)
  unfolding show
  show_said number = once Said w _ (at_node Said w number _ (λ x e. Taken _ (same_said _)))

  rekey_said : (index : ℕ) (key : Key) → SaidAll (rekey ciphers w index key)
  unfolding rekey
  rekey_said index key =
      once Said w _ (at_node Said w 0 _ (λ c e. Taken _ (ordered_said c answers.Drawn (λ m. coordinator_rules.rekey m index key) e
      (λ m. (refuses_cleanly _ _ m _ _ (rekey_shape (record { eui = c.eui; ciphers = ciphers }) m index key)).0))))

  challenge_said : (number : ℕ) → SaidAll (challenge ciphers w number)
  unfolding challenge
  challenge_said number =
      once Said w _ (at_meter Said w number _ (λ x e. at_node Said w 0 _ (λ c f.
      Taken _ (ordered_said c answers.Challenged (λ m. coordinator_rules.challenge c.eui m x.eui w.clock) f
      (λ m. (refuses_cleanly _ _ m _ _ (challenge_shape (record { eui = c.eui; ciphers = ciphers }) m x.eui w.clock)).0)))))

  either_said : (b : Bool) (p q : World × Trace) → Said p → Said q → Said (if b then p else q)
  either_said true p q one other = one
  either_said false p q one other = other

  activate_said : (number index : ℕ) → SaidAll (activate ciphers w number index)
  unfolding activate
  activate_said number index =
      once Said w _ (at_node Said w number _ (λ x e. at_node Said w 0 _ (λ c f.
      Taken _ (either_said (number == 0) _ _
      (ordered_said c answers.Activated (λ m. coordinator_rules.activate_self m index) f
      (λ m. (refuses_cleanly _ _ m _ _ (activate_self_shape (record { eui = c.eui; ciphers = ciphers }) m index)).0))
      (ordered_said c answers.Ordered (λ m. coordinator_rules.activate m x.eui index w.clock) f
      (λ m. (refuses_cleanly _ _ m _ _ (activate_shape (record { eui = c.eui; ciphers = ciphers }) m x.eui index w.clock)).0))))))

  kick_said : (number : ℕ) → SaidAll (kick ciphers w number)
  unfolding kick
  kick_said number =
      once Said w _ (at_meter Said w number _ (λ x e. at_node Said w 0 _ (λ c f.
      Taken _ (ordered_said c answers.Kicked (λ m. coordinator_rules.kick m x.eui) f
      (λ m. (refuses_cleanly _ _ m _ _ (kick_shape (record { eui = c.eui; ciphers = ciphers }) m x.eui)).0)))))

  -- # Further reach

  bcast_said : (number : ℕ) (datagram : List ℕ) → SaidAll (bcast ciphers w number datagram)
  unfolding bcast world_after
  bcast_said number datagram =
      once Said w _ (at_node Said w number _ (λ x e. Taken _ (set_said number x _ _ e (acts_say x (Err broadcasts.Halted) _ broadcast_word
      (λ m. ap broadcast_word (broadcasts_fail (record { memory = m; beside = beside_at w number }) datagram).failed)))))

  asks_said : (number : ℕ) (x : Node) (target : Option ℕ) → node_at w number ≡ Some x → Said (asks_by ciphers w number x target)
  unfolding world_after
  asks_said number x None e = same_said _
  asks_said number x (Some target) e =
      set_said number x _ _ e (acts_say x (Err asks.Halted) _ ask_word
      (λ m. ap ask_word (asks_fail (record { memory = m; beside = beside_at w number }) target).failed))

  path_said : (from to : ℕ) → SaidAll (path ciphers w from to)
  unfolding path
  path_said from to =
      once Said w _ (at_node Said w from _ (λ x e. at_node Said w to _ (λ y f. Taken _ (asks_said from x (node_address y) e))))

  scans_said : (number : ℕ) (o : Option Memory) → Said (scans_by w number o)
  scans_said number None = same_said _
  scans_said number (Some m) = same_said _

  scan_said : (number : ℕ) → SaidAll (scan w number)
  unfolding scan
  scan_said number = once Said w _ (at_meter Said w number _ (λ x e. Taken _ (scans_said number x.memory)))

  each_said : (event : Event) → may_end_held event ≡ false → hides_a_loss event ≡ false → SaidAll (line_step ciphers w event)
  each_said (events.Coordinator eui key) e h = absurd (cc)
  each_said (events.Meter eui psk) e h = absurd (cc)
  each_said (events.Depot node) e h = absurd (cc)
  each_said (events.Near a b cost) e h = absurd (cc)
  each_said (events.Counter node value) e h = absurd (cc)
  each_said (events.Number node value) e h = absurd (cc)
  each_said (events.Allow node) e h = allow_said node
  each_said (events.RandomOctets node value) e h = absurd (cc)
  each_said (events.Join node agent) e h = absurd (cc)
  each_said (events.Leave node) e h = absurd (cc)
  each_said (events.Send from to datagram) e h = send_said from to datagram
  each_said (events.Deliver flight node cost) e h = absurd (cc)
  each_said (events.Inject node cost octets) e h = absurd (cc)
  each_said (events.Lose flight) e h = lose_said flight
  each_said (events.Break node next) e h = breaks_said node next
  each_said (events.Tick seconds) e h = absurd (cc)
  each_said (events.Restart node) e h = absurd (cc)
  each_said (events.Cut node nth keeps_new) e h = cut_said node nth keeps_new
  each_said (events.Rekey index key) e h = rekey_said index key
  each_said (events.Challenge node) e h = challenge_said node
  each_said (events.Activate node index) e h = activate_said node index
  each_said (events.Kick node) e h = kick_said node
  each_said (events.Show node) e h = show_said node
  each_said events.Checks e h = absurd (cc)
  each_said (events.Bcast node datagram) e h = bcast_said node datagram
  each_said (events.Scan node) e h = scan_said node
  each_said (events.Choose node k) e h = absurd (cc)
  each_said (events.Path from to) e h = path_said from to

pub halts_said : (ciphers : Ciphers) (w v : World) (event : Event) (d : Trace) → may_end_held event ≡ false → hides_a_loss event ≡ false
    → line_step ciphers w event ≡ Ok (v, d) → (number : ℕ) (l : StationMemory) → held_at w.nodes number ≡ Some l → held_at v.nodes number ≡ None
    → d.happenings.answer ≡ answers.Store
halts_said ciphers w v event d kind hides e number l runs none =
    outcome_has (Said ciphers w) (line_step ciphers w event) (v, d) (each_said ciphers w event kind hides) e number l runs none
