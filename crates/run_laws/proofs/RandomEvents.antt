-- No event makes the coordinator hold a random value more often than before, but one that gives it; and a joining that is done takes one with it.
use Rattle.std.proofs.Common.{◌≡◌, ◌≢◌, ⊎_elim, ℕ, zero, suc, ◌+◌, ◌-◌, ◌≤◌, Bool, true, false, List, [], ◌∷◌, ◌++◌, length, Option, Some, None, Result, Ok}
use Rattle.std.proofs.Common.{Err}
use Rattle.std.proofs.Common.{refl, sym, ap, subst, ◌∙◌, arith}
use Rattle.std.proofs.lemmas.List.Elements.{All-map, All-nil, All-push, All-set}
use Rattle.std.specs.Prelude.{All, if◌then◌else◌, is_some, map, nat_lt, slice_get, slice_set, ◌==◌}
use Rattle.std.specs.Option.{option_map_or}
use Rattle.std.proofs.lemmas.Bool.{eqb-false}
use Rattle.std.proofs.lemmas.Option.{none-some, same_Some}
use Rattle.store_tables.proofs.SlotTables.{slice_get-set_other}
use Rattle.store_tables.specs.SlotTables as slots
use Rattle.plc_base.specs.Keeper.{Records}
use Rattle.plc_base.specs.Grant.{Granted}
use Rattle.plc_base.specs.declared.address.Eui.{Eui}
use Rattle.plc_base.specs.declared.keeper.BadStore.{BadStore}
use Rattle.plc_base.specs.declared.key.Key.{Key}
use Rattle.plc_base.specs.declared.key.RandomOctets.{RandomOctets}
use Rattle.group_keys.specs.KeyBook as book
use Rattle.line_events.specs.Events.{IsEvent}
use Rattle.line_events.specs.declared.event.Answer.{Answer}
use Rattle.line_events.specs.declared.event.Answer.TheVariants as answers
use Rattle.line_events.specs.declared.event.Event.{Event}
use Rattle.line_events.specs.declared.event.Event.TheVariants as events
use Rattle.line_events.specs.declared.event.StepFault.TheVariants as faults
use Rattle.node_rules.specs.Accepted.{Accepted}
use Rattle.node_rules.specs.Acceptance.{accept}
use Rattle.node_rules.specs.Calls as calls
use Rattle.node_rules.specs.Ciphers.{Ciphers}
use Rattle.node_rules.specs.Coordinators as coordinator_rules
use Rattle.node_rules.specs.Drafts.{UnsealedUnit, choose, empty_draft, refused, sealing}
use Rattle.node_rules.specs.Frames.{arrived}
use Rattle.node_rules.specs.Laws.{IsCutOff, IsWhole}
use Rattle.node_rules.specs.Memory.{Coordinator, Memory, Meter, Node, Role, StationMemory, node_address}
use Rattle.node_rules.specs.MemoryDrafts.{give_random, given_ends, in_memory, with_memory_by, with_station}
use Rattle.node_rules.specs.Meters as meters
use Rattle.node_rules.specs.NodeSteps.{NodeStep, acts, answering, changing, left_by, of_station, stays}
use Rattle.node_rules.specs.Plans.{Plan, carry_out, resting}
use Rattle.node_rules.specs.RestartStates.{first_grant, memory_of, reading, remembering, station_of}
use Rattle.node_rules.specs.declared.heard.CoordinatorHeard.{CoordinatorHeard}
use Rattle.node_rules.specs.declared.heard.MeterHeard.{MeterHeard}
use Rattle.node_rules.specs.declared.heard.SentHow.{SentHow}
use Rattle.node_rules.specs.declared.heard.MeterHeard.TheVariants as meter_heard
use Rattle.node_rules.specs.declared.refusal.CoordinatorRefusal.{CoordinatorRefusal}
use Rattle.node_rules.specs.declared.refusal.CoordinatorRefusal.TheVariants as orders
use Rattle.node_rules.specs.declared.refusal.Dropped.{Dropped}
use Rattle.node_rules.specs.declared.refusal.Dropped.TheVariants as drops
use Rattle.node_rules.specs.declared.refusal.FrameRefusal.{FrameRefusal}
use Rattle.node_rules.specs.declared.refusal.FrameRefusal.TheVariants as frames
use Rattle.node_rules.specs.declared.refusal.JoinRefusal.TheVariants as joins
use Rattle.node_rules.specs.declared.refusal.LeaveRefusal.TheVariants as leaves
use Rattle.node_rules.specs.declared.refusal.RandomFault.{RandomFault}
use Rattle.node_rules.specs.declared.refusal.RandomFault.TheVariants as randoms
use Rattle.node_rules.specs.declared.refusal.RandomFault.TheVariants.{RandomsFull}
use Rattle.node_rules.specs.declared.refusal.SendRefusal.{SendRefusal}
use Rattle.node_rules.specs.declared.refusal.SendRefusal.TheVariants as sends
use Rattle.node_rules.specs.declared.session_time.TheConstants.{SESSION_TIME}
use Rattle.node_rules.proofs.FailedWrites.{clean}
use Rattle.reach_rules.specs.Beacons.{choose_agent}
use Rattle.reach_rules.specs.declared.refusal.ChooseRefusal.TheVariants as choices
use Rattle.line_rules.specs.Answers.{CompletedJoining, Reception, coordinator_reception, frame_word, join_word, leave_word, meter_reception, ordered_word}
use Rattle.line_rules.specs.Answers.{random_word, sent_word}
use Rattle.line_rules.specs.Forgery.{accepting}
use Rattle.line_rules.specs.Further.{beside_at, chooses_by, unbelieved, with_beside}
use Rattle.line_rules.specs.Steps.{Step, activate, allowed, blank_node, by_coordinator, challenge, done_by, happenings, has_begun, hearing_outcome}
use Rattle.line_rules.specs.Steps.{hearing_step, identity, is_taken, join, joins_by, kick, leave, memory_by, node_outcome, note_by, offered_near, on_meter}
use Rattle.line_rules.specs.Steps.{on_node, psk_of}
use Rattle.line_rules.specs.Steps.{once_begun, rand, rekey, restarts, running_world, sent_if, set_up, step, tag_of, ticked, trace_of, world_after}
use Rattle.line_rules.specs.Worlds.{Pairing, Trace, World, node_at}
use Rattle.line_laws.specs.Keyed.{IsMeter}
use Rattle.line_laws.proofs.FurtherForms.{AnyUnits, Goes, IsFurther}
use Rattle.line_laws.proofs.FurtherForms.{Rests as FurtherRests}
use Rattle.line_laws.proofs.FurtherSame.{AnyDiscovery, OldStep, of_old}
use Rattle.line_laws.proofs.FurtherStepKinds.{After, Anew, Besides, Carries, Chooses, Flies, IsLineStepBy, Known, Moves, Opens, Stays, Turns, Unbelieves}
use Rattle.line_laws.proofs.FurtherStepKinds.{Unsends}
use Rattle.line_laws.proofs.Planned.{planned_failed}
use Rattle.line_laws.proofs.ReceivedKeys.{station_took}
use Rattle.line_laws.proofs.NodeCalls.{heard_given}
use Rattle.line_laws.proofs.StepKinds.{IsMade, IsStep, IsWord, OfChallenge, OfCoordinator, OfDraw, OfJoin, OfKick, OfLeave, OfMeter, OfOrder, OfRandom, OfTurn}
use Rattle.line_laws.proofs.StepKinds.{step_is}
use Rattle.line_laws.proofs.StepKinds.{Fails, Makes, Rests, Shows, Acts, BreaksLink, SendsFrom, AllowsMeter, Sets, SetsTwo, Provides, TurnsDown, Hears}
use Rattle.line_laws.proofs.StepKinds.{Loses, Ticks, Restarts, Cuts}
use Rattle.line_laws.proofs.TracesRight.{false_true}
use Rattle.line_laws.proofs.Worlds.{at_place}
use Rattle.run_laws.specs.JoiningsApart.{random_in}
use Rattle.run_laws.proofs.RandomCounts.{Lighter, activate_lighter, allow_lighter, as_it_is, challenge_lighter, choose_lighter, depot_lighter, done_weight}
use Rattle.run_laws.proofs.RandomCounts.{filter_less, hears_weigh, kick_lighter}
use Rattle.run_laws.proofs.RandomCounts.{once, plan_weighs, rand_s_of, rekey_lighter, times, times_append, turn_lighter, weigh}

-- # A node

-- how often a node holds a value, halted or not
abbrev pub held_of : RandomOctets → Option Memory → ℕ
held_of v None = 0
held_of v (Some m) = weigh v m

-- how often the coordinator does, which is node 0
abbrev pub held_by : RandomOctets → List Node → ℕ
held_by v [] = 0
held_by v (c ∷ rest) = held_of v c.memory

-- the RAND_S of a joining that is done
abbrev pub done_of : RandomOctets → Option Pairing → ℕ
done_of v None = 0
done_of v (Some p) = once v p.agreed.rand_s

module _ (v : RandomOctets) where
  -- a node that carries out a plan, with what its answer weighs, and what comes to it
  acts_hold : {A : Type 0} (k : A → ℕ) (more : ℕ) (x : Node) (halted : A) (plan : Memory → Plan Memory A) → k halted ≡ 0
      → ((m : Memory) → x.memory ≡ Some m → k (plan m).failed ≡ 0)
      → ((m : Memory) → x.memory ≡ Some m → k (plan m).answer + weigh v (plan m).memory ≤ weigh v m + more)
      → k (acts x halted plan).answer + held_of v (acts x halted plan).node.memory ≤ held_of v x.memory + more
  unfolding acts
  acts_hold {A = A} k more x halted plan none fails less = by_memory x.memory refl
    where
      by_memory : (o : Option Memory) → x.memory ≡ o
          → let d : NodeStep A = option_map_or (λ m. left_by x (carry_out x.store.records x.store.cut (plan m))) o (stays x halted) in
          k d.answer + held_of v d.node.memory ≤ held_of v o + more
      by_memory None there = let same : held_of v x.memory ≡ 0 = ap (held_of v) there in omega arith
      by_memory (Some m) there = ⊎_elim
          (λ (w : IsWhole x.store.records x.store.cut (plan m) (carry_out x.store.records x.store.cut (plan m))). rw (w.answer, w.memory) (less m there))
          (λ (c : IsCutOff x.store.records x.store.cut (plan m) (carry_out x.store.records x.store.cut (plan m))).
          let nothing_done = fails m there in rw (c.answer, c.memory) (omega arith))
          (clean x.store.records x.store.cut (plan m))

  -- one whose plan makes nothing heavier
  acts_light : {A : Type 0} (x : Node) (halted : A) (plan : Memory → Plan Memory A) → ((m : Memory) → x.memory ≡ Some m → Lighter v m (plan m))
      → held_of v (acts x halted plan).node.memory ≤ held_of v x.memory
  acts_light x halted plan light =
      let less = acts_hold (λ a. 0) 0 x halted plan refl (λ m there. refl) (λ m there. let l = (light m there).less in omega arith) in omega arith

  station_light : {A : Type 0} (m : Memory) (p : Plan StationMemory A) → Lighter v m (of_station m p)
  unfolding weigh
  station_light m p = record { less = omega arith }

  rested_light : {A : Type 0} (m : Memory) (l : StationMemory) (answer failed : A) → Lighter v m (resting (with_station l m) answer failed)
  unfolding resting weigh
  rested_light m l answer failed = record { less = omega arith }

  further_light : {A : Type 0} (U : List UnsealedUnit → Type 0) (m : Memory) (p : Plan Memory A) → IsFurther U m p → Lighter v m p
  unfolding resting weigh
  further_light U m p (FurtherRests answer failed) = record { less = omega arith }
  further_light U m p (Goes answer failed ps us logs says few left) = record { less = omega arith }

  -- # Nodes

  -- one of them is another
  set_holds : (k more : ℕ) (nodes : List Node) (number : ℕ) (x y : Node) → slice_get nodes number ≡ Some x
      → (number ≡ 0 → k + held_of v y.memory ≤ held_of v x.memory + more) → (number ≢ 0 → k ≤ more)
      → k + held_by v (slice_set nodes number y) ≤ held_by v nodes + more
  set_holds k more [] number x y there first other = absurd (none-some x there)
  set_holds k more (z ∷ zs) zero x y there first other =
      let less = first refl in let same : held_of v z.memory ≡ held_of v x.memory = ap (λ (u : Node). held_of v u.memory) (same_Some z x there) in omega arith
  set_holds k more (z ∷ zs) (suc number) x y there first other = let less = other (λ e. cc (e)) in omega arith

  -- one that is no heavier
  one_lighter : (nodes : List Node) (number : ℕ) (x y : Node) → slice_get nodes number ≡ Some x → held_of v y.memory ≤ held_of v x.memory
      → held_by v (slice_set nodes number y) ≤ held_by v nodes
  one_lighter nodes number x y there less =
      let all = set_holds 0 0 nodes number x y there (λ e. omega arith) (λ ne. omega arith) in omega arith

  pushed_holds : (nodes : List Node) (x : Node) → held_of v x.memory ≤ 0 → held_by v (nodes ++ x ∷ []) ≤ held_by v nodes
  pushed_holds [] x none = none
  pushed_holds (z ∷ zs) x none = omega arith

  map_holds : (change : Node → Node) (nodes : List Node) → ((z : Node) → held_of v (change z).memory ≤ held_of v z.memory)
      → held_by v (map change nodes) ≤ held_by v nodes
  map_holds change [] less = omega arith
  map_holds change (z ∷ zs) less = less z

  -- # A new node, time and a restart

  fresh : (l : StationMemory) (b : book.Book) → weigh v (remembering l b) ≤ 0
  unfolding weigh
  fresh l b = omega arith

  blank_holds : (role : Role) (eui : Eui) → held_of v (blank_node role eui).memory ≤ 0
  blank_holds role eui = fresh _ []

  begin_light : (m : Memory) (key : Key) → Lighter v m (coordinator_rules.begin m (first_grant key))
  begin_light m key = choose_lighter v m (is_some m.station.ring) _ _ (rested_light m m.station _ _)
      (station_light m (calls.install m.station (first_grant key)))

  made_holds : (w : World) (event : Event) (x : Node) → IsMade w event x → held_of v x.memory ≤ 0
  made_holds w event x (OfCoordinator eui key none known long) =
      let less = acts_light (blank_node Coordinator eui) (Ok tt) (λ m. coordinator_rules.begin m (first_grant key)) (λ m there. begin_light m key) in
      let blank = blank_holds Coordinator eui in
      omega arith
  made_holds w event x (OfMeter eui psk some few new known long) = blank_holds (Meter psk) eui

  coordinator_tick : (now : ℕ) (m : Memory) → weigh v (coordinator_rules.tick now m) ≤ weigh v m
  unfolding weigh
  coordinator_tick now m = let less = filter_less rand_s_of v (λ s. calls.is_within SESSION_TIME now s.since) m.sessions in omega arith

  meter_tick : (now : ℕ) (m : Memory) → weigh v (meters.tick now m) ≤ weigh v m
  unfolding weigh
  meter_tick now m = omega arith

  ticked_holds : (now : ℕ) (z : Node) → held_of v (ticked now z).memory ≤ held_of v z.memory
  ticked_holds now z = by_parts z.role z.memory
    where
      by_parts : (role : Role) (o : Option Memory)
          → held_of v (ticked now (record { role = role; eui = z.eui; store = z.store; memory = o })).memory ≤ held_of v o
      by_parts role None = omega arith
      by_parts Coordinator (Some m) = coordinator_tick now m
      by_parts (Meter psk) (Some m) = meter_tick now m

  restarted_holds : (role : Role) (records : Records) → held_of v (memory_by (memory_of role records)) ≤ 0
  restarted_holds (Meter psk) records = by_station (station_of records)
    where
      by_station : (r : Result StationMemory BadStore) → held_of v (memory_by (reading r (λ l. Ok (remembering l [])))) ≤ 0
      by_station (Ok l) = fresh l []
      by_station (Err bad) = omega arith
  restarted_holds Coordinator records = by_station (station_of records)
    where
      by_book : (l : StationMemory) (r : Result book.Book BadStore) → held_of v (memory_by (reading r (λ b. Ok (remembering l b)))) ≤ 0
      by_book l (Ok b) = fresh l b
      by_book l (Err bad) = omega arith

      by_station : (r : Result StationMemory BadStore)
          → held_of v (memory_by (reading r (λ l. reading (slots.opened book.entries records) (λ b. Ok (remembering l b))))) ≤ 0
      by_station (Ok l) = by_book l (slots.opened book.entries records)
      by_station (Err bad) = omega arith

-- # What a node hears

acts_role : {A : Type 0} (x : Node) (halted : A) (plan : Memory → Plan Memory A) → (acts x halted plan).node.role ≡ x.role
unfolding acts
acts_role x halted plan = by_memory x.memory
  where
    by_memory : (o : Option Memory) → (option_map_or (λ m. left_by x (carry_out x.store.records x.store.cut (plan m))) o (stays x halted)).node.role ≡ x.role
    by_memory None = refl
    by_memory (Some m) = refl

heard_role : (ciphers : Ciphers) (y : Node) (got : Accepted) (cost note now : ℕ) → (hearing_step ciphers y got cost note now).node.role ≡ y.role
heard_role ciphers y got cost note now = by_role y.role
  where
    hears : Role → NodeStep Reception
    hears Coordinator = answering coordinator_reception
        (acts y (Err drops.Store) (λ m. coordinator_rules.hear_coordinator (record { eui = y.eui; ciphers = ciphers }) m got cost note now))
    hears (Meter psk) = answering meter_reception (acts y (Err drops.Store) (λ m. meters.hear_meter (identity ciphers y psk) m got cost note now))

    by_role : (role : Role) → (hears role).node.role ≡ y.role
    by_role Coordinator =
        acts_role y (Err drops.Store) (λ m. coordinator_rules.hear_coordinator (record { eui = y.eui; ciphers = ciphers }) m got cost note now)
    by_role (Meter psk) = acts_role y (Err drops.Store) (λ m. meters.hear_meter (identity ciphers y psk) m got cost note now)

undone : (r : Result MeterHeard Dropped) → (meter_reception r).done ≡ None
undone (Ok (meter_heard.Station h)) = (station_took h).2
undone (Ok meter_heard.Carried) = refl
undone (Ok meter_heard.Replied) = refl
undone (Ok (meter_heard.Took agreed)) = refl
undone (Ok meter_heard.Noted) = refl
undone (Ok meter_heard.Declined) = refl
undone (Ok meter_heard.Left) = refl
undone (Ok meter_heard.Activated) = refl
undone (Err reason) = refl

module _ (v : RandomOctets) (ciphers : Ciphers) (y : Node) (got : Accepted) (cost note now : ℕ) where
  abbrev hears_as : Role → NodeStep Reception
  hears_as Coordinator = answering coordinator_reception
      (acts y (Err drops.Store) (λ m. coordinator_rules.hear_coordinator (record { eui = y.eui; ciphers = ciphers }) m got cost note now))
  hears_as (Meter psk) = answering meter_reception (acts y (Err drops.Store) (λ m. meters.hear_meter (identity ciphers y psk) m got cost note now))

  coordinator_holds : y.role ≡ Coordinator
      → let d = hearing_step ciphers y got cost note now in done_weight v d.answer.done + held_of v d.node.memory ≤ held_of v y.memory
  coordinator_holds = by_role y.role
    where
      own : coordinator_rules.CoordinatorIdentity
      own = record { eui = y.eui; ciphers = ciphers }

      plan : Memory → Plan Memory (Result CoordinatorHeard Dropped)
      plan m = coordinator_rules.hear_coordinator own m got cost note now

      by_role : (role : Role) → role ≡ Coordinator → done_weight v (hears_as role).answer.done + held_of v (hears_as role).node.memory ≤ held_of v y.memory
      by_role Coordinator is =
          let less = acts_hold v (λ (r : Result CoordinatorHeard Dropped). done_weight v (coordinator_reception r).done) 0 y (Err drops.Store) plan refl
          (λ m there. ap (λ (r : Result CoordinatorHeard Dropped). done_weight v (coordinator_reception r).done)
          (planned_failed (plan m) (hears_weigh v own m (heard_given got cost note now) got refl)))
          (λ m there. let l = plan_weighs v m (plan m) (hears_weigh v own m (heard_given got cost note now) got refl) in omega arith) in
          omega arith
      by_role (Meter psk) is = absurd (cc (is))

  meter_undone : IsMeter y.role → (hearing_step ciphers y got cost note now).answer.done ≡ None
  meter_undone = by_role y.role
    where
      by_role : (role : Role) → IsMeter role → (hears_as role).answer.done ≡ None
      by_role Coordinator is = absurd is
      by_role (Meter psk) is = undone (acts y (Err drops.Store) (λ m. meters.hear_meter (identity ciphers y psk) m got cost note now)).answer

-- # Calls that are events

-- the calls that are events by themselves
abbrev is_asking : Event → Bool
is_asking (events.RandomOctets node value) = true
is_asking (events.Join node agent) = true
is_asking (events.Leave node) = true
is_asking (events.Rekey index key) = true
is_asking (events.Challenge node) = true
is_asking (events.Activate node index) = true
is_asking (events.Kick node) = true
is_asking _ = false

asking_word : {A : Type 0} (reads : A → Answer) (event : Event) → IsWord A reads event → is_asking event ≡ true
asking_word reads event (OfRandom number value) = refl
asking_word reads event (OfJoin number agent) = refl
asking_word reads event (OfLeave number) = refl
asking_word reads event (OfDraw B index key) = refl
asking_word reads event (OfChallenge B number) = refl
asking_word reads event (OfTurn B number index) = refl
asking_word reads event (OfOrder B number index) = refl
asking_word reads event (OfKick B number) = refl

-- # Roles

-- node 0 alone may be the coordinator
abbrev pub OthersAreMeters : List Node → Type 0
OthersAreMeters [] = Unit {0}
OthersAreMeters (c ∷ rest) = All (λ (x : Node). IsMeter x.role) rest

is_other : (nodes : List Node) (n : ℕ) (x : Node) → OthersAreMeters nodes → n ≢ 0 → slice_get nodes n ≡ Some x → IsMeter x.role
is_other [] n x all ne there = absurd (none-some x there)
is_other (c ∷ rest) zero x all ne there = absurd (ne refl)
is_other (c ∷ rest) (suc n) x all ne there = at_place (λ (y : Node). IsMeter y.role) rest n x there all

set_others : (nodes : List Node) (number : ℕ) (x y : Node) → slice_get nodes number ≡ Some x → y.role ≡ x.role → OthersAreMeters nodes
    → OthersAreMeters (slice_set nodes number y)
set_others [] number x y there same all = tt
set_others (c ∷ rest) zero x y there same all = all
set_others (c ∷ rest) (suc number) x y there same all =
    All-set (λ (z : Node). IsMeter z.role) rest number y
    (subst IsMeter (sym same) (at_place (λ (z : Node). IsMeter z.role) rest number x there all)) all

made_others : (w : World) (event : Event) (x : Node) → IsMade w event x → OthersAreMeters w.nodes → OthersAreMeters (w.nodes ++ x ∷ [])
made_others w event x (OfCoordinator eui key none known long) all =
    subst (λ (nodes : List Node). OthersAreMeters (nodes ++ x ∷ [])) (sym none) (All-nil (λ (y : Node). IsMeter y.role))
made_others w event x (OfMeter eui psk some few new known long) all = by_nodes w.nodes all
  where
    by_nodes : (nodes : List Node) → OthersAreMeters nodes → OthersAreMeters (nodes ++ blank_node (Meter psk) eui ∷ [])
    by_nodes [] all = All-nil (λ (y : Node). IsMeter y.role)
    by_nodes (c ∷ rest) all = All-push (λ (y : Node). IsMeter y.role) rest (blank_node (Meter psk) eui) all tt

ticked_others : (now : ℕ) (nodes : List Node) → OthersAreMeters nodes → OthersAreMeters (map (ticked now) nodes)
ticked_others now [] all = tt
ticked_others now (c ∷ rest) all = All-map (λ (y : Node). IsMeter y.role) (ticked now) rest all

-- # Events

-- What an event leaves: so often the value came to the coordinator in it.
pub record Light (v : RandomOctets) (w : World) (more : ℕ) (r : World × Trace) : Type 0 where
  pub less : done_of v r.1.done + held_by v r.0.nodes ≤ held_by v w.nodes + more
  pub others : OthersAreMeters r.0.nodes

abbrev pub LightIn : RandomOctets → World → ℕ → Step → Type 0
LightIn v w more (Ok r) = Light v w more r
LightIn v w more (Err fault) = Unit {0}

module _ (v : RandomOctets) (ciphers : Ciphers) (w : World) (first : (c : Node) → node_at w 0 ≡ Some c → c.role ≡ Coordinator)
    (all : OthersAreMeters w.nodes) where
  lighter_in : (more : ℕ) (s : Step) → LightIn v w 0 s → LightIn v w more s
  lighter_in more (Ok r) h = let less = h.less in record { less = omega arith; others = h.others }
  lighter_in more (Err fault) h = tt

  once_in : (more : ℕ) (s : Step) → LightIn v w more s → LightIn v w more (once_begun w s)
  once_in more s h = by_start (has_begun w)
    where
      by_start : (b : Bool) → LightIn v w more (if b then s else Err faults.Setup)
      by_start true = h
      by_start false = tt

  at_node : (more number : ℕ) (f : Node → Step) → ((x : Node) → node_at w number ≡ Some x → LightIn v w more (f x)) → LightIn v w more (on_node w number f)
  at_node more number f h = by_node (node_at w number) refl
    where
      by_node : (o : Option Node) → node_at w number ≡ o → LightIn v w more (option_map_or f o (Err faults.Node))
      by_node None e = tt
      by_node (Some x) e = h x e

  at_meter : (more number : ℕ) (f : Node → Step) → (number ≢ 0 → (x : Node) → node_at w number ≡ Some x → LightIn v w more (f x))
      → LightIn v w more (on_meter w number f)
  at_meter more number f h = by_number (number == 0) refl
    where
      by_number : (b : Bool) → (number == 0) ≡ b → LightIn v w more (if b then Err faults.Node else on_node w number f)
      by_number true e = tt
      by_number false e = at_node more number f (h (eqb-false _ _ e))

  -- the nodes are as they were, and no joining is done
  rested : (u : World) (t : Trace) → u.nodes ≡ w.nodes → t.done ≡ None → Light v w 0 (u, t)
  rested u t nodes none =
      let same : held_by v u.nodes ≡ held_by v w.nodes = ap (held_by v) nodes in
      let nothing_done : done_of v t.done ≡ 0 = ap (done_of v) none in
      record { less = omega arith; others = subst OthersAreMeters (sym nodes) all }

  -- one node acts, and no joining is done
  acted : (more number : ℕ) (x y : Node) (u : World) (t : Trace) → node_at w number ≡ Some x → u.nodes ≡ slice_set w.nodes number y → t.done ≡ None
      → y.role ≡ x.role → (number ≡ 0 → held_of v y.memory ≤ held_of v x.memory + more) → Light v w more (u, t)
  acted more number x y u t there nodes none role less =
      let same : held_by v u.nodes ≡ held_by v (slice_set w.nodes number y) = ap (held_by v) nodes in
      let nothing_done : done_of v t.done ≡ 0 = ap (done_of v) none in
      let each = set_holds v 0 more w.nodes number x y there (λ e. let l = less e in omega arith) (λ ne. omega arith) in
      record { less = omega arith; others = subst OthersAreMeters (sym nodes) (set_others w.nodes number x y there role all) }

  -- one that is no heavier
  acted_light : (number : ℕ) (x y : Node) (u : World) (t : Trace) → node_at w number ≡ Some x → u.nodes ≡ slice_set w.nodes number y → t.done ≡ None
      → y.role ≡ x.role → held_of v y.memory ≤ held_of v x.memory → Light v w 0 (u, t)
  acted_light number x y u t there nodes none role light = acted 0 number x y u t there nodes none role (λ e. omega arith)

  outcome : (more number : ℕ) (x : Node) (d : NodeStep Answer) → node_at w number ≡ Some x → d.node.role ≡ x.role
      → (number ≡ 0 → held_of v d.node.memory ≤ held_of v x.memory + more) → Light v w more (node_outcome ciphers w number d)
  unfolding world_after
  outcome more number x d there role less =
      let r = node_outcome ciphers w number d in acted more number x d.node r.0 r.1 there refl refl role less

  -- # Calls that are events by themselves

  gives_light : (m : Memory) (value : RandomOctets) → weigh v (give_random m value).memory ≤ weigh v m + times as_it_is v (value ∷ [])
  unfolding choose resting empty_draft with_memory_by weigh
  gives_light m value = by_room (nat_lt 7 (length m.randoms))
    where
      by_room : (b : Bool) → weigh v (choose b (refused given_ends m RandomsFull)
          (sealing in_memory given_ends (with_memory_by (λ n. record n { randoms = n.randoms ++ value ∷ [] }) (empty_draft m)) (tt {0}))).memory
          ≤ weigh v m + times as_it_is v (value ∷ [])
      by_room true = omega arith
      by_room false = let more = times_append as_it_is v m.randoms (value ∷ []) in omega arith

  rand_light : (number : ℕ) (value : RandomOctets) → LightIn v w (times as_it_is v (random_in (events.RandomOctets number value))) (rand ciphers w number value)
  unfolding rand
  rand_light number value = once_in _ _ (at_node _ number _ (λ x there.
      outcome _ number x (answering random_word (acts x (Err randoms.Halted) (λ m. give_random m value))) there
      (acts_role x (Err randoms.Halted) (λ m. give_random m value)) (λ first_node.
      let came : times as_it_is v (if number == 0 then value ∷ [] else []) ≡ times as_it_is v (value ∷ []) =
      ap (λ (n : ℕ). times as_it_is v (if n == 0 then value ∷ [] else [])) first_node in
      let less = acts_hold v (λ (r : Result (Unit {0}) RandomFault). 0) (times as_it_is v (value ∷ [])) x (Err randoms.Halted) (λ m. give_random m value) refl
      (λ m here. refl) (λ m here. let l = gives_light m value in omega arith) in
      omega arith)))

  joins_light : (number : ℕ) (x : Node) (o : Option ℕ) (p : Option Key) → number ≢ 0 → node_at w number ≡ Some x
      → Light v w 0 (joins_by ciphers w number x o p)
  joins_light number x None p ne there = rested _ (trace_of (happenings w answers.NoAddress)) refl refl
  joins_light number x (Some a) None ne there = rested _ (trace_of (happenings w answers.NoAddress)) refl refl
  joins_light number x (Some a) (Some psk) ne there =
      outcome 0 number x (answering join_word (acts x (Err joins.Halted) (λ m. meters.join (identity ciphers x psk) m a w.clock))) there
      (acts_role x (Err joins.Halted) (λ m. meters.join (identity ciphers x psk) m a w.clock)) (λ e. absurd (ne e))

  join_light : (number agent : ℕ) → LightIn v w 0 (join ciphers w number agent)
  unfolding join
  join_light number agent = once_in 0 _ (at_meter 0 number _ (λ ne x there. at_node 0 agent _ (λ y other.
      joins_light number x (node_address y) (psk_of x) ne there)))

  leave_light : (number : ℕ) → LightIn v w 0 (leave ciphers w number)
  unfolding leave
  leave_light number = once_in 0 _ (at_meter 0 number _ (λ ne x there.
      outcome 0 number x (answering leave_word (acts x (Err leaves.Halted) meters.leave)) there
      (acts_role x (Err leaves.Halted) meters.leave) (λ e. absurd (ne e))))

  ordered_light : {A : Type 0} (c : Node) (answer : Answer) (order : Memory → Plan Memory (Result A CoordinatorRefusal)) → node_at w 0 ≡ Some c
      → ((m : Memory) → Lighter v m (order m)) → Light v w 0 (by_coordinator ciphers w c answer order)
  ordered_light c answer order there light = outcome 0 0 c (answering (ordered_word answer) (acts c (Err orders.Halted) order)) there
      (acts_role c (Err orders.Halted) order) (λ e. let l = acts_light v c (Err orders.Halted) order (λ m here. light m) in omega arith)

  rekeyed_light : (index : ℕ) (key : Key) → LightIn v w 0 (rekey ciphers w index key)
  unfolding rekey
  rekeyed_light index key = once_in 0 _ (at_node 0 0 _ (λ c there. ordered_light c answers.Drawn (λ m. coordinator_rules.rekey m index key) there
      (λ m. rekey_lighter v m index key)))

  challenged_light : (number : ℕ) → LightIn v w 0 (challenge ciphers w number)
  unfolding challenge
  challenged_light number = once_in 0 _ (at_meter 0 number _ (λ ne x there. at_node 0 0 _ (λ c first_there.
      ordered_light c answers.Challenged (λ m. coordinator_rules.challenge c.eui m x.eui w.clock) first_there
      (λ m. challenge_lighter v m c.eui x.eui w.clock))))

  activated_light : (number index : ℕ) → LightIn v w 0 (activate ciphers w number index)
  unfolding activate
  activated_light number index = once_in 0 _ (at_node 0 number _ (λ x there. at_node 0 0 _ (λ c first_there. by_number x c first_there (number == 0))))
    where
      by_number : (x c : Node) → node_at w 0 ≡ Some c → (b : Bool)
          → Light v w 0 (if b then by_coordinator ciphers w c answers.Activated (λ m. coordinator_rules.activate_self m index)
          else by_coordinator ciphers w c answers.Ordered (λ m. coordinator_rules.activate m x.eui index w.clock))
      by_number x c there true =
          ordered_light c answers.Activated (λ m. coordinator_rules.activate_self m index) there (λ m. turn_lighter v m index)
      by_number x c there false =
          ordered_light c answers.Ordered (λ m. coordinator_rules.activate m x.eui index w.clock) there (λ m. activate_lighter v m x.eui index w.clock)

  kicked_light : (number : ℕ) → LightIn v w 0 (kick ciphers w number)
  unfolding kick
  kicked_light number = once_in 0 _ (at_meter 0 number _ (λ ne x there. at_node 0 0 _ (λ c first_there.
      ordered_light c answers.Kicked (λ m. coordinator_rules.kick m x.eui) first_there (λ m. kick_lighter v m x.eui))))

  asked_light : (event : Event) → is_asking event ≡ true → LightIn v w (times as_it_is v (random_in event)) (step ciphers w event)
  asked_light (events.RandomOctets node value) e = rand_light node value
  asked_light (events.Join node agent) e = join_light node agent
  asked_light (events.Leave node) e = leave_light node
  asked_light (events.Rekey index key) e = rekeyed_light index key
  asked_light (events.Challenge node) e = challenged_light node
  asked_light (events.Activate node index) e = activated_light node index
  asked_light (events.Kick node) e = kicked_light node
  asked_light _ e = absurd (false_true e)

  -- # The other events

  done_same : (o : Option CompletedJoining) → done_of v (done_by w o) ≡ done_weight v o
  done_same None = refl
  done_same (Some c) = refl

  heard_light : (number : ℕ) (x : Node) (octets : List ℕ) (cost : ℕ) (got : Accepted) → node_at w number ≡ Some x
      → Light v w 0 (hearing_outcome ciphers w number (accepting ciphers x octets).node octets got cost)
  unfolding world_after
  heard_light number x octets cost got there =
      let same = done_same d.answer.done in
      let each = set_holds v (done_weight v d.answer.done) 0 w.nodes number x d.node there
      (λ e. let less = coordinator_holds v ciphers y got cost note w.clock (role ∙ first x (ap (slice_get w.nodes) (sym e) ∙ there)) in
      let accepted = accepted_light in omega arith)
      (λ ne. let none : done_weight v d.answer.done ≡ 0 =
      ap (done_weight v) (meter_undone v ciphers y got cost note w.clock (subst IsMeter (sym role) (is_other w.nodes number x all ne there))) in
      omega arith) in
      record { less = omega arith; others = set_others w.nodes number x d.node there (heard_role ciphers y got cost note w.clock ∙ role) all }
    where
      plan : Memory → Plan Memory (Result Accepted FrameRefusal)
      plan m = of_station m (accept m.station x.eui (arrived ciphers octets))

      y : Node
      y = (accepting ciphers x octets).node

      note : ℕ
      note = note_by w octets got.path

      d : NodeStep Reception
      d = hearing_step ciphers y got cost note w.clock

      role : y.role ≡ x.role
      role = acts_role x (Err frames.Halted) plan

      accepted_light : held_of v y.memory ≤ held_of v x.memory
      accepted_light = acts_light v x (Err frames.Halted) plan (λ m here. station_light v m (accept m.station x.eui (arrived ciphers octets)))

  sent_light : (from to : ℕ) (datagram : List ℕ) (tag : ℕ) (b : Bool) (r : World × Trace) → Light v w 0 r → Light v w 0 (sent_if w from to datagram tag b r)
  sent_light from to datagram tag true r h = record { less = h.less; others = h.others }
  sent_light from to datagram tag false r h = h

  near_light : (x : Node) (to cost : ℕ) → held_of v (offered_near x to cost w.clock).node.memory ≤ held_of v x.memory
  near_light x to cost = acts_light v x (Ok tt) (λ m. of_station m (calls.preset_near m.station to cost w.clock))
      (λ m here. station_light v m (calls.preset_near m.station to cost w.clock))

  two_lighter : (a b : ℕ) (x y p q : Node) → node_at w a ≡ Some x → node_at w b ≡ Some y → b ≢ a → held_of v p.memory ≤ held_of v x.memory
      → (b ≡ 0 → held_of v q.memory ≤ held_of v y.memory) → held_by v (slice_set (slice_set w.nodes a p) b q) ≤ held_by v w.nodes
  two_lighter a b x y p q hx hy apart less_p less_q =
      let one = one_lighter v w.nodes a x p hx less_p in
      let two = set_holds v 0 0 (slice_set w.nodes a p) b y q (slice_get-set_other w.nodes a b p apart ∙ hy)
      (λ e. let less = less_q e in omega arith) (λ ne. omega arith) in
      omega arith

  near_role : (x : Node) (to cost : ℕ) → (offered_near x to cost w.clock).node.role ≡ x.role
  near_role x to cost = acts_role x (Ok tt) (λ m. of_station m (calls.preset_near m.station to cost w.clock))

  two_others : (a b : ℕ) (x y p q : Node) → node_at w a ≡ Some x → node_at w b ≡ Some y → b ≢ a → p.role ≡ x.role → q.role ≡ y.role
      → OthersAreMeters (slice_set (slice_set w.nodes a p) b q)
  two_others a b x y p q hx hy apart role_p role_q =
      set_others (slice_set w.nodes a p) b y q (slice_get-set_other w.nodes a b p apart ∙ hy) role_q (set_others w.nodes a x p hx role_p all)

  old_light : (event : Event) (s : Step) → IsStep ciphers w event s → is_asking event ≡ false → LightIn v w 0 s
  unfolding world_after
  old_light event s (Fails e fault) other = tt
  old_light event s (Makes e x is) other = let less = pushed_holds v w.nodes x (made_holds v w e x is) in
      record { less = omega arith; others = made_others w e x is all }
  old_light event s (Rests e quiet) other = record { less = omega arith; others = all }
  old_light event s (Shows number x) other = record { less = omega arith; others = all }
  old_light event s (Acts e number x A halted plan reads there call word asked) other = absurd (false_true (sym other ∙ asking_word reads e word))
  old_light event s (BreaksLink number next x a there call) other =
      let plan : Memory → Plan Memory Answer = λ m. changing answers.Broken (with_station (calls.broke a m.station) m) in
      let r = node_outcome ciphers w number (acts x answers.Halted plan) in
      acted_light number x (acts x answers.Halted plan).node r.0 r.1 there refl refl (acts_role x answers.Halted plan) (acts_light v x answers.Halted plan
      (λ m here. rested_light v m (calls.broke a m.station) answers.Broken answers.Broken))
  old_light event s (SendsFrom from to datagram x a there call target) other =
      let plan : Memory → Plan Memory (Result SentHow SendRefusal) = λ m. of_station m (calls.send m.station a datagram (w.sends + 1) w.clock) in
      let d = acts x (Err sends.Halted) plan in
      let r = node_outcome ciphers w from (answering sent_word d) in
      sent_light from to datagram (tag_of x) (is_taken (sent_word d.answer)) r (acted_light from x d.node r.0 r.1 there refl refl
      (acts_role x (Err sends.Halted) plan)
      (acts_light v x (Err sends.Halted) plan (λ m here. station_light v m (calls.send m.station a datagram (w.sends + 1) w.clock))))
  old_light event s (AllowsMeter number y c psk there call meter) other =
      let d = acts c (Err orders.Halted) (λ m. coordinator_rules.allow m y.eui psk) in
      let r = allowed ciphers w number d in
      acted_light 0 c d.node r.0 r.1 there refl refl (acts_role c (Err orders.Halted) (λ m. coordinator_rules.allow m y.eui psk))
      (acts_light v c (Err orders.Halted) (λ m. coordinator_rules.allow m y.eui psk) (λ m here. allow_lighter v m y.eui psk))
  old_light event s (Sets e quiet number x plan there open_is is) other =
      let d = acts x (Ok tt) (λ m. of_station m (plan m.station)) in
      acted_light number x d.node (world_after ciphers (set_up w) number d) (trace_of (happenings w answers.Set)) there refl refl
      (acts_role x (Ok tt) (λ m. of_station m (plan m.station)))
      (acts_light v x (Ok tt) (λ m. of_station m (plan m.station)) (λ m here. station_light v m (plan m.station)))
  old_light event s (SetsTwo e quiet a b cost x y p q hx hy apart open_is one two fresh near) other =
      let less = two_lighter a b x y (offered_near x q cost w.clock).node (offered_near y p cost w.clock).node hx hy apart (near_light x q cost)
      (λ e. near_light y p cost) in
      record { less = omega arith; others = two_others a b x y _ _ hx hy apart (near_role x q cost) (near_role y p cost) }
  old_light event s (Provides number x c psk g d ne open_is hx hc pair same is) other =
      let made : held_of v d.node.memory ≤ held_of v c.memory =
      subst (λ (u : NodeStep (Result Granted CoordinatorRefusal)). held_of v u.node.memory ≤ held_of v c.memory) (sym same)
      (acts_light v c (Err orders.Halted) (λ m. coordinator_rules.depot m x.eui psk) (λ m here. depot_lighter v m x.eui psk)) in
      let less = two_lighter 0 number c x d.node (acts x (Ok tt) (λ m. meters.provision m g)).node hc hx ne made (λ e. absurd (ne e)) in
      let role : d.node.role ≡ c.role = subst (λ (u : NodeStep (Result Granted CoordinatorRefusal)). u.node.role ≡ c.role) (sym same)
      (acts_role c (Err orders.Halted) (λ m. coordinator_rules.depot m x.eui psk)) in
      record {
        less = omega arith;
        others =
            two_others 0 number c x d.node (acts x (Ok tt) (λ m. meters.provision m g)).node hc hx ne role (acts_role x (Ok tt) (λ m. meters.provision m g));
      }
  old_light event s (TurnsDown e number x octets reason d there says comes same is) other =
      let plan : Memory → Plan Memory (Result Accepted FrameRefusal) = λ m. of_station m (accept m.station x.eui (arrived ciphers octets)) in
      acted_light number x d.node (world_after ciphers (running_world w) number d) (trace_of (happenings w (frame_word reason))) there refl refl
      (subst (λ (u : NodeStep (Result Accepted FrameRefusal)). u.node.role ≡ x.role) (sym same) (acts_role x (Err frames.Halted) plan))
      (subst (λ (u : NodeStep (Result Accepted FrameRefusal)). held_of v u.node.memory ≤ held_of v x.memory) (sym same)
      (acts_light v x (Err frames.Halted) plan (λ m here. station_light v m (accept m.station x.eui (arrived ciphers octets)))))
  old_light event s (Hears e number x octets cost got there says comes low is) other = heard_light number x octets cost got there
  old_light event s (Loses number f there) other = record { less = omega arith; others = all }
  old_light event s (Ticks seconds) other =
      let less = map_holds v (ticked (w.clock + seconds)) w.nodes (ticked_holds v (w.clock + seconds)) in
      record { less = omega arith; others = ticked_others (w.clock + seconds) w.nodes all }
  old_light event s (Restarts number x there) other =
      let r = node_outcome ciphers w number (restarts x) in
      let none = restarted_holds v x.role x.store.records in
      acted_light number x (restarts x).node r.0 r.1 there refl refl refl (omega arith)
  old_light event s (Cuts number nth keeps_new x there) other =
      let y : Node = record x { store = record x.store { cut = Some (record { nth = nth; keeps_new = keeps_new }) } } in
      let r = node_outcome ciphers w number (stays y answers.Set) in
      acted_light number x y r.0 r.1 there refl refl refl (omega arith)

  step_light : (event : Event) → IsEvent event → LightIn v w (times as_it_is v (random_in event)) (step ciphers w event)
  step_light event says = by_kind (is_asking event) refl
    where
      by_kind : (b : Bool) → is_asking event ≡ b → LightIn v w (times as_it_is v (random_in event)) (step ciphers w event)
      by_kind true e = asked_light event e
      by_kind false e = lighter_in _ _ (old_light event _ (step_is ciphers w event says) e)

  -- # Events of further reach

  moved_holds : (u z : World) → Moves AnyUnits AnyDiscovery ciphers u z → held_by v z.nodes ≤ held_by v u.nodes
  unfolding world_after
  moved_holds u z (Stays a) = omega arith
  moved_holds u z (Carries a number x A halted does there is) =
      one_lighter v u.nodes number x (acts x halted does).node there (acts_light v x halted does (λ m here. further_light v AnyUnits m (does m) (is m here)))
  moved_holds u z (Flies a number x frame there known) = omega arith
  moved_holds u z (Besides a on bs) = omega arith
  moved_holds u z (Turns a between b one rest) = let near = moved_holds u between one in let far = moved_holds between z rest in omega arith

  moved_others : (u z : World) → Moves AnyUnits AnyDiscovery ciphers u z → OthersAreMeters u.nodes → OthersAreMeters z.nodes
  unfolding world_after
  moved_others u z (Stays a) before = before
  moved_others u z (Carries a number x A halted does there is) before =
      set_others u.nodes number x (acts x halted does).node there (acts_role x halted does) before
  moved_others u z (Flies a number x frame there known) before = before
  moved_others u z (Besides a on bs) before = before
  moved_others u z (Turns a between b one rest) before = moved_others between z rest (moved_others u between one before)

  moved_after : (more : ℕ) (r : World × Trace) (u : World) (t : Trace) → Light v w more r → Moves AnyUnits AnyDiscovery ciphers r.0 u → t.done ≡ r.1.done
      → Light v w more (u, t)
  moved_after more r u t h moves same =
      let less = h.less in
      let far = moved_holds r.0 u moves in
      let done : done_of v t.done ≡ done_of v r.1.done = ap (done_of v) same in
      record { less = omega arith; others = moved_others r.0 u moves h.others }

  pub line_light : (event : Event) (s : Step) → IsLineStepBy (OldStep ciphers w) AnyUnits AnyDiscovery ciphers w event s → IsEvent event
      → LightIn v w (times as_it_is v (random_in event)) s
  unfolding world_after
  line_light event s (Known e t old) says = of_old ciphers w e (LightIn v w (times as_it_is v (random_in e))) (λ fault. tt) (step_light e says) t old
  line_light event s (Opens begun) says = record { less = omega arith; others = all }
  line_light event s (Anew e u t moves silent) says =
      lighter_in _ (Ok (u, t)) (moved_after 0 (running_world w, trace_of (happenings w answers.Set)) u t
      (rested (running_world w) (trace_of (happenings w answers.Set)) refl refl)
      moves silent.done)
  line_light event s (After e r u t old ok runs moves same) says =
      moved_after _ r u t (of_old ciphers w e (LightIn v w (times as_it_is v (random_in e))) (λ fault. tt) (step_light e says) (Ok r) old) moves same.done
  line_light event s (Unsends e r u t old ok runs moves same) says =
      let h = moved_after _ r u t (of_old ciphers w e (LightIn v w (times as_it_is v (random_in e))) (λ fault. tt) (step_light e says) (Ok r) old) moves
      same.done in
      record { less = h.less; others = h.others }
  line_light event s (Unbelieves e number x octets got there says comes is) own =
      let y : Node = (accepting ciphers x octets).node in
      let plan : Memory → Plan Memory (Result Accepted FrameRefusal) = λ m. of_station m (accept m.station x.eui (arrived ciphers octets)) in
      let r = unbelieved ciphers w number y octets got in
      lighter_in _ (Ok r) (acted_light number x y r.0 r.1 there refl refl (acts_role x (Err frames.Halted) plan)
      (acts_light v x (Err frames.Halted) plan (λ m here. station_light v m (accept m.station x.eui (arrived ciphers octets)))))
  line_light event s (Chooses number k x psk ne there e) says =
      let r = chooses_by ciphers w number x k (Some psk) in
      acted 0 number x
      (acts x (Err choices.Halted) (with_beside (beside_at w number) (λ y. choose_agent (identity ciphers x psk) y k w.clock))).node r.0 r.1 there refl refl
      (acts_role x (Err choices.Halted) (with_beside (beside_at w number) (λ y. choose_agent (identity ciphers x psk) y k w.clock))) (λ e. absurd (ne e))
