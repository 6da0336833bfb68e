-- Every event keeps what holds of ranks and routes, where it is not forged.
use Rattle.std.proofs.Common.{◌≡◌, ◌≢◌, ◌⊎◌, inl, inr, ⊎_elim, ℕ, zero, suc, ◌+◌, ◌-◌, ◌≤◌, ◌<◌, Bool, true, false, not, List, [], ◌∷◌, ◌++◌, length, map}
use Rattle.std.proofs.Common.{Option, Some, None, Result, Ok, Err, refl, sym, ap, ◌∙◌, subst, arith}
use Rattle.std.specs.Prelude.{if◌then◌else◌, All, IfSome, is_some, ◌==◌, ◌||◌, nat_lt, slice_get, slice_set}
use Rattle.std.specs.List.{list_any}
use Rattle.std.specs.Option.{option_map, option_map_or, option_and_then}
use Rattle.std.proofs.lemmas.Bool.{eqb-false, eqb-true, or_parts}
use Rattle.std.proofs.lemmas.List.Elements.{All-nil, All-set, All-weaker}
use Rattle.std.proofs.lemmas.Option.{same_Some, none-some}
use Rattle.store_tables.proofs.SlotTables.{slice_get-set_other, slice_get-map}
use Rattle.plc_base.specs.declared.address.Eui.{Eui}
use Rattle.plc_base.specs.declared.key.Key.{Key}
use Rattle.plc_base.specs.declared.key.RandomOctets.{RandomOctets}
use Rattle.plc_base.specs.Grant.{Granted}
use Rattle.group_keys.specs.KeyRing as ring
use Rattle.routing_set.specs.declared.rank.Rank.{Rank}
use Rattle.routing_set.specs.RoutingSet as routing
use Rattle.line_events.specs.declared.event.Event.{Event}
use Rattle.line_events.specs.declared.event.Event.TheVariants as events
use Rattle.line_events.specs.declared.event.Answer.{Answer}
use Rattle.line_events.specs.declared.event.Answer.TheVariants as answers
use Rattle.line_events.specs.declared.event.StepFault.{StepFault}
use Rattle.line_events.specs.declared.event.StepFault.TheVariants as faults
use Rattle.node_rules.specs.Accepted.{Accepted}
use Rattle.node_rules.specs.declared.refusal.CoordinatorRefusal.{CoordinatorRefusal}
use Rattle.node_rules.specs.declared.refusal.CoordinatorRefusal.TheVariants as orders
use Rattle.node_rules.specs.declared.refusal.Dropped.TheVariants as drops
use Rattle.node_rules.specs.declared.refusal.FrameRefusal.{FrameRefusal}
use Rattle.node_rules.specs.declared.refusal.FrameRefusal.TheVariants as frames
use Rattle.node_rules.specs.declared.refusal.RandomFault.TheVariants as randoms
use Rattle.node_rules.specs.declared.refusal.JoinRefusal.TheVariants as joins
use Rattle.node_rules.specs.declared.refusal.LeaveRefusal.TheVariants as leaves
use Rattle.node_rules.specs.declared.refusal.SendRefusal.TheVariants as sends
use Rattle.node_rules.specs.Ciphers.{Ciphers}
use Rattle.node_rules.specs.Frames.{Sent, arrived}
use Rattle.node_rules.specs.Memory.{StationMemory, Memory, Role, Coordinator, Meter, Node, address_of, node_address}
use Rattle.node_rules.specs.Plans.{Plan, resting}
use Rattle.node_rules.specs.Acceptance.{Accepting, accept, marking}
use Rattle.node_rules.specs.Calls as calls
use Rattle.node_rules.specs.Meters as meters
use Rattle.node_rules.specs.Coordinators as coordinator_rules
use Rattle.line_rules.specs.Answers.{Reception, meter_reception, coordinator_reception, random_word, join_word, leave_word, sent_word, ordered_word, frame_word}
use Rattle.node_rules.specs.MemoryDrafts.{with_station, give_random}
use Rattle.line_events.specs.Events.{IsEvent, IsLineOctets}
use Rattle.line_rules.specs.Worlds.{World, Flight, Trace, node_at, flight_at, is_forged_tag}
use Rattle.line_rules.specs.Steps.{Step, set_up, running_world, world_after, node_outcome, once_begun, in_setup, has_begun, takes_setup, on_node, on_meter}
use Rattle.line_rules.specs.Steps.{made_node}
use Rattle.line_rules.specs.Steps.{blank_node}
use Rattle.line_rules.specs.Steps.{identity, hearing_step, restarts, ticked, rand, join, joins_by, leave, send, sends_by, sent_if, breaks, breaks_by, lose}
use Rattle.line_rules.specs.Steps.{tick}
use Rattle.line_rules.specs.Steps.{restart, cut, show, psk_of, trace_of, happenings, coordinator, coordinator_node, meter, is_known, depot, depot_by}
use Rattle.line_rules.specs.Steps.{provisioned}
use Rattle.line_rules.specs.Steps.{near, near_by, keeps_rank, ranks_full, offered_near, preset, allow, allowed, deliver, inject, arrives, accepted_by, received}
use Rattle.line_rules.specs.Steps.{by_coordinator, forged_by, note_by, rekey, challenge, activate, kick, step}
use Rattle.node_rules.specs.NodeSteps.{NodeStep, acts, answering, of_station, changing}
use Rattle.line_laws.specs.Stores.{IsReadable, IsKept}
use Rattle.line_laws.specs.Sizes.{IsMemorySized}
use Rattle.line_laws.specs.Owed.{AreOctets, KeepsRanges}
use Rattle.line_laws.proofs.KeptMemory.{Left}
use Rattle.line_laws.proofs.Nodes.{NodeOk, DidOk, acts_ok, ring_readable}
use Rattle.line_laws.proofs.StoreMarks.{accept_is, Accepts, Turned, Plain, Marked}
use Rattle.line_laws.proofs.NodeCalls.{RoutesFit}
use Rattle.line_laws.proofs.CoordinatorCalls.{accept_ok, accept_failed, accepted_routes}
use Rattle.line_laws.proofs.Answered.{Answered, acts_answered}
use Rattle.eap_psk.specs.declared.server.Agreed.{Agreed}
use Rattle.node_rules.specs.declared.heard.MeterHeard.TheVariants as meter_heard
use Rattle.line_laws.proofs.Quiet.{near_quiet, install_quiet, allow_quiet, depot_quiet}
use Rattle.line_laws.proofs.RouteQuiet.{join_read, rekey_quiet, activate_self_quiet, random_quiet, leave_quiet}
use Rattle.line_laws.proofs.RankGrants.{taking_ranks}
use Rattle.line_laws.proofs.Worlds.{WorldOk, FlightFits, at_place}
use Rattle.line_laws.proofs.RankFold.{IsAt}
use Rattle.line_laws.proofs.RankPlans.{PlanRanks, NodeRanks, acts_ranks, ranks_trans}
use Rattle.line_laws.proofs.RankCalls.{send_ranks, near_ranks, counter_ranks, number_ranks, broke_ranks, provision_ranks, random_ranks, join_ranks, leave_ranks}
use Rattle.line_laws.proofs.RankCalls.{coordinator_hears_ranks, allow_ranks, depot_ranks, rekey_ranks, activate_self_ranks, challenge_ranks, activate_ranks}
use Rattle.line_laws.proofs.RankCalls.{kick_ranks, accept_ranks}
use Rattle.line_laws.proofs.RouteParts.{At, Own, IsNearer, FlightBacked, IsPlain, IsSealedUnit, RoutingHolds, ComesFrom, From, New, Reached, reach}
use Rattle.line_laws.proofs.RouteParts.{flight_later}
use Rattle.line_laws.proofs.RouteParts.{after_step}
use Rattle.line_laws.proofs.RouteHeard.{SaidRight, accepted_said, said_offers}
use Rattle.line_laws.proofs.RouteNodes.{acts_frames, acts_memory, same_store, ticked_ranks, restarted_ranks, blank_ranks, blank_routes, coordinator_ranks}
use Rattle.line_laws.proofs.RouteNodes.{coordinator_routes}
use Rattle.line_laws.specs.Loops.{stored, Later}
use Rattle.line_laws.proofs.LettersRead.{FrameRead, Reads, CallsRead}
use Rattle.line_laws.proofs.Homed.{Homes, Addressed, TakenFrom, IsTagged, HomesFit, DepotFits}
use Rattle.line_laws.specs.Ranked.{via}

-- # What other parts say

-- what an event that is taken keeps, where it is not forged
pub data StepHolds (ciphers : Ciphers) (h : Homes) (w : World) : Step → Type 0 where
  Fails : (fault : StepFault) → StepHolds ciphers h w (Err fault)
  Taken : (r : World × Trace) → (r.1.happenings.forged ≡ false → Reached ciphers h w r.0) → StepHolds ciphers h w (Ok r)

-- whether a grant has this home
abbrev is_home : Option ℕ → Granted → Bool
is_home home g = option_map_or (λ a. g.address == a) home false

home_passes : (home : Option ℕ) (g : Granted) → is_home home g ≡ true → home ≡ Some g.address
home_passes None g e = absurd (cc)
home_passes (Some a) g e = ap Some (sym (eqb-true _ _ e))

home_fails : (home : Option ℕ) (g : Granted) → is_home home g ≡ false → ¬ (home ≡ Some g.address)
home_fails None g e k = none-some g.address k
home_fails (Some a) g e k = eqb-false _ _ e (sym (same_Some _ _ k))

-- # Worlds

module _ (ciphers : Ciphers) (h : Homes) where
  -- clock and counts do not matter
  pub counts_hold : {b : World} (w v : World) → v.nodes ≡ w.nodes → v.flights ≡ w.flights → Reached ciphers h b w → Reached ciphers h b v
  counts_hold w v e f good = reach ciphers h w v (record {
    forward = forward;
    back = λ i y there. From y [] (sym (ap (λ ns. slice_get ns i) e) ∙ there) (same_store (At h i) (Own h i) (IsNearer h w) y y refl (λ dest next k. k));
    flights = λ old. subst (All (FlightBacked ciphers h v)) (sym f)
        (All-weaker (FlightBacked ciphers h w) (FlightBacked ciphers h v) (λ x b. flight_later ciphers h w v forward x b) w.flights old);
  }) good
    where
      forward : (i : ℕ) (x : Node) → node_at w i ≡ Some x → Later v i x
      forward i x there = record { node = x; there = ap (λ ns. slice_get ns i) e ∙ there; above = λ dest. inl refl }

  -- a node more
  pushed_old : (xs : List Node) (x : Node) (i : ℕ) (y : Node) → slice_get xs i ≡ Some y → slice_get (xs ++ x ∷ []) i ≡ Some y
  pushed_old [] x i y e = absurd (none-some y e)
  pushed_old (z ∷ xs) x zero y e = e
  pushed_old (z ∷ xs) x (suc i) y e = pushed_old xs x i y e

  pushed_back : (xs : List Node) (x : Node) (i : ℕ) (y : Node) → slice_get (xs ++ x ∷ []) i ≡ Some y → (slice_get xs i ≡ Some y) ⊎ (x ≡ y)
  pushed_back [] x zero y e = inr (same_Some _ _ e)
  pushed_back [] x (suc i) y e = absurd (none-some y e)
  pushed_back (z ∷ xs) x zero y e = inl e
  pushed_back (z ∷ xs) x (suc i) y e = pushed_back xs x i y e

  made_holds : {b : World} (w : World) (x : Node) → ((dest : ℕ) → routing.rank_of (stored x) dest ≡ None) → ((dest next : ℕ) → via x dest ≡ Some next → ⊥)
      → Reached ciphers h b w → Reached ciphers h b (made_node w x).0
  made_holds w x none no_route good = reach ciphers h w (made_node w x).0 (record {
    forward = forward;
    back = λ i y there. ⊎_elim
        (λ (old : slice_get w.nodes i ≡ Some y). From y [] old (same_store (At h i) (Own h i) (IsNearer h w) y y refl (λ dest next k. k)))
        (λ (is : x ≡ y). subst (ComesFrom h w i) is (New none no_route))
        (pushed_back w.nodes x i y there);
    flights = λ old. All-weaker (FlightBacked ciphers h w) (FlightBacked ciphers h (made_node w x).0)
        (λ f b. flight_later ciphers h w (made_node w x).0 forward f b) w.flights old;
  }) good
    where
      forward : (i : ℕ) (y : Node) → node_at w i ≡ Some y → Later (made_node w x).0 i y
      forward i y there = record { node = y; there = pushed_old w.nodes x i y there; above = λ dest. inl refl }

  -- what a node did goes into the world
  pub CallHolds : World → ℕ → Node → {A : Type 0} → NodeStep A → Type 0
  CallHolds u number x d = NodeRanks (At h number) (Own h number) (IsNearer h u) x d.node d.frames × All (FrameRead ciphers) d.frames

  after_holds : {A : Type 0} {b : World} (u : World) (number : ℕ) (x : Node) (d : NodeStep A) → node_at u number ≡ Some x → CallHolds u number x d
      → Reached ciphers h b u → Reached ciphers h b (world_after ciphers u number d)
  unfolding CallHolds
  after_holds u number x d there c good = reach ciphers h u (world_after ciphers u number d) (after_step ciphers h u number x d there c.0 c.1) good

  answering_holds : {A B : Type 0} (u : World) (number : ℕ) (x : Node) (reads : A → B) (d : NodeStep A) → CallHolds u number x d
      → CallHolds u number x (answering reads d)
  unfolding CallHolds
  answering_holds u number x reads d c = c

  -- the address that a node has is its home
  at_home : (w : World) (addressed : Addressed h w) (i : ℕ) (x : Node) (m : Memory) → node_at w i ≡ Some x → x.memory ≡ Some m
      → IsAt (At h i) (address_of m.station)
  at_home w addressed i x m there is = by_address (address_of m.station) refl
    where
      by_address : (o : Option ℕ) → address_of m.station ≡ o → IsAt (At h i) o
      by_address None e = tt
      by_address (Some a) e = addressed.home i x there a (ap (option_and_then (λ (n : Memory). address_of n.station)) is ∙ e)

  -- one call of a node, told to a world u
  one_call : {A : Type 0} (w u : World) (addressed : Addressed h w) (number : ℕ) (x : Node) (halted : A) (plan : Memory → Plan Memory A)
      → node_at w number ≡ Some x → NodeOk x
      → ((m : Memory) → IsAt (At h number) (address_of m.station) → IsKept x.role m x.store.records → IsMemorySized m
      → PlanRanks (At h number) (Own h number) (IsNearer h u) m (plan m))
      → ((m : Memory) → x.memory ≡ Some m → Reads ciphers (plan m))
      → CallHolds u number x (acts x halted plan)
  unfolding CallHolds
  one_call w u addressed number x halted plan there ok ranks reads = (
    acts_ranks (At h number) (Own h number) (IsNearer h u) x halted plan ok
        (λ m is kept. ranks m (at_home w addressed number x m there is) kept (sized_of m is)),
    acts_frames (FrameRead ciphers) x halted plan ok (λ m is kept sized. reads m is),
  )
    where
      sized_of : (m : Memory) → x.memory ≡ Some m → IsMemorySized m
      sized_of m is = subst (λ o. IfSome o IsMemorySized) is ok.sized

-- # Events

module _ (ciphers : Ciphers) (fits : KeepsRanges ciphers) (h : Homes) (w : World) (reads : CallsRead ciphers w) (ok : WorldOk w)
    (flown : All FlightFits w.flights) (homes : HomesFit ciphers h w) (good : RoutingHolds ciphers h w) where
  abbrev Holds : Step → Type 0
  Holds s = StepHolds ciphers h w s

  branch : (b : Bool) (p q : Step) → (b ≡ true → Holds p) → (b ≡ false → Holds q) → Holds (if b then p else q)
  branch true p q s t = s refl
  branch false p q s t = t refl

  by_option : {X : Type 0} (f : X → Step) (x : Option X) (p : Step) → ((y : X) → x ≡ Some y → Holds (f y)) → Holds p → Holds (option_map_or f x p)
  by_option f None p s t = t
  by_option f (Some y) p s t = s y refl

  once : (s : Step) → Holds s → Holds (once_begun w s)
  once s k = branch (has_begun w) s (Err faults.Setup) (λ _. k) (λ _. Fails faults.Setup)

  setup : (s : Step) → Holds s → Holds (in_setup w s)
  setup s k = branch (takes_setup w) s (Err faults.Setup) (λ _. k) (λ _. Fails faults.Setup)

  at_node : (number : ℕ) (f : Node → Step) → ((x : Node) → node_at w number ≡ Some x → Holds (f x)) → Holds (on_node w number f)
  at_node number f k = by_option f (node_at w number) (Err faults.Node) k (Fails faults.Node)

  at_meter : (number : ℕ) (f : Node → Step) → ((x : Node) → node_at w number ≡ Some x → Holds (f x)) → Holds (on_meter w number f)
  at_meter number f k = branch (number == 0) (Err faults.Node) (on_node w number f) (λ _. Fails faults.Node) (λ _. at_node number f k)

  node_ok : (number : ℕ) (x : Node) → node_at w number ≡ Some x → NodeOk x
  node_ok number x e = at_place NodeOk w.nodes number x e ok.nodes

  start_here : Reached ciphers h w w
  start_here = record { holds = good; later = λ i x there. record { node = x; there = there; above = λ dest. inl refl } }

  ran_holds : Reached ciphers h w (running_world w)
  ran_holds = counts_hold ciphers h w (running_world w) refl refl start_here

  set_up_holds : Reached ciphers h w (set_up w)
  set_up_holds = counts_hold ciphers h w (set_up w) refl refl start_here

  flight_octets : (number : ℕ) (f : Flight) → flight_at w number ≡ Some f → FlightFits f
  flight_octets number f = by_number (number == 0)
    where
      by_number : (b : Bool) → (if b then None else slice_get w.flights (number - 1)) ≡ Some f → FlightFits f
      by_number true e = absurd (none-some f e)
      by_number false e = at_place FlightFits w.flights (number - 1) f e flown

  -- a plan without frames
  none_read : {fs : List Sent} → fs ≡ [] → All (FrameRead ciphers) fs
  none_read e = subst (All (FrameRead ciphers)) (sym e) (All-nil (FrameRead ciphers))

  -- a call of one node
  call : {A : Type 0} (u : World) (number : ℕ) (x : Node) (halted : A) (plan : Memory → Plan Memory A) → node_at w number ≡ Some x
      → ((m : Memory) → IsAt (At h number) (address_of m.station) → IsKept x.role m x.store.records → IsMemorySized m
      → PlanRanks (At h number) (Own h number) (IsNearer h u) m (plan m))
      → ((m : Memory) → x.memory ≡ Some m → Reads ciphers (plan m))
      → CallHolds ciphers h u number x (acts x halted plan)
  call u number x halted plan there ranks read = one_call ciphers h w u homes.addressed number x halted plan there (node_ok number x there) ranks read

  acted_holds : (number : ℕ) (x : Node) (d : NodeStep Answer) → node_at w number ≡ Some x → CallHolds ciphers h (running_world w) number x d
      → Holds (Ok (node_outcome ciphers w number d))
  acted_holds number x d there c = Taken _ (λ honest. after_holds ciphers h (running_world w) number x d there c ran_holds)

  abbrev HearsFor : ℕ → ℕ → ℕ → Rank → Type 0
  HearsFor number = IsNearer h (running_world w)

  -- # The calls of one node

  rand_holds : (number : ℕ) (value : RandomOctets) → Holds (rand ciphers w number value)
  unfolding rand
  rand_holds number value =
      once _ (at_node number _ (λ x there. acted_holds number x _ there (answering_holds ciphers h (running_world w) number x random_word _
      (call (running_world w) number x (Err randoms.Halted) (λ m. give_random m value) there
      (λ m here kept sized. random_ranks (At h number) (Own h number) (IsNearer h (running_world w)) m here value)
      (λ m is. none_read (random_quiet m value))))))

  joins_hold : (number agent : ℕ) (x : Node) (address : Option ℕ) (psk : Option Key) → node_at w number ≡ Some x
      → Holds (Ok (joins_by ciphers w number x address psk))
  joins_hold number agent x None psk there = Taken _ (λ honest. ran_holds)
  joins_hold number agent x (Some a) None there = Taken _ (λ honest. ran_holds)
  joins_hold number agent x (Some a) (Some psk) there = acted_holds number x _ there (answering_holds ciphers h (running_world w) number x join_word _
      (call (running_world w) number x (Err joins.Halted) (λ m. meters.join (identity ciphers x psk) m a w.clock) there
      (λ m here kept sized. join_ranks (At h number) (Own h number) (IsNearer h (running_world w)) m here (identity ciphers x psk) a w.clock)
      (λ m is. join_read ciphers (identity ciphers x psk) m a w.clock)))

  join_holds : (number agent : ℕ) → Holds (join ciphers w number agent)
  unfolding join
  join_holds number agent = once _ (at_meter number _ (λ x there. at_node agent _ (λ y other. joins_hold number agent x (node_address y) (psk_of x) there)))

  leave_holds : (number : ℕ) → Holds (leave ciphers w number)
  unfolding leave
  leave_holds number = once _ (at_meter number _ (λ x there. acted_holds number x _ there (answering_holds ciphers h (running_world w) number x leave_word _
      (call (running_world w) number x (Err leaves.Halted) meters.leave there
      (λ m here kept sized. leave_ranks (At h number) (Own h number) (IsNearer h (running_world w)) m here (identity ciphers x (record { 0 = [] })))
      (λ m is. none_read (leave_quiet m))))))

  sent_holds : (from to : ℕ) (datagram : List ℕ) (tag : ℕ) (b : Bool) (r : World × Trace) → Reached ciphers h w r.0
      → Holds (Ok (sent_if w from to datagram tag b r))
  sent_holds from to datagram tag false r g = Taken _ (λ honest. g)
  sent_holds from to datagram tag true r g = Taken _ (λ honest. counts_hold ciphers h r.0 (record r.0 { sends = r.0.sends + 1 }) refl refl g)

  sends_hold : (from to : ℕ) (datagram : List ℕ) (x y : Node) (address : Option ℕ) → node_at w from ≡ Some x → node_at w to ≡ Some y → node_address y ≡ address
      → IsLineOctets datagram → Holds (Ok (sends_by ciphers w from to datagram x address))
  sends_hold from to datagram x y None there other address says = Taken _ (λ honest. ran_holds)
  sends_hold from to datagram x y (Some a) there other address says =
      let c = answering_holds ciphers h (running_world w) from x sent_word _
      (call (running_world w) from x (Err sends.Halted) (λ m. of_station m (calls.send m.station a datagram (w.sends + 1) w.clock)) there
      (λ m here kept sized. send_ranks (At h from) (Own h from) (IsNearer h (running_world w)) m here a datagram (w.sends + 1) w.clock)
      (λ m is. reads.send from x m there is to y a datagram other address says)) in
      sent_holds from to datagram _ _ _ (after_holds ciphers h (running_world w) from x _ there c ran_holds)

  send_holds : (from to : ℕ) (datagram : List ℕ) → IsLineOctets datagram → Holds (send ciphers w from to datagram)
  unfolding send
  send_holds from to datagram says =
      once _ (at_node from _ (λ x there. at_node to _ (λ y other. sends_hold from to datagram x y (node_address y) there other refl says)))

  breaks_hold : (number : ℕ) (x : Node) (next : Option ℕ) → node_at w number ≡ Some x → Holds (Ok (breaks_by ciphers w number x next))
  unfolding resting
  breaks_hold number x None there = Taken _ (λ honest. ran_holds)
  breaks_hold number x (Some next) there = acted_holds number x _ there
      (call (running_world w) number x answers.Halted (λ m. changing answers.Broken (with_station (calls.broke next m.station) m)) there
      (λ m here kept sized. broke_ranks (At h number) (Own h number) (IsNearer h (running_world w)) m here next answers.Broken)
      (λ m is. All-nil (FrameRead ciphers)))

  break_holds : (number next : ℕ) → Holds (breaks ciphers w number next)
  unfolding breaks
  break_holds number next = once _ (at_node number _ (λ x there. at_node next _ (λ y other. breaks_hold number x (node_address y) there)))

  restart_holds : (number : ℕ) → Holds (restart ciphers w number)
  unfolding restart CallHolds
  restart_holds number = once _ (at_node number _ (λ x there. acted_holds number x (restarts x) there
      (restarted_ranks (At h number) (Own h number) (IsNearer h (running_world w)) x (node_ok number x there), All-nil (FrameRead ciphers))))

  cut_holds : (number nth : ℕ) (keeps_new : Bool) → Holds (cut ciphers w number nth keeps_new)
  unfolding cut CallHolds via
  cut_holds number nth keeps_new = once _ (at_node number _ (λ x there. acted_holds number x _ there (
    same_store (At h number) (Own h number) (IsNearer h (running_world w)) x
        (record x { store = record x.store { cut = Some (record { nth = nth; keeps_new = keeps_new }) } }) refl (λ dest next e. e),
    All-nil (FrameRead ciphers),
  )))

  show_holds : (number : ℕ) → Holds (show w number)
  unfolding show
  show_holds number = once _ (at_node number _ (λ x there. Taken _ (λ honest. ran_holds)))

  -- # lose, tick

  lost_backed : (v : World) (f : Flight) → FlightBacked ciphers h v f → FlightBacked ciphers h v (record f { lost = true })
  lost_backed v f (IsPlain none) = IsPlain none
  lost_backed v f (IsSealedUnit sealed_unit x octets key home there backed read) = IsSealedUnit sealed_unit x octets key home there backed read

  lose_holds : (number : ℕ) → Holds (lose w number)
  unfolding lose
  lose_holds number = once _ (by_flight (flight_at w number) refl)
    where
      v : Flight → World
      v f = record (running_world w) { flights = slice_set w.flights (number - 1) (record f { lost = true }) }

      backed_at : (f : Flight) → flight_at w number ≡ Some f → FlightBacked ciphers h w f
      backed_at f = by_number (number == 0)
        where
          by_number : (b : Bool) → (if b then None else slice_get w.flights (number - 1)) ≡ Some f → FlightBacked ciphers h w f
          by_number true e = absurd (none-some f e)
          by_number false e = at_place (FlightBacked ciphers h w) w.flights (number - 1) f e good.ranks.backed

      forward : (f : Flight) (i : ℕ) (x : Node) → node_at w i ≡ Some x → Later (v f) i x
      forward f i x there = record { node = x; there = there; above = λ dest. inl refl }

      lost_holds : (f : Flight) → flight_at w number ≡ Some f → Reached ciphers h w (v f)
      lost_holds f there = reach ciphers h w (v f) (record {
        forward = forward f;
        back = λ i y is. From y [] is (same_store (At h i) (Own h i) (IsNearer h w) y y refl (λ dest next k. k));
        flights = λ old. All-set (FlightBacked ciphers h (v f)) w.flights (number - 1) (record f { lost = true })
            (lost_backed (v f) f (flight_later ciphers h w (v f) (forward f) f (backed_at f there)))
            (All-weaker (FlightBacked ciphers h w) (FlightBacked ciphers h (v f)) (λ x b. flight_later ciphers h w (v f) (forward f) x b) w.flights old);
      }) start_here

      by_lost : (f : Flight) (b : Bool) → flight_at w number ≡ Some f → Holds (if b then Err faults.Flight else Ok (v f, trace_of (happenings w answers.Lost)))
      by_lost f true there = Fails faults.Flight
      by_lost f false there = Taken _ (λ honest. lost_holds f there)

      by_flight : (o : Option Flight) → flight_at w number ≡ o
          → Holds (option_map_or (λ f. if f.lost then Err faults.Flight else Ok (v f, trace_of (happenings w answers.Lost))) o (Err faults.Flight))
      by_flight None there = Fails faults.Flight
      by_flight (Some f) there = by_lost f f.lost there

  tick_holds : (seconds : ℕ) → Holds (tick w seconds)
  unfolding tick
  tick_holds seconds = once _ (Taken _ (λ honest. reach ciphers h w v (record {
    forward = forward;
    back = λ i y is. back_by i y (slice_get w.nodes i) refl (sym (slice_get-map (ticked (w.clock + seconds)) w.nodes i) ∙ is);
    flights = λ old. All-weaker (FlightBacked ciphers h w) (FlightBacked ciphers h v) (λ f b. flight_later ciphers h w v forward f b) w.flights old;
  }) start_here))
    where
      v : World
      v = record (running_world w) { clock = w.clock + seconds; nodes = map (ticked (w.clock + seconds)) w.nodes }

      forward : (i : ℕ) (x : Node) → node_at w i ≡ Some x → Later v i x
      forward i x there = record {
        node = ticked (w.clock + seconds) x;
        there = slice_get-map (ticked (w.clock + seconds)) w.nodes i ∙ ap (option_map (ticked (w.clock + seconds))) there;
        above = λ dest. inl refl;
      }

      back_by : (i : ℕ) (y : Node) (o : Option Node) → slice_get w.nodes i ≡ o → option_map (ticked (w.clock + seconds)) o ≡ Some y → ComesFrom h w i y
      back_by i y None there e = absurd (none-some y e)
      back_by i y (Some x) there e =
          subst (ComesFrom h w i) (same_Some _ _ e) (From x [] there (ticked_ranks (At h i) (Own h i) (IsNearer h w) (w.clock + seconds) x))

  -- # Orders of the coordinator

  abbrev own_of : Node → coordinator_rules.CoordinatorIdentity
  own_of c = record { eui = c.eui; ciphers = ciphers }

  order_holds : {A : Type 0} (c : Node) (answer : Answer) (order : Memory → Plan Memory (Result A CoordinatorRefusal)) → node_at w 0 ≡ Some c
      → ((m : Memory) → IsAt (At h 0) (address_of m.station) → PlanRanks (At h 0) (Own h 0) (IsNearer h (running_world w)) m (order m))
      → ((m : Memory) → c.memory ≡ Some m → Reads ciphers (order m))
      → Holds (Ok (by_coordinator ciphers w c answer order))
  order_holds c answer order there ranks read = acted_holds 0 c _ there (answering_holds ciphers h (running_world w) 0 c (ordered_word answer) _
      (call (running_world w) 0 c (Err orders.Halted) order there (λ m here kept sized. ranks m here) read))

  rekey_holds : (index : ℕ) (key : Key) → Holds (rekey ciphers w index key)
  unfolding rekey
  rekey_holds index key = once _ (at_node 0 _ (λ c there. order_holds c answers.Drawn _ there
      (λ m here. rekey_ranks (At h 0) (Own h 0) (IsNearer h (running_world w)) m here (own_of c) index key) (λ m is. none_read (rekey_quiet m index key))))

  challenge_holds : (number : ℕ) → Holds (challenge ciphers w number)
  unfolding challenge
  challenge_holds number = once _ (at_meter number _ (λ x is. at_node 0 _ (λ c there. order_holds c answers.Challenged _ there
      (λ m here. challenge_ranks (At h 0) (Own h 0) (IsNearer h (running_world w)) m here (own_of c) x.eui w.clock)
      (λ m at. reads.challenge 0 c m there at number x is))))

  activate_holds : (number index : ℕ) → index ≤ 1 → Holds (activate ciphers w number index)
  unfolding activate
  activate_holds number index low = once _ (at_node number _ (λ x is. at_node 0 _ (λ c there. by_number (number == 0) x c is there)))
    where
      by_number : (b : Bool) (x c : Node) → node_at w number ≡ Some x → node_at w 0 ≡ Some c
          → Holds (Ok (if b then by_coordinator ciphers w c answers.Activated (λ m. coordinator_rules.activate_self m index)
          else by_coordinator ciphers w c answers.Ordered (λ m. coordinator_rules.activate m x.eui index w.clock)))
      by_number true x c other there = order_holds c answers.Activated _ there
          (λ m here. activate_self_ranks (At h 0) (Own h 0) (IsNearer h (running_world w)) m here (own_of c) index)
          (λ m at. none_read (activate_self_quiet m index))
      by_number false x c other there = order_holds c answers.Ordered _ there
          (λ m here. activate_ranks (At h 0) (Own h 0) (IsNearer h (running_world w)) m here (own_of c) x.eui index w.clock)
          (λ m at. reads.activate 0 c m there at number x index other low)

  kick_holds : (number : ℕ) → Holds (kick ciphers w number)
  unfolding kick
  kick_holds number = once _ (at_meter number _ (λ x is. at_node 0 _ (λ c there. order_holds c answers.Kicked _ there
      (λ m here. kick_ranks (At h 0) (Own h 0) (IsNearer h (running_world w)) m here (own_of c) x.eui) (λ m at. reads.kick 0 c m there at number x is))))

  allow_holds : (number : ℕ) → Holds (allow ciphers w number)
  unfolding allow
  allow_holds number = once _ (at_meter number _ (λ x is. at_node 0 _ (λ c there.
      by_option (λ psk. Ok (allowed ciphers w number (acts c (Err orders.Halted) (λ m. coordinator_rules.allow m x.eui psk)))) (psk_of x) (Err faults.Node)
      (λ psk pair. Taken _ (λ honest. after_holds ciphers h (running_world w) 0 c _ there
      (call (running_world w) 0 c (Err orders.Halted) (λ m. coordinator_rules.allow m x.eui psk) there
      (λ m here kept sized. allow_ranks (At h 0) (Own h 0) (IsNearer h (running_world w)) m here (own_of c) x.eui psk)
      (λ m at. none_read (allow_quiet m x.eui psk)))
      ran_holds)) (Fails faults.Node))))

  -- # Setup

  coordinator_holds : (eui : Eui) (key : Key) → Holds (coordinator w eui key)
  unfolding coordinator
  coordinator_holds eui key = branch (has_begun w) _ _ (λ _. Fails faults.Setup) (λ none.
      Taken _ (λ honest. made_holds ciphers h w (coordinator_node eui key) (coordinator_ranks eui key) (coordinator_routes eui key) start_here))

  meter_holds : (eui : Eui) (psk : Key) → Holds (meter w eui psk)
  unfolding meter
  meter_holds eui psk = branch (not (takes_setup w) || (nat_lt 999 (length w.nodes) || is_known w eui)) _ _ (λ _. Fails faults.Setup) (λ may.
      Taken _ (λ honest. made_holds ciphers h w (blank_node (Meter psk) eui) (blank_ranks (Meter psk) eui) (blank_routes (Meter psk) eui) start_here))

  preset_holds : (number : ℕ) (plan : StationMemory → calls.Presetting)
      → ((m : Memory) → IsAt (At h number) (address_of m.station)
      → PlanRanks (At h number) (Own h number) (IsNearer h (set_up w)) m (of_station m (plan m.station)))
      → ((m : Memory) → (of_station m (plan m.station)).frames ≡ []) → Holds (preset ciphers w number plan)
  preset_holds number plan ranks none = setup _ (at_node number _ (λ x there.
      Taken _ (λ honest. after_holds ciphers h (set_up w) number x _ there
      (call (set_up w) number x (Ok tt) (λ m. of_station m (plan m.station)) there (λ m here kept sized. ranks m here) (λ m is. none_read (none m)))
      set_up_holds)))

  counter_holds : (number value : ℕ) → Holds (preset ciphers w number (λ l. calls.preset_counter l value))
  unfolding resting
  counter_holds number value = preset_holds number _ (λ m here. counter_ranks (At h number) (Own h number) (IsNearer h (set_up w)) m here value) (λ m. refl)

  number_holds : (number value : ℕ) → Holds (preset ciphers w number (λ l. calls.preset_number l value))
  unfolding resting
  number_holds number value = preset_holds number _ (λ m here. number_ranks (At h number) (Own h number) (IsNearer h (set_up w)) m here value) (λ m. refl)

  -- an address of a node is below FFFE
  address_low : (x : Node) (address : ℕ) → NodeOk x → node_address x ≡ Some address → address < 0xFFFE
  address_low x address k = by_memory x.memory k.kept
    where
      by_ring : (r : ring.Ring) → IfSome r IsReadable → option_map (λ (g : Granted). g.address) r ≡ Some address → address < 0xFFFE
      by_ring None k e = absurd (none-some address e)
      by_ring (Some g) k e = let this : g.address ≡ address = same_Some _ _ e in let low = k.address in omega arith

      by_memory : (o : Option Memory) → Left (IsKept x.role) x.store.records o → option_and_then (λ (m : Memory). address_of m.station) o ≡ Some address
          → address < 0xFFFE
      by_memory None k e = absurd (none-some address e)
      by_memory (Some m) k e = by_ring m.station.ring k.station.range.ring e

  -- another node is there still
  other_there : {A : Type 0} (a b : ℕ) (d : NodeStep A) (y : Node) → b ≢ a → node_at w b ≡ Some y → node_at (world_after ciphers (set_up w) a d) b ≡ Some y
  unfolding world_after
  other_there a b d y apart there = slice_get-set_other w.nodes a b d.node apart ∙ there

  -- the address of another node is not the own one
  not_own : (a b address : ℕ) → a ≢ b → (own : ℕ) → h a ≡ Some own → h b ≡ Some address → ¬ (Own h a address)
  not_own a b address apart own mine other (inl same) = apart (homes.addressed.apart a b address same other)
  not_own a b address apart own mine other (inr none) = none-some own (sym none ∙ mine)

  near_call : (u : World) (a b cost : ℕ) (x y : Node) (own to : ℕ) → cost ≤ 255 → node_at w a ≡ Some x → node_at w b ≡ Some y → node_address y ≡ Some to → a ≢ b
      → h a ≡ Some own → h b ≡ Some to → to < 0xFFFE → CallHolds ciphers h u a x (offered_near x to cost w.clock)
  near_call u a b cost x y own to low there hy ey apart mine other short = answering_holds ciphers h u a x (λ _. tt) _
      (call u a x (Ok tt) (λ m. of_station m (calls.preset_near m.station to cost w.clock)) there
      (λ m here kept sized. near_ranks (At h a) (Own h a) (IsNearer h u) m here to cost w.clock
      (record { address = short; low = omega arith; number = omega arith; cost = omega arith }) (not_own a b to apart own mine other) (inl refl))
      (λ m is. none_read (near_quiet m.station to cost w.clock)))

  near_by_holds : (a b cost : ℕ) (x y : Node) (p q : Option ℕ) → cost ≤ 255 → node_at w a ≡ Some x → node_at w b ≡ Some y → node_address x ≡ p
      → node_address y ≡ q → Holds (near_by ciphers w a b cost x y p q)
  near_by_holds a b cost x y None q low hx hy ep eq = Fails faults.Setup
  near_by_holds a b cost x y (Some p) None low hx hy ep eq = Fails faults.Setup
  near_by_holds a b cost x y (Some p) (Some q) low hx hy ep eq =
      branch ((a == b) || (keeps_rank x q || (ranks_full x || ranks_full y))) _ _ (λ _. Fails faults.Setup) (λ may.
      let parts = or_parts _ _ may in
      let apart : a ≢ b = eqb-false _ _ parts.0 in
      let back : b ≢ a = λ same. apart (sym same) in
      let mine = homes.addressed.home a x hx p ep in
      let other = homes.addressed.home b y hy q eq in
      let u = world_after ciphers (set_up w) a (offered_near x q cost w.clock) in
      let first = after_holds ciphers h (set_up w) a x _ hx
      (near_call (set_up w) a b cost x y p q low hx hy eq apart mine other (address_low y q (node_ok b y hy) eq)) set_up_holds in
      Taken _ (λ honest. after_holds ciphers h u b y _ (other_there a b (offered_near x q cost w.clock) y back hy)
      (near_call u b a cost y x q p low hy hx ep back other mine (address_low x p (node_ok a x hx) ep)) first))

  near_holds : (a b cost : ℕ) → cost ≤ 255 → Holds (near ciphers w a b cost)
  unfolding near
  near_holds a b cost low =
      setup _ (at_node a _ (λ x hx. at_node b _ (λ y hy. near_by_holds a b cost x y (node_address x) (node_address y) low hx hy refl refl)))

  depot_by_holds : (number : ℕ) (x c : Node) (d : NodeStep (Result Granted CoordinatorRefusal)) → 0 ≢ number → node_at w number ≡ Some x → node_at w 0 ≡ Some c
      → CallHolds ciphers h (set_up w) 0 c d
      → ((g : Granted) → d.answer ≡ Ok g → h number ≡ Some g.address) → Holds (depot_by ciphers w number x d)
  depot_by_holds number x c d apart hx hc k home = by_answer d.answer refl
    where
      by_answer : (r : Result Granted CoordinatorRefusal) → d.answer ≡ r → Holds (depot_by ciphers w number x d)
      by_answer (Err reason) e = rw e (Fails faults.Setup)
      by_answer (Ok g) e =
          let d2 : NodeStep (Result Granted CoordinatorRefusal) = record d { answer = Ok g } in
          let u = world_after ciphers (set_up w) 0 d2 in
          let first = after_holds ciphers h (set_up w) 0 c d2 hc (answering_holds ciphers h (set_up w) 0 c (λ _. Ok g) d k) set_up_holds in
          let second = call u number x (Ok tt) (λ m. meters.provision m g) hx
          (λ m here kept sized. provision_ranks (At h number) (Own h number) (IsNearer h u) m here g (home g e))
          (λ m is. none_read (install_quiet m.station g)) in
          rw e (Taken (provisioned ciphers u number x g)
          (λ honest. after_holds ciphers h u number x _ (other_there 0 number d2 x (λ same. apart (sym same)) hx) second first))

  depot_holds : (number : ℕ) → DepotFits ciphers h w (events.Depot number) → Holds (depot ciphers w number)
  unfolding depot
  depot_holds number home =
      setup _ (at_node number _ (λ x hx. at_node 0 _ (λ c hc. branch ((number == 0) || is_some (node_address x)) _ _ (λ _. Fails faults.Setup) (λ may.
      by_option (λ psk. depot_by ciphers w number x (acts c (Err orders.Halted) (λ m. coordinator_rules.depot m x.eui psk))) (psk_of x) (Err faults.Setup)
      (λ psk pair.
      let apart : 0 ≢ number = λ same. eqb-false _ _ (or_parts _ _ may).0 (sym same) in
      depot_by_holds number x c _ apart hx hc
      (call (set_up w) 0 c (Err orders.Halted) (λ m. coordinator_rules.depot m x.eui psk) hc
      (λ m here kept sized. depot_ranks (At h 0) (Own h 0) (IsNearer h (set_up w)) m here (own_of c) x.eui psk) (λ m is. none_read (depot_quiet m x.eui psk)))
      (λ g e. home x c psk g hx hc pair e))
      (Fails faults.Setup)))))

  -- # deliver, inject

  -- what a node makes of a frame, as it is after accepting it
  hears_hold : (number : ℕ) (y : Node) (got : Accepted) (cost note : ℕ) → NodeOk y → RoutesFit got → SaidRight h (running_world w) got → 1 ≤ cost
      → ((psk : Key) → y.role ≡ Meter psk → (m : Memory) → y.memory ≡ Some m → (agreed : Agreed)
      → (meters.hear_meter (identity ciphers y psk) m got cost note w.clock).answer ≡ Ok (meter_heard.Took agreed)
      → (granted : Granted) → (t : TakenFrom (identity ciphers y psk) m got cost note w.clock granted)
      → IsTagged t (meters.hear_meter (identity ciphers y psk) m got cost note w.clock).opened → h number ≡ Some granted.address)
      → ((m : Memory) → y.memory ≡ Some m
      → Reads ciphers (coordinator_rules.hear_coordinator (record { eui = y.eui; ciphers = ciphers }) m got cost note w.clock))
      → ((psk : Key) → y.role ≡ Meter psk → (m : Memory) → y.memory ≡ Some m
      → Reads ciphers (meters.hear_meter (identity ciphers y psk) m got cost note w.clock))
      → ((m : Memory) → y.memory ≡ Some m → IsAt (At h number) (address_of m.station))
      → CallHolds ciphers h (running_world w) number y (hearing_step ciphers y got cost note w.clock)
  unfolding CallHolds
  hears_hold number y got cost note k routes right far took coordinator_reads meter_reads here = by_role y.role refl
    where
      hears_as : Role → NodeStep Reception
      hears_as Coordinator = answering coordinator_reception
          (acts y (Err drops.Store) (λ m. coordinator_rules.hear_coordinator (record { eui = y.eui; ciphers = ciphers }) m got cost note w.clock))
      hears_as (Meter psk) = answering meter_reception (acts y (Err drops.Store) (λ m. meters.hear_meter (identity ciphers y psk) m got cost note w.clock))

      by_role : (role : Role) → y.role ≡ role → CallHolds ciphers h (running_world w) number y (hears_as role)
      by_role Coordinator is = answering_holds ciphers h (running_world w) number y coordinator_reception
          (acts y (Err drops.Store) (λ m. coordinator_rules.hear_coordinator (record { eui = y.eui; ciphers = ciphers }) m got cost note w.clock)) (
            acts_ranks (At h number) (Own h number) (IsNearer h (running_world w)) y (Err drops.Store)
                (λ m. coordinator_rules.hear_coordinator (record { eui = y.eui; ciphers = ciphers }) m got cost note w.clock) k
                (λ m e kept. coordinator_hears_ranks (At h number) (Own h number) (IsNearer h (running_world w)) m (here m e) got cost note w.clock
                (said_offers h (running_world w) number got cost note w.clock routes right far) (record { eui = y.eui; ciphers = ciphers })),
            acts_frames (FrameRead ciphers) y (Err drops.Store)
                (λ m. coordinator_rules.hear_coordinator (record { eui = y.eui; ciphers = ciphers }) m got cost note w.clock) k
                (λ m e kept sized. coordinator_reads m e),
          )
      by_role (Meter psk) is = answering_holds ciphers h (running_world w) number y meter_reception
          (acts y (Err drops.Store) (λ m. meters.hear_meter (identity ciphers y psk) m got cost note w.clock)) (
            acts_ranks (At h number) (Own h number) (IsNearer h (running_world w)) y (Err drops.Store)
                (λ m. meters.hear_meter (identity ciphers y psk) m got cost note w.clock) k
                (λ m e kept. taking_ranks (At h number) (Own h number) (IsNearer h (running_world w)) m (here m e) got cost note w.clock
                (said_offers h (running_world w) number got cost note w.clock routes right far)
                (is_home (h number)) (home_passes (h number)) (home_fails (h number)) (identity ciphers y psk) (took psk is m e)),
            acts_frames (FrameRead ciphers) y (Err drops.Store) (λ m. meters.hear_meter (identity ciphers y psk) m got cost note w.clock) k
                (λ m e kept sized. meter_reads psk is m e),
          )

  arrives_hold : (number : ℕ) (x : Node) (octets : List ℕ) (cost : ℕ) → node_at w number ≡ Some x → AreOctets octets → 1 ≤ cost
      → Holds (Ok (arrives ciphers w number x octets cost))
  unfolding arrives resting marking CallHolds
  arrives_hold number x octets cost there are far = by_answer (acts x (Err frames.Halted) plan).answer refl
    where
      plan : Memory → Plan Memory (Result Accepted FrameRefusal)
      plan m = of_station m (accept m.station x.eui (arrived ciphers octets))

      did : DidOk x (acts x (Err frames.Halted) plan)
      did = acts_ok x (Err frames.Halted) plan (node_ok number x there) (λ m here kept sized. accept_ok ciphers fits octets are x.role m x.eui sized)

      no_frames : (m : Memory) (p : Accepting) → Accepts m.station (arrived ciphers octets) p → All (FrameRead ciphers) (of_station m p).frames
      no_frames m p (Turned reason) = All-nil (FrameRead ciphers)
      no_frames m p (Plain got plain) = All-nil (FrameRead ciphers)
      no_frames m p (Marked from counter got a) = All-nil (FrameRead ciphers)

      accepts : CallHolds ciphers h (running_world w) number x (acts x (Err frames.Halted) plan)
      accepts = call (running_world w) number x (Err frames.Halted) plan there
          (λ m here kept sized. accept_ranks (At h number) (Own h number) (IsNearer h (running_world w)) m here x.eui (arrived ciphers octets)
          kept.station.range.marks)
          (λ m is. no_frames m _ (accept_is m.station x.eui (arrived ciphers octets)))

      answered : (got : Accepted) → (acts x (Err frames.Halted) plan).answer ≡ Ok got → Answered x plan got
      answered got e = acts_answered x frames.Halted frames.Store plan
          (λ m. accept_failed ciphers fits octets are m.station _ (accept_is m.station x.eui (arrived ciphers octets))) got e

      routes : (got : Accepted) → Answered x plan got → RoutesFit got
      routes got a = accepted_routes ciphers fits octets are a.memory.station (ring_readable x a.memory (node_ok number x there) a.there) _ got
          (accept_is a.memory.station x.eui (arrived ciphers octets)) a.is

      right : (got : Accepted) → Answered x plan got → forged_by w octets got.path ≡ false → SaidRight h (running_world w) got
      right got a honest = accepted_said ciphers h (running_world w) homes.addressed.low ran_holds.holds.ranks.backed octets a.memory.station _ got
          (accept_is a.memory.station x.eui (arrived ciphers octets)) a.is honest

      here_after : (n : Memory) → (acts x (Err frames.Halted) plan).node.memory ≡ Some n → IsAt (At h number) (address_of n.station)
      here_after = acts_memory (λ n. IsAt (At h number) (address_of n.station)) x (Err frames.Halted) plan
          (λ m is. (accept_keeps m _ (accept_is m.station x.eui (arrived ciphers octets)) (at_home ciphers h w homes.addressed number x m there is)))
        where
          accept_keeps : (m : Memory) (p : Accepting) → Accepts m.station (arrived ciphers octets) p → IsAt (At h number) (address_of m.station)
              → IsAt (At h number) (address_of (of_station m p).memory.station)
          accept_keeps m p (Turned reason) k = k
          accept_keeps m p (Plain got plain) k = k
          accept_keeps m p (Marked from counter got a) k = k

      by_answer : (r : Result Accepted FrameRefusal) → (acts x (Err frames.Halted) plan).answer ≡ r
          → Holds (Ok (accepted_by ciphers w number octets cost (acts x (Err frames.Halted) plan)))
      by_answer (Err reason) e =
          let k : NodeStep (Result Accepted FrameRefusal) = record (acts x (Err frames.Halted) plan) { answer = Err reason } in
          rw e (Taken (world_after ciphers (running_world w) number k, trace_of (happenings w (frame_word reason)))
          (λ honest. after_holds ciphers h (running_world w) number x k there accepts ran_holds))
      by_answer (Ok got) e =
          let y = (acts x (Err frames.Halted) plan).node in
          let a = answered got e in
          let d = hearing_step ciphers y got cost (note_by w octets got.path) w.clock in
          rw e (Taken (received ciphers w number (forged_by w octets got.path || list_any (is_forged_tag w.made) d.opened) d) (λ honest.
          let second = hears_hold number y got cost (note_by w octets got.path) did.node (routes got a) (right got a (or_parts _ _ honest).0) far
          (homes.took number x octets cost there are got e (or_parts _ _ honest).1)
          (λ m at. reads.coordinator_hears number x octets cost got m there are e (or_parts _ _ honest).0 at)
          (λ psk is m at. reads.meter_hears number x octets cost got psk m there are e (or_parts _ _ honest).0 is at) here_after in
          counts_hold ciphers h (world_after ciphers (running_world w) number d) _ refl refl
          (after_holds ciphers h (running_world w) number x d there
          (ranks_trans (At h number) (Own h number) (IsNearer h (running_world w)) x y d.node _ d.frames accepts.0 second.0, second.1) ran_holds)))

  deliver_holds : (flight number cost : ℕ) → 1 ≤ cost → Holds (deliver ciphers w flight number cost)
  unfolding deliver
  deliver_holds flight number cost far = once _ (at_node number _ (λ x there. by_flight x there (flight_at w flight) refl))
    where
      by_lost : (x : Node) → node_at w number ≡ Some x → (f : Flight) (b : Bool) → flight_at w flight ≡ Some f
          → Holds (if b then Err faults.Flight else Ok (arrives ciphers w number x f.octets cost))
      by_lost x there f true is = Fails faults.Flight
      by_lost x there f false is = arrives_hold number x f.octets cost there (flight_octets flight f is) far

      by_flight : (x : Node) → node_at w number ≡ Some x → (o : Option Flight) → flight_at w flight ≡ o
          → Holds (option_map_or (λ f. if f.lost then Err faults.Flight else Ok (arrives ciphers w number x f.octets cost)) o (Err faults.Flight))
      by_flight x there None is = Fails faults.Flight
      by_flight x there (Some f) is = by_lost x there f f.lost is

  inject_holds : (number cost : ℕ) (octets : List ℕ) → AreOctets octets → 1 ≤ cost → Holds (inject ciphers w number cost octets)
  unfolding inject
  inject_holds number cost octets are far = once _ (at_node number _ (λ x there. arrives_hold number x octets cost there are far))

  -- # All kinds

  pub event_holds : (event : Event) → IsEvent event → DepotFits ciphers h w event → StepHolds ciphers h w (step ciphers w event)
  event_holds (events.Coordinator eui key) e fit = coordinator_holds eui key
  event_holds (events.Meter eui psk) e fit = meter_holds eui psk
  event_holds (events.Depot node) e fit = depot_holds node fit
  event_holds (events.Near a b cost) e fit = near_holds a b cost e.2.1
  event_holds (events.Counter node value) e fit = counter_holds node value
  event_holds (events.Number node value) e fit = number_holds node value
  event_holds (events.Allow node) e fit = allow_holds node
  event_holds (events.RandomOctets node value) e fit = rand_holds node value
  event_holds (events.Join node agent) e fit = join_holds node agent
  event_holds (events.Leave node) e fit = leave_holds node
  event_holds (events.Send from to datagram) e fit = send_holds from to datagram e.2
  event_holds (events.Deliver flight node cost) e fit = deliver_holds flight node cost e.2.0
  event_holds (events.Inject node cost octets) e fit = inject_holds node cost octets e.2.2 e.1.0
  event_holds (events.Lose flight) e fit = lose_holds flight
  event_holds (events.Break node next) e fit = break_holds node next
  event_holds (events.Tick seconds) e fit = tick_holds seconds
  event_holds (events.Restart node) e fit = restart_holds node
  event_holds (events.Cut node nth keeps_new) e fit = cut_holds node nth keeps_new
  event_holds (events.Rekey index key) e fit = rekey_holds index key
  event_holds (events.Challenge node) e fit = challenge_holds node
  event_holds (events.Activate node index) e fit = activate_holds node index e.1
  event_holds (events.Kick node) e fit = kick_holds node
  event_holds (events.Show node) e fit = show_holds node
  event_holds events.Checks e fit = Fails faults.Setup
  event_holds (events.Bcast node datagram) e fit = Fails faults.Setup
  event_holds (events.Scan node) e fit = Fails faults.Setup
  event_holds (events.Choose node k) e fit = Fails faults.Setup
  event_holds (events.Path from to) e fit = Fails faults.Setup
