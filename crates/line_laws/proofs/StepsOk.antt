-- Every event keeps what holds of a line of nodes, and sends at most 24 frames.
use Rattle.std.proofs.Common.{◌≡◌, ◌≢◌, ⊎_elim, ℕ, ◌+◌, ◌-◌, ◌≤◌, ◌<◌, Bool, true, false, not, List, [], ◌∷◌, ◌++◌, length, map, Option, Some}
use Rattle.std.proofs.Common.{None, Result, Ok, Err, refl, sym, ap, ◌∙◌, subst, arith}
use Rattle.std.specs.Prelude.{if◌then◌else◌, All, IfSome, is_some, ◌==◌, ◌||◌, ◌&&◌, nat_lt, slice_get, slice_set, get_or}
use Rattle.std.specs.List.{list_any}
use Rattle.std.specs.Option.{option_map, option_map_or, option_and_then}
use Rattle.std.proofs.lemmas.Bool.{cases_eq, eqb-false, ltb-true, ltb-false, or_parts, and_parts}
use Rattle.std.proofs.lemmas.List.{length-append, length-set, length-map}
use Rattle.std.proofs.lemmas.List.Elements.{All-push, All-set, All-map, All-weaker}
use Rattle.std.proofs.lemmas.Option.{same_Some}
use Rattle.store_tables.proofs.SlotTables.{slice_get-set_other, slice_get-map, slice_get-push_other}
use Rattle.plc_base.specs.Keeper.{Records}
use Rattle.plc_base.specs.declared.address.Eui.{Eui}
use Rattle.plc_base.specs.declared.key.Key.{Key}
use Rattle.plc_base.specs.declared.key.RandomOctets.{RandomOctets}
use Rattle.plc_base.specs.Grant.{Granted}
use Rattle.group_keys.specs.KeyRing as ring
use Rattle.line_events.specs.declared.event.Event.{Event}
use Rattle.line_events.specs.declared.event.Event.TheVariants as events
use Rattle.line_events.specs.declared.event.Answer.{Answer}
use Rattle.line_events.specs.declared.event.StepFault.{StepFault}
use Rattle.line_events.specs.declared.event.StepFault.TheVariants as faults
use Rattle.node_rules.specs.Accepted.{Accepted}
use Rattle.node_rules.specs.declared.refusal.CoordinatorRefusal.{CoordinatorRefusal}
use Rattle.node_rules.specs.declared.refusal.CoordinatorRefusal.TheVariants as orders
use Rattle.node_rules.specs.declared.refusal.Dropped.TheVariants as drops
use Rattle.node_rules.specs.declared.refusal.FrameRefusal.{FrameRefusal}
use Rattle.node_rules.specs.declared.refusal.FrameRefusal.TheVariants as frames
use Rattle.line_events.specs.declared.event.Answer.TheVariants as answers
use Rattle.node_rules.specs.declared.refusal.RandomFault.TheVariants as randoms
use Rattle.node_rules.specs.declared.refusal.JoinRefusal.TheVariants as joins
use Rattle.node_rules.specs.declared.refusal.LeaveRefusal.TheVariants as leaves
use Rattle.node_rules.specs.declared.refusal.SendRefusal.TheVariants as sends
use Rattle.node_rules.specs.Ciphers.{Ciphers}
use Rattle.node_rules.specs.Frames.{arrived}
use Rattle.node_rules.specs.Memory.{StationMemory, Memory, Role, Coordinator, Meter, Node, address_of, node_address}
use Rattle.node_rules.specs.Plans.{Plan, resting, within}
use Rattle.node_rules.specs.Acceptance.{accept}
use Rattle.node_rules.specs.Calls as calls
use Rattle.node_rules.specs.Meters as meters
use Rattle.node_rules.specs.Coordinators as coordinator_rules
use Rattle.node_rules.specs.RestartStates.{first_grant}
use Rattle.line_rules.specs.Answers.{Reception, meter_reception, coordinator_reception, random_word, join_word, leave_word, sent_word, ordered_word, frame_word}
use Rattle.node_rules.specs.declared.refusal.RingRefusal.TheVariants.{Store as RingStore}
use Rattle.node_rules.specs.Drafts.{choose}
use Rattle.node_rules.specs.MemoryDrafts.{with_station}
use Rattle.line_events.specs.Events.{IsEvent}
use Rattle.line_rules.specs.Worlds.{World, Flight, Trace, node_at, flight_at, is_forged_tag}
use Rattle.line_rules.specs.Steps.{Step, set_up, running_world, world_after, flights_of, node_outcome, once_begun, in_setup, has_begun, takes_setup, on_node}
use Rattle.line_rules.specs.Steps.{on_meter}
use Rattle.line_rules.specs.Steps.{made_node}
use Rattle.line_rules.specs.Steps.{blank_node, identity, hearing_step, restarts, ticked, rand, join, joins_by, leave, send, sends_by, sent_if, breaks}
use Rattle.line_rules.specs.Steps.{breaks_by, lose, tick, restart, cut, show, psk_of, trace_of, happenings, coordinator, coordinator_node, meter, is_known}
use Rattle.line_rules.specs.Steps.{depot}
use Rattle.line_rules.specs.Steps.{depot_by, provisioned, near, near_by, keeps_rank, ranks_full, offered_near, preset, allow, allowed, deliver, inject, arrives}
use Rattle.line_rules.specs.Steps.{accepted_by, received, by_coordinator, forged_by, note_by, rekey, challenge, activate, kick, step}
use Rattle.node_rules.specs.NodeSteps.{NodeStep, acts, answering, of_station}
use Rattle.line_laws.specs.Stores.{IsReadable, IsKept, HasEui, IsPair}
use Rattle.line_laws.specs.Sizes.{IsMemorySized}
use Rattle.line_laws.specs.Owed.{AreOctets, KeepsRanges}
use Rattle.line_laws.proofs.KeptMemory.{Left}
use Rattle.line_laws.proofs.StorableGrants.{held, none_held}
use Rattle.line_laws.proofs.CounterOrder.{IsBelow, lost_pairs}
use Rattle.line_laws.proofs.Nodes.{PlanFits, PlanOk, NodeOk, DidOk, acts_fits, acts_ok, ring_readable, pair_octets}
use Rattle.line_laws.specs.Live.{marks_of}
use Rattle.line_laws.proofs.MarkOrder.{raised_same, raised_trans}
use Rattle.line_laws.proofs.Frontiers.{frontier, same_low, numbered_lower, numbered_le}
use Rattle.line_laws.proofs.NodeCalls.{RoutesFit, no_some, meter_hears_ok, random_ok, join_ok, leave_ok, send_ok, near_ok, counter_ok, number_ok, broke_ok}
use Rattle.line_laws.proofs.NodeCalls.{provision_ok}
use Rattle.line_laws.proofs.CoordinatorCalls.{coordinator_hears_ok, accept_ok, accept_failed, accepted_routes, allow_ok, depot_ok, depot_failed, rekey_ok}
use Rattle.line_laws.proofs.CoordinatorCalls.{activate_self_ok, challenge_ok, activate_ok, kick_ok}
use Rattle.line_laws.proofs.StoreMarks.{accept_is}
use Rattle.line_laws.proofs.Quiet.{acts_quiet, counter_quiet, number_quiet, near_quiet, install_quiet, allow_quiet, depot_quiet, accept_quiet}
use Rattle.line_laws.proofs.Answered.{acts_answered, depot_grants}
use Rattle.line_laws.proofs.Worlds.{NodeFits, FlightFits, Rising, WorldOk, within as place_within, at_place, after_fits, ok_after, counts_ok}
use Rattle.line_laws.proofs.NodesOk.{answering_ok, blank_ok, coordinator_acts, restarts_ok, resting_ok, ticked_frontier, ticked_ok, true_false}

-- # Steps

-- the flights that an event says are those that it adds
abbrev pub CountsFlights : World → World × Trace → Type 0
CountsFlights w r = length r.0.flights ≡ length w.flights + r.1.happenings.flights

pub data StepGood (w : World) : Step → Type 0 where
  Fails : (fault : StepFault) → StepGood w (Err fault)
  Taken : (r : World × Trace) → WorldOk r.0 → r.1.happenings.flights ≤ 24 → CountsFlights w r → StepGood w (Ok r)

-- a node's frames are flights more
pub after_more : {A : Type 0} (ciphers : Ciphers) (w : World) (number : ℕ) (d : NodeStep A)
    → length (world_after ciphers w number d).flights ≡ length w.flights + length d.frames
unfolding world_after
after_more ciphers w number d = let both = length-append w.flights (flights_of ciphers number d) in
    let same : length (flights_of ciphers number d) ≡ length d.frames = length-map d.frames _ in omega arith

pub after_none : {A : Type 0} (ciphers : Ciphers) (w : World) (number : ℕ) (d : NodeStep A) → d.frames ≡ []
    → length (world_after ciphers w number d).flights ≡ length w.flights + 0
after_none ciphers w number d none = after_more ciphers w number d ∙ ap (λ fs. length w.flights + length fs) none

pub none_more : (w v : World) → v.flights ≡ w.flights → length v.flights ≡ length w.flights + 0
none_more w v e = let same : length v.flights ≡ length w.flights = ap length e in omega arith

module _ (ciphers : Ciphers) (fits : KeepsRanges ciphers) (w : World) (ok : WorldOk w) (flown : All FlightFits w.flights) where
  pub branch : (b : Bool) (p q : Step) → (b ≡ true → StepGood w p) → (b ≡ false → StepGood w q) → StepGood w (if b then p else q)
  branch true p q s t = s refl
  branch false p q s t = t refl

  pub by_option : {X : Type 0} (f : X → Step) (x : Option X) (p : Step) → ((y : X) → x ≡ Some y → StepGood w (f y)) → StepGood w p
      → StepGood w (option_map_or f x p)
  by_option f None p s t = t
  by_option f (Some y) p s t = s y refl

  pub once : (s : Step) → StepGood w s → StepGood w (once_begun w s)
  once s h = branch (has_begun w) s (Err faults.Setup) (λ _. h) (λ _. Fails faults.Setup)

  pub setup : (s : Step) → StepGood w s → StepGood w (in_setup w s)
  setup s h = branch (takes_setup w) s (Err faults.Setup) (λ _. h) (λ _. Fails faults.Setup)

  setup_with : (s : Step) → (takes_setup w ≡ true → StepGood w s) → StepGood w (in_setup w s)
  setup_with s h = branch (takes_setup w) s (Err faults.Setup) h (λ _. Fails faults.Setup)

  -- setup is not over
  still : takes_setup w ≡ true → w.running ≡ false
  still e = by_running w.running (and_parts _ _ e).1
    where
      by_running : (b : Bool) → not b ≡ true → b ≡ false
      by_running true e = cc
      by_running false e = refl

  pub at_node : (number : ℕ) (f : Node → Step) → ((x : Node) → node_at w number ≡ Some x → StepGood w (f x)) → StepGood w (on_node w number f)
  at_node number f h = by_option f (node_at w number) (Err faults.Node) h (Fails faults.Node)

  pub at_meter : (number : ℕ) (f : Node → Step) → ((x : Node) → node_at w number ≡ Some x → StepGood w (f x)) → StepGood w (on_meter w number f)
  at_meter number f h = branch (number == 0) (Err faults.Node) (on_node w number f) (λ _. Fails faults.Node) (λ _. at_node number f h)

  pub node_ok : (number : ℕ) (x : Node) → node_at w number ≡ Some x → NodeOk x
  node_ok number x e = at_place NodeOk w.nodes number x e ok.nodes

  pub node_fits : (number : ℕ) (x : Node) → node_at w number ≡ Some x → NodeFits x
  node_fits number x e = at_place NodeFits w.nodes number x e ok.fits

  pub set_up_ok : WorldOk (set_up w)
  set_up_ok = counts_ok w (set_up w) ok refl refl (λ e. e)

  pub ran_ok : WorldOk (running_world w)
  ran_ok = counts_ok w (running_world w) ok refl refl (λ e. absurd (true_false e))

  -- the octets of a flight
  pub flight_octets : (number : ℕ) (f : Flight) → flight_at w number ≡ Some f → FlightFits f
  flight_octets number f = by_number (number == 0)
    where
      by_number : (b : Bool) → (if b then None else slice_get w.flights (number - 1)) ≡ Some f → FlightFits f
      by_number true e = absurd (no_some f e)
      by_number false e = at_place FlightFits w.flights (number - 1) f e flown

  -- what a node did goes into the world and into the report
  pub acted_good : (number : ℕ) (x : Node) (d : NodeStep Answer) → node_at w number ≡ Some x → DidOk x d → StepGood w (Ok (node_outcome ciphers w number d))
  acted_good number x d there did =
      Taken _ (ok_after ciphers fits (running_world w) number x d ran_ok there did (λ e. absurd (true_false e))) did.few
      (after_more ciphers (running_world w) number d)

  -- # coordinator, meter

  made_ok : (x : Node) → NodeOk x → NodeFits x → length w.nodes ≤ 999 → ((c : Node) → node_at (made_node w x).0 0 ≡ Some c → c.role ≡ Coordinator)
      → WorldOk (made_node w x).0
  made_ok x good given room first = record {
    nodes = All-push NodeOk w.nodes x ok.nodes good;
    fits = All-push NodeFits w.nodes x ok.fits given;
    first = first;
    count = let longer = length-append w.nodes (x ∷ []) in omega arith;
    rising = record {
      below = made_below;
      pairs = ok.rising.pairs;
      homes = λ k e lt. let h = ok.rising.homes k e lt in
          let longer = length-append w.nodes (x ∷ []) in omega arith;
    };
    quiet = ok.quiet;
  }
    where
      new_below : (y : Node) → All (IsBelow (length w.nodes) (frontier y)) w.flights
      new_below y k e lt home = absurd (let h : (get_or w.flights k e).from < length w.nodes = ok.rising.homes k e lt in omega arith)

      made_below : (number : ℕ) (y : Node) → slice_get (w.nodes ++ x ∷ []) number ≡ Some y → All (IsBelow number (frontier y)) w.flights
      made_below number y is = ⊎_elim (λ (e : number ≡ length w.nodes). subst (λ n. All (IsBelow n (frontier y)) w.flights) (sym e) (new_below y))
          (λ (e : number ≢ length w.nodes). ok.rising.below number y (sym (slice_get-push_other w.nodes number x e) ∙ is)) (cases_eq number (length w.nodes))

  -- # allow, rand, join, leave and the other calls of one node

  rand_good : (number : ℕ) (value : RandomOctets) → StepGood w (rand ciphers w number value)
  unfolding rand
  rand_good number value = once _ (at_node number _ (λ x there.
      acted_good number x _ there (answering_ok x random_word _
      (acts_ok x (Err randoms.Halted) _ (node_ok number x there) (λ m here kept sized. random_ok x.role m sized value)))))

  joins_good : (number agent : ℕ) (x : Node) (address : Option ℕ) (psk : Option Key) → node_at w number ≡ Some x
      → StepGood w (Ok (joins_by ciphers w number x address psk))
  joins_good number agent x None psk there = Taken _ ran_ok (omega arith) (none_more w (running_world w) refl)
  joins_good number agent x (Some a) None there = Taken _ ran_ok (omega arith) (none_more w (running_world w) refl)
  joins_good number agent x (Some a) (Some psk) there =
      acted_good number x _ there (answering_ok x join_word _ (acts_ok x (Err joins.Halted) _ (node_ok number x there)
      (λ m here kept sized. join_ok x.role m sized ciphers fits (identity ciphers x psk) refl a w.clock)))

  join_good : (number agent : ℕ) → StepGood w (join ciphers w number agent)
  unfolding join
  join_good number agent = once _ (at_meter number _ (λ x there. at_node agent _ (λ y other. joins_good number agent x (node_address y) (psk_of x) there)))

  leave_good : (number : ℕ) → StepGood w (leave ciphers w number)
  unfolding leave
  leave_good number = once _ (at_meter number _ (λ x there.
      acted_good number x _ there (answering_ok x leave_word _ (acts_ok x (Err leaves.Halted) meters.leave (node_ok number x there)
      (λ m here kept sized. leave_ok x.role m sized ciphers fits (identity ciphers x (record { 0 = [] })) refl)))))

  sent_good : (from to : ℕ) (datagram : List ℕ) (tag : ℕ) (b : Bool) (r : World × Trace) → WorldOk r.0 → r.1.happenings.flights ≤ 24 → CountsFlights w r
      → StepGood w (Ok (sent_if w from to datagram tag b r))
  sent_good from to datagram tag false r g few is = Taken _ g few is
  sent_good from to datagram tag true r g few is = Taken _ (counts_ok r.0 (record r.0 { sends = r.0.sends + 1 }) g refl refl (λ e. e)) few is

  sends_good : (from to : ℕ) (datagram : List ℕ) (x : Node) (address : Option ℕ) → node_at w from ≡ Some x
      → StepGood w (Ok (sends_by ciphers w from to datagram x address))
  sends_good from to datagram x None there = Taken _ ran_ok (omega arith) (none_more w (running_world w) refl)
  sends_good from to datagram x (Some a) there =
      let did = answering_ok x sent_word _ (acts_ok x (Err sends.Halted) (λ m. of_station m (calls.send m.station a datagram (w.sends + 1) w.clock))
      (node_ok from x there) (λ m here kept sized. send_ok x.role m sized a datagram (w.sends + 1) w.clock)) in
      sent_good from to datagram _ _ _ (ok_after ciphers fits (running_world w) from x _ ran_ok there did (λ e. absurd (true_false e))) did.few
      (after_more ciphers (running_world w) from _)

  send_good : (from to : ℕ) (datagram : List ℕ) → StepGood w (send ciphers w from to datagram)
  unfolding send
  send_good from to datagram = once _ (at_node from _ (λ x there. at_node to _ (λ y other. sends_good from to datagram x (node_address y) there)))

  breaks_good : (number : ℕ) (x : Node) (next : Option ℕ) → node_at w number ≡ Some x → StepGood w (Ok (breaks_by ciphers w number x next))
  breaks_good number x None there = Taken _ ran_ok (omega arith) (none_more w (running_world w) refl)
  breaks_good number x (Some next) there =
      acted_good number x _ there (acts_ok x answers.Halted _ (node_ok number x there) (λ m here kept sized. broke_ok x.role m sized next answers.Broken))

  break_good : (number next : ℕ) → StepGood w (breaks ciphers w number next)
  unfolding breaks
  break_good number next = once _ (at_node number _ (λ x there. at_node next _ (λ y other. breaks_good number x (node_address y) there)))

  flight_is : (number : ℕ) (f : Flight) → flight_at w number ≡ Some f → slice_get w.flights (number - 1) ≡ Some f
  flight_is number f = by_number (number == 0)
    where
      by_number : (b : Bool) → (if b then None else slice_get w.flights (number - 1)) ≡ Some f → slice_get w.flights (number - 1) ≡ Some f
      by_number true e = absurd (no_some f e)
      by_number false e = e

  lost_rising : (number : ℕ) (f : Flight) → flight_at w number ≡ Some f
      → Rising (record (running_world w) { flights = slice_set w.flights (number - 1) (record f { lost = true }) })
  lost_rising number f there =
      let is = flight_is number f there in
      record {
        below = λ n x here. All-set (IsBelow n (frontier x)) w.flights (number - 1) (record f { lost = true })
            (at_place (IsBelow n (frontier x)) w.flights (number - 1) f is (ok.rising.below n x here)) (ok.rising.below n x here);
        pairs = lost_pairs w.flights (number - 1) f is (place_within w.flights (number - 1) f is) ok.rising.pairs;
        homes = All-set (λ (g : Flight). g.from < length w.nodes) w.flights (number - 1) (record f { lost = true })
            (at_place (λ (g : Flight). g.from < length w.nodes) w.flights (number - 1) f is ok.rising.homes) ok.rising.homes;
      }

  lose_good : (number : ℕ) → StepGood w (lose w number)
  unfolding lose
  lose_good number = once _ (by_flight (flight_at w number) refl)
    where
      by_lost : (f : Flight) (b : Bool) → flight_at w number ≡ Some f
          → StepGood w (if b then Err faults.Flight
          else Ok (record (running_world w) { flights = slice_set w.flights (number - 1) (record f { lost = true }) }, trace_of (happenings w answers.Lost)))
      by_lost f true there = Fails faults.Flight
      by_lost f false there = Taken _ (record {
        nodes = ok.nodes;
        fits = ok.fits;
        first = ok.first;
        count = ok.count;
        rising = lost_rising number f there;
        quiet = λ e. absurd (true_false e);
      }) (omega arith) (let same = length-set w.flights (number - 1) (record f { lost = true }) in omega arith)

      by_flight : (o : Option Flight) → flight_at w number ≡ o
          → StepGood w (option_map_or (λ f. if f.lost then Err faults.Flight
          else Ok (record (running_world w) { flights = slice_set w.flights (number - 1) (record f { lost = true }) }, trace_of (happenings w answers.Lost))) o
          (Err faults.Flight))
      by_flight None there = Fails faults.Flight
      by_flight (Some f) there = by_lost f f.lost there

  pub tick_good : (seconds : ℕ) → StepGood w (tick w seconds)
  unfolding tick
  tick_good seconds = once _ (Taken _ (record {
    nodes = All-map NodeOk (ticked (w.clock + seconds)) w.nodes
        (All-weaker NodeOk (λ x. NodeOk (ticked (w.clock + seconds) x)) (ticked_ok (w.clock + seconds)) w.nodes ok.nodes);
    fits = All-map NodeFits (ticked (w.clock + seconds)) w.nodes
        (All-weaker NodeFits (λ x. NodeFits (ticked (w.clock + seconds) x)) (λ x h. record { eui = h.eui; psk = h.psk }) w.nodes ok.fits);
    first = λ c is. ticked_first c (sym (slice_get-map (ticked (w.clock + seconds)) w.nodes 0) ∙ is);
    count = let same : length (map (ticked (w.clock + seconds)) w.nodes) ≡ length w.nodes = length-map w.nodes _ in let few = ok.count in omega arith;
    rising = record {
      below = λ n y is. ticked_below n y (slice_get w.nodes n) refl (sym (slice_get-map (ticked (w.clock + seconds)) w.nodes n) ∙ is);
      pairs = ok.rising.pairs;
      homes = λ k e lt. let h = ok.rising.homes k e lt in
          let same : length (map (ticked (w.clock + seconds)) w.nodes) ≡ length w.nodes = length-map w.nodes _ in omega arith;
    };
    quiet = λ e. absurd (true_false e);
  }) (omega arith) (none_more w (running_world w) refl))
    where
      ticked_below : (n : ℕ) (y : Node) (o : Option Node) → slice_get w.nodes n ≡ o → option_map (ticked (w.clock + seconds)) o ≡ Some y
          → All (IsBelow n (frontier y)) w.flights
      ticked_below n y None there is = absurd (no_some _ is)
      ticked_below n y (Some x) there is =
          let this : ticked (w.clock + seconds) x ≡ y = same_Some _ _ is in
          subst (λ (z : Node). All (IsBelow n (frontier z)) w.flights) this
          (subst (λ k. All (IsBelow n k) w.flights) (sym (ticked_frontier (w.clock + seconds) x)) (ok.rising.below n x there))

      ticked_first : (c : Node) → option_map (ticked (w.clock + seconds)) (slice_get w.nodes 0) ≡ Some c → c.role ≡ Coordinator
      ticked_first c = by_first (slice_get w.nodes 0) refl
        where
          by_first : (o : Option Node) → slice_get w.nodes 0 ≡ o → option_map (ticked (w.clock + seconds)) o ≡ Some c → c.role ≡ Coordinator
          by_first None there is = absurd (no_some _ is)
          by_first (Some x) there is = let this : ticked (w.clock + seconds) x ≡ c = same_Some _ _ is in ap (λ (y : Node). y.role) (sym this) ∙ ok.first x there

  restart_good : (number : ℕ) → StepGood w (restart ciphers w number)
  unfolding restart
  restart_good number = once _ (at_node number _ (λ x there. acted_good number x (restarts x) there (restarts_ok x (node_ok number x there))))

  cut_good : (number nth : ℕ) (keeps_new : Bool) → StepGood w (cut ciphers w number nth keeps_new)
  unfolding cut
  cut_good number nth keeps_new = once _ (at_node number _ (λ x there.
      let h = node_ok number x there in acted_good number x _ there
      (record {
        node = record { kept = h.kept; sized = h.sized; covered = h.covered };
        role = refl;
        eui = refl;
        few = omega arith;
        rises = same_low (frontier x);
        from = tt;
        marked = raised_same (marks_of x);
      })))

  show_good : (number : ℕ) → StepGood w (show w number)
  unfolding show
  show_good number = once _ (at_node number _ (λ x there. Taken _ ran_ok (omega arith) (none_more w (running_world w) refl)))

  -- another node is there still
  other_there : {A : Type 0} (a b : ℕ) (d : NodeStep A) (y : Node) → b ≢ a → node_at w b ≡ Some y → node_at (world_after ciphers (set_up w) a d) b ≡ Some y
  unfolding world_after
  other_there a b d y apart there = slice_get-set_other w.nodes a b d.node apart ∙ there

  -- # deliver, inject

  pub hears_ok : (x : Node) (got : Accepted) (cost note now : ℕ) → NodeOk x → RoutesFit got → DidOk x (hearing_step ciphers x got cost note now)
  hears_ok x got cost note now h routes = by_role x.role refl
    where
      hears_as : Role → NodeStep Reception
      hears_as Coordinator = answering coordinator_reception
          (acts x (Err drops.Store) (λ m. coordinator_rules.hear_coordinator (record { eui = x.eui; ciphers = ciphers }) m got cost note now))
      hears_as (Meter psk) = answering meter_reception (acts x (Err drops.Store) (λ m. meters.hear_meter (identity ciphers x psk) m got cost note now))

      by_role : (role : Role) → x.role ≡ role → DidOk x (hears_as role)
      by_role Coordinator is = answering_ok x coordinator_reception _
          (coordinator_acts x (Err drops.Store) _ is h
          (λ m sized. coordinator_hears_ok ciphers fits (record { eui = x.eui; ciphers = ciphers }) m sized got cost note now routes))
      by_role (Meter psk) is = answering_ok x meter_reception _ (acts_ok x (Err drops.Store) _ h
          (λ m there kept sized. meter_hears_ok x.role m sized ciphers fits (identity ciphers x psk) refl got cost note now (pair_octets x m psk kept is)
          routes))

  pub received_good : (number : ℕ) (x : Node) (forged : Bool) (d : NodeStep Reception) → node_at w number ≡ Some x → DidOk x d
      → StepGood w (Ok (received ciphers w number forged d))
  received_good number x forged d there did = Taken _ (counts_ok (world_after ciphers (running_world w) number d) _
      (ok_after ciphers fits (running_world w) number x d ran_ok there did (λ e. absurd (true_false e))) refl refl (λ e. e)) did.few
      (after_more ciphers (running_world w) number d)

  arrives_good : (number : ℕ) (x : Node) (octets : List ℕ) (cost : ℕ) → node_at w number ≡ Some x → AreOctets octets
      → StepGood w (Ok (arrives ciphers w number x octets cost))
  unfolding arrives
  arrives_good number x octets cost there are = by_answer (acts x (Err frames.Halted) plan).answer refl
    where
      plan : Memory → Plan Memory (Result Accepted FrameRefusal)
      plan m = of_station m (accept m.station x.eui (arrived ciphers octets))

      did : DidOk x (acts x (Err frames.Halted) plan)
      did = acts_ok x (Err frames.Halted) plan (node_ok number x there) (λ m here kept sized. accept_ok ciphers fits octets are x.role m x.eui sized)

      routes : (got : Accepted) → (acts x (Err frames.Halted) plan).answer ≡ Ok got → RoutesFit got
      routes got e =
          let a = acts_answered x frames.Halted frames.Store plan
          (λ m. accept_failed ciphers fits octets are m.station _ (accept_is m.station x.eui (arrived ciphers octets))) got e in
          accepted_routes ciphers fits octets are a.memory.station (ring_readable x a.memory (node_ok number x there) a.there) _ got
          (accept_is a.memory.station x.eui (arrived ciphers octets)) a.is

      by_answer : (r : Result Accepted FrameRefusal) → (acts x (Err frames.Halted) plan).answer ≡ r
          → StepGood w (Ok (accepted_by ciphers w number octets cost (acts x (Err frames.Halted) plan)))
      by_answer (Err reason) e =
          let k : NodeStep (Result Accepted FrameRefusal) = record (acts x (Err frames.Halted) plan) { answer = Err reason } in
          rw e (Taken (world_after ciphers (running_world w) number k, trace_of (happenings w (frame_word reason)))
          (ok_after ciphers fits (running_world w) number x k ran_ok there (record {
            node = did.node;
            role = did.role;
            eui = did.eui;
            few = did.few;
            rises = did.rises;
            from = did.from;
            marked = did.marked;
          }) (λ e. absurd (true_false e))) (omega arith)
          (after_none ciphers (running_world w) number k
          (acts_quiet x (Err frames.Halted) plan (λ m. accept_quiet m.station _ _ (accept_is m.station x.eui (arrived ciphers octets))))))
      by_answer (Ok got) e =
          let y = (acts x (Err frames.Halted) plan).node in
          let d = hearing_step ciphers y got cost (note_by w octets got.path) w.clock in
          let heard = hears_ok y got cost (note_by w octets got.path) w.clock did.node (routes got e) in
          rw e (received_good number x (forged_by w octets got.path || list_any (is_forged_tag w.made) d.opened) d there
          (record {
            node = heard.node;
            role = heard.role ∙ did.role;
            eui = heard.eui ∙ did.eui;
            few = heard.few;
            rises = numbered_lower (frontier x) (frontier y) (frontier d.node) d.frames
                (numbered_le (frontier x) (frontier y) (acts x (Err frames.Halted) plan).frames did.rises) heard.rises;
            from = heard.from;
            marked = raised_trans (marks_of x) (marks_of y) (marks_of d.node) did.marked heard.marked;
          }))

  deliver_good : (flight number cost : ℕ) → StepGood w (deliver ciphers w flight number cost)
  unfolding deliver
  deliver_good flight number cost = once _ (at_node number _ (λ x there. by_flight x there (flight_at w flight) refl))
    where
      by_lost : (x : Node) → node_at w number ≡ Some x → (f : Flight) (b : Bool) → flight_at w flight ≡ Some f
          → StepGood w (if b then Err faults.Flight else Ok (arrives ciphers w number x f.octets cost))
      by_lost x there f true is = Fails faults.Flight
      by_lost x there f false is = arrives_good number x f.octets cost there (flight_octets flight f is)

      by_flight : (x : Node) → node_at w number ≡ Some x → (o : Option Flight) → flight_at w flight ≡ o
          → StepGood w (option_map_or (λ f. if f.lost then Err faults.Flight else Ok (arrives ciphers w number x f.octets cost)) o (Err faults.Flight))
      by_flight x there None is = Fails faults.Flight
      by_flight x there (Some f) is = by_lost x there f f.lost is

  inject_good : (number cost : ℕ) (octets : List ℕ) → AreOctets octets → StepGood w (inject ciphers w number cost octets)
  unfolding inject
  inject_good number cost octets are = once _ (at_node number _ (λ x there. arrives_good number x octets cost there are))

  -- # Orders of the coordinator

  abbrev own_of : Node → coordinator_rules.CoordinatorIdentity
  own_of c = record { eui = c.eui; ciphers = ciphers }

  order_good : {A : Type 0} (c : Node) (answer : Answer) (order : Memory → Plan Memory (Result A CoordinatorRefusal)) → node_at w 0 ≡ Some c
      → ((m : Memory) → IsMemorySized m → PlanOk Coordinator m (order m))
      → StepGood w (Ok (by_coordinator ciphers w c answer order))
  order_good c answer order there f =
      acted_good 0 c _ there (answering_ok c (ordered_word answer) _ (coordinator_acts c (Err orders.Halted) order (ok.first c there) (node_ok 0 c there) f))

  rekey_good : (index : ℕ) (key : Key) → length key.0 ≡ 16 → AreOctets key.0 → StepGood w (rekey ciphers w index key)
  unfolding rekey
  rekey_good index key long are =
      once _ (at_node 0 _ (λ c there. order_good c answers.Drawn _ there (λ m sized. rekey_ok ciphers fits (own_of c) m sized index key (held key long are))))

  challenge_good : (number : ℕ) → StepGood w (challenge ciphers w number)
  unfolding challenge
  challenge_good number = once _ (at_meter number _ (λ x is. at_node 0 _
      (λ c there. order_good c answers.Challenged _ there (λ m sized. challenge_ok ciphers fits (own_of c) m sized x.eui w.clock (node_fits number x is).eui))))

  activate_good : (number index : ℕ) → index ≤ 1 → StepGood w (activate ciphers w number index)
  unfolding activate
  activate_good number index low = once _ (at_node number _ (λ x is. at_node 0 _ (λ c there. by_number (number == 0) x c there)))
    where
      by_number : (b : Bool) (x c : Node) → node_at w 0 ≡ Some c
          → StepGood w (Ok (if b then by_coordinator ciphers w c answers.Activated (λ m. coordinator_rules.activate_self m index)
          else by_coordinator ciphers w c answers.Ordered (λ m. coordinator_rules.activate m x.eui index w.clock)))
      by_number true x c there = order_good c answers.Activated _ there (λ m sized. activate_self_ok ciphers fits (own_of c) m sized index low)
      by_number false x c there = order_good c answers.Ordered _ there (λ m sized. activate_ok ciphers fits (own_of c) m sized x.eui index w.clock)

  kick_good : (number : ℕ) → StepGood w (kick ciphers w number)
  unfolding kick
  kick_good number = once _ (at_meter number _ (λ x is. at_node 0 _
      (λ c there. order_good c answers.Kicked _ there (λ m sized. kick_ok ciphers fits (own_of c) m sized x.eui (node_fits number x is).eui))))

  -- the pair key of a meter
  psk_is : (x : Node) (psk : Key) → psk_of x ≡ Some psk → x.role ≡ Meter psk
  psk_is x psk = by_role x.role
    where
      by_role : (role : Role) → psk_of (record x { role = role }) ≡ Some psk → role ≡ Meter psk
      by_role Coordinator e = absurd (no_some _ e)
      by_role (Meter k) e = ap Meter (same_Some _ _ e)

  allow_good : (number : ℕ) → StepGood w (allow ciphers w number)
  unfolding allow
  allow_good number = once _ (at_meter number _ (λ x is. at_node 0 _ (λ c there.
      by_option (λ psk. Ok (allowed ciphers w number (acts c (Err orders.Halted) (λ m. coordinator_rules.allow m x.eui psk)))) (psk_of x) (Err faults.Node)
      (λ psk pair. Taken _ (ok_after ciphers fits (running_world w) 0 c _ ran_ok there
      (coordinator_acts c (Err orders.Halted) _ (ok.first c there) (node_ok 0 c there)
      (λ m sized. allow_ok ciphers fits (own_of c) m sized x.eui psk (node_fits number x is).eui ((node_fits number x is).psk psk (psk_is x psk pair))))
      (λ e. absurd (true_false e))) (omega arith)
      (after_none ciphers (running_world w) 0 _ (acts_quiet c (Err orders.Halted) _ (λ m. allow_quiet m x.eui psk))))
      (Fails faults.Node))))

  -- # Setup

  pub begin_ok : (key : Key) → length key.0 ≡ 16 → AreOctets key.0 → (m : Memory) → IsMemorySized m
      → PlanOk Coordinator m (coordinator_rules.begin m (first_grant key))
  unfolding choose
  begin_ok key long are m sized = by_ring (is_some m.station.ring)
    where
      readable : IsReadable (first_grant key)
      readable = record { grant = record { index = omega arith; held = refl }; address = omega arith; key0 = held key long are; key1 = none_held }

      by_ring : (b : Bool) → PlanOk Coordinator m
          (if b then resting m (Ok tt) (Err RingStore) else within (λ l. with_station l m) (λ r. r) (calls.install m.station (first_grant key)))
      by_ring true = resting_ok Coordinator m sized (Ok tt) (Err RingStore)
      by_ring false = provision_ok Coordinator m sized (first_grant key) readable

  coordinator_good : (eui : Eui) (key : Key) → HasEui eui → length key.0 ≡ 16 → AreOctets key.0 → StepGood w (coordinator w eui key)
  unfolding coordinator
  coordinator_good eui key known long are = branch (has_begun w) _ _ (λ _. Fails faults.Setup) (λ none.
      let did = acts_ok (blank_node Coordinator eui) (Ok tt) (λ m. coordinator_rules.begin m (first_grant key)) (blank_ok Coordinator eui tt)
      (λ m there kept sized. begin_ok key long are m sized) in
      let few : length w.nodes ≤ 0 = ltb-false _ _ none in
      Taken _ (made_ok (coordinator_node eui key) did.node
      (record { eui = subst HasEui (sym did.eui) known; psk = λ psk e. absurd (not_meter psk (sym did.role ∙ e)) }) (omega arith)
      (λ c is. first_made w.nodes few (coordinator_node eui key) did.role c is)) (omega arith) (none_more w (set_up w) refl))
    where
      not_meter : (psk : Key) → Coordinator ≡ Meter psk → ⊥
      not_meter psk e = cc

      first_made : (xs : List Node) → length xs ≤ 0 → (x : Node) → x.role ≡ Coordinator → (c : Node) → slice_get (xs ++ x ∷ []) 0 ≡ Some c
          → c.role ≡ Coordinator
      first_made [] few x is c e = let this : x ≡ c = same_Some _ _ e in ap (λ (y : Node). y.role) (sym this) ∙ is
      first_made (y ∷ xs) few x is c e = absurd (omega arith)

  meter_good : (eui : Eui) (psk : Key) → HasEui eui → length psk.0 ≡ 16 → AreOctets psk.0 → StepGood w (meter w eui psk)
  unfolding meter
  meter_good eui psk known long are = branch (not (takes_setup w) || (nat_lt 999 (length w.nodes) || is_known w eui)) _ _ (λ _. Fails faults.Setup) (λ may.
      let parts = or_parts _ _ may in
      let room = or_parts _ _ parts.1 in
      let few : length w.nodes ≤ 999 = ltb-false _ _ room.0 in
      let some : 0 < length w.nodes = begun_some (has_begun w) (not w.running) refl parts.0 in
      Taken _ (made_ok (blank_node (Meter psk) eui) (blank_ok (Meter psk) eui are)
      (record { eui = known; psk = λ k e. subst IsPair (same_psk psk k e) (long, are) }) few
      (λ c is. ok.first c (sym (first_same w.nodes some (blank_node (Meter psk) eui)) ∙ is))) (omega arith) (none_more w (set_up w) refl))
    where
      same_psk : (a b : Key) → Meter a ≡ Meter b → a ≡ b
      same_psk a b e = cc

      begun_some : (a b : Bool) → nat_lt 0 (length w.nodes) ≡ a → not (a && b) ≡ false → 0 < length w.nodes
      begun_some true b e h = ltb-true _ _ e
      begun_some false b e h = absurd (cc)

      first_same : (xs : List Node) → 0 < length xs → (x : Node) → slice_get (xs ++ x ∷ []) 0 ≡ slice_get xs 0
      first_same [] some x = absurd (omega arith)
      first_same (y ∷ xs) some x = refl

  preset_good : (number : ℕ) (plan : StationMemory → calls.Presetting)
      → ((role : Role) (m : Memory) → IsMemorySized m → PlanFits role m (of_station m (plan m.station))) → ((l : StationMemory) → (plan l).frames ≡ [])
      → StepGood w (preset ciphers w number plan)
  preset_good number plan f quiet = setup_with _ (λ began. at_node number _ (λ x there.
      Taken _ (after_fits ciphers (set_up w) number x _ set_up_ok there (acts_fits x (Ok tt) _ (node_ok number x there) (λ m here kept sized. f x.role m sized))
      (set_up_ok.quiet (still began)) (acts_quiet x (Ok tt) _ (λ m. quiet m.station))) (omega arith)
      (after_none ciphers (set_up w) number _ (acts_quiet x (Ok tt) _ (λ m. quiet m.station)))))

  -- an address of a node is below FFFE
  address_low : (x : Node) (address : ℕ) → NodeOk x → node_address x ≡ Some address → address < 0xFFFE
  address_low x address h = by_memory x.memory h.kept
    where
      by_ring : (r : ring.Ring) → IfSome r IsReadable → option_map (λ (g : Granted). g.address) r ≡ Some address → address < 0xFFFE
      by_ring None k e = absurd (no_some _ e)
      by_ring (Some g) k e = let this : g.address ≡ address = same_Some _ _ e in let low = k.address in omega arith

      by_memory : (o : Option Memory) → Left (IsKept x.role) x.store.records o → option_and_then (λ (m : Memory). address_of m.station) o ≡ Some address
          → address < 0xFFFE
      by_memory None k e = absurd (no_some _ e)
      by_memory (Some m) k e = by_ring m.station.ring k.station.range.ring e

  near_by_good : (a b cost : ℕ) (x y : Node) (p q : Option ℕ) → cost ≤ 255 → node_at w a ≡ Some x → node_at w b ≡ Some y → node_address x ≡ p
      → node_address y ≡ q → StepGood w (near_by ciphers w a b cost x y p q)
  near_by_good a b cost x y None q low hx hy ep eq = Fails faults.Setup
  near_by_good a b cost x y (Some p) None low hx hy ep eq = Fails faults.Setup
  near_by_good a b cost x y (Some p) (Some q) low hx hy ep eq =
      branch ((a == b) || (keeps_rank x q || (ranks_full x || ranks_full y))) _ _ (λ _. Fails faults.Setup) (λ may.
      let parts = or_parts _ _ may in
      let apart : b ≢ a = λ same. eqb-false _ _ parts.0 (sym same) in
      let first = offered x q (node_ok a x hx) (address_low y q (node_ok b y hy) eq) in
      let second = offered y p (node_ok b y hy) (address_low x p (node_ok a x hx) ep) in
      Taken _ (ok_after ciphers fits (world_after ciphers (set_up w) a (offered_near x q cost w.clock)) b y _
      (ok_after ciphers fits (set_up w) a x _ set_up_ok hx first (λ e. offered_quiet x q)) (other_there a b (offered_near x q cost w.clock) y apart hy) second
      (λ e. offered_quiet y p)) (omega arith)
      (let one = after_none ciphers (set_up w) a (offered_near x q cost w.clock) (offered_quiet x q) in
      let two = after_none ciphers (world_after ciphers (set_up w) a (offered_near x q cost w.clock)) b (offered_near y p cost w.clock) (offered_quiet y p) in
      omega arith))
    where
      offered_quiet : (z : Node) (to : ℕ) → (offered_near z to cost w.clock).frames ≡ []
      offered_quiet z to = acts_quiet z (Ok tt) (λ m. of_station m (calls.preset_near m.station to cost w.clock)) (λ m. near_quiet m.station to cost w.clock)

      offered : (z : Node) (to : ℕ) → NodeOk z → to < 0xFFFE → DidOk z (offered_near z to cost w.clock)
      offered z to h short =
          answering_ok z (λ _. tt) _ (acts_ok z (Ok tt) _ h (λ m here kept sized. near_ok z.role m sized to cost w.clock short (omega arith)))

  near_good : (a b cost : ℕ) → cost ≤ 255 → StepGood w (near ciphers w a b cost)
  unfolding near
  near_good a b cost low = setup _ (at_node a _ (λ x hx. at_node b _ (λ y hy. near_by_good a b cost x y (node_address x) (node_address y) low hx hy refl refl)))

  depot_by_good : (number : ℕ) (x c : Node) (d : NodeStep (Result Granted CoordinatorRefusal)) → 0 ≢ number → node_at w number ≡ Some x → node_at w 0 ≡ Some c
      → DidOk c d → ((g : Granted) → d.answer ≡ Ok g → IsReadable g) → d.frames ≡ []
      → StepGood w (depot_by ciphers w number x d)
  depot_by_good number x c d apart hx hc did readable quiet = by_answer d.answer refl
    where
      by_answer : (r : Result Granted CoordinatorRefusal) → d.answer ≡ r → StepGood w (depot_by ciphers w number x d)
      by_answer (Err reason) e = rw e (Fails faults.Setup)
      by_answer (Ok g) e =
          let k : NodeStep (Result Granted CoordinatorRefusal) = record d { answer = Ok g } in
          let first = ok_after ciphers fits (set_up w) 0 c k set_up_ok hc
          (record { node = did.node; role = did.role; eui = did.eui; few = did.few; rises = did.rises; from = did.from; marked = did.marked }) (λ e. quiet) in
          let second = acts_ok x (Ok tt) (λ m. meters.provision m g) (node_ok number x hx)
          (λ m here kept sized. provision_ok x.role m sized g (readable g e)) in
          rw e (Taken (provisioned ciphers (world_after ciphers (set_up w) 0 k) number x g)
          (ok_after ciphers fits (world_after ciphers (set_up w) 0 k) number x _ first (other_there 0 number k x (λ same. apart (sym same)) hx) second
          (λ e. acts_quiet x (Ok tt) (λ m. meters.provision m g) (λ m. install_quiet m.station g))) (omega arith)
          (let one = after_none ciphers (set_up w) 0 k quiet in
          let two = after_none ciphers (world_after ciphers (set_up w) 0 k) number (acts x (Ok tt) (λ m. meters.provision m g))
          (acts_quiet x (Ok tt) (λ m. meters.provision m g) (λ m. install_quiet m.station g)) in omega arith))

  depot_good : (number : ℕ) → StepGood w (depot ciphers w number)
  unfolding depot
  depot_good number =
      setup _ (at_node number _ (λ x hx. at_node 0 _ (λ c hc. branch ((number == 0) || is_some (node_address x)) _ _ (λ _. Fails faults.Setup) (λ may.
      by_option (λ psk. depot_by ciphers w number x (acts c (Err orders.Halted) (λ m. coordinator_rules.depot m x.eui psk))) (psk_of x) (Err faults.Setup)
      (λ psk pair.
      let known = (node_fits number x hx).eui in
      let long = (node_fits number x hx).psk psk (psk_is x psk pair) in
      let apart : 0 ≢ number = λ same. eqb-false _ _ (or_parts _ _ may).0 (sym same) in
      depot_by_good number x c _ apart hx hc (coordinator_acts c (Err orders.Halted) _ (ok.first c hc) (node_ok 0 c hc)
      (λ m sized. depot_ok ciphers fits (own_of c) m sized x.eui psk known long)) (λ g e. granted c x.eui psk g (ok.first c hc) (node_ok 0 c hc) known long e)
      (acts_quiet c (Err orders.Halted) _ (λ m. depot_quiet m x.eui psk)))
      (Fails faults.Setup)))))
    where
      of_role : (role : Role) (m : Memory) (r : Records) → role ≡ Coordinator → IsKept role m r → length m.book ≤ 999
      of_role Coordinator m r e k = k.book.table.short
      of_role (Meter psk) m r e k = absurd (cc)

      kept_at : (c : Node) (m : Memory) → NodeOk c → c.memory ≡ Some m → IsKept c.role m c.store.records × IsMemorySized m
      kept_at c m h e = (subst (λ o. Left (IsKept c.role) c.store.records o) e h.kept, subst (λ o. IfSome o IsMemorySized) e h.sized)

      granted : (c : Node) (eui : Eui) (psk : Key) (g : Granted) → c.role ≡ Coordinator → NodeOk c → HasEui eui → IsPair psk
          → (acts c (Err orders.Halted) (λ m. coordinator_rules.depot m eui psk)).answer ≡ Ok g → IsReadable g
      granted c eui psk g is h known long e =
          let a = acts_answered c orders.Halted orders.Store (λ m. coordinator_rules.depot m eui psk) (λ m. coordinator_failed m eui psk known long) g e in
          let k = kept_at c a.memory h a.there in
          depot_grants a.memory eui psk g k.0.station.range.ring (of_role c.role a.memory c.store.records is k.0) a.is
        where
          coordinator_failed : (m : Memory) (eui : Eui) (psk : Key) → HasEui eui → IsPair psk → (coordinator_rules.depot m eui psk).failed ≡ Err orders.Store
          coordinator_failed m eui psk known long = depot_failed ciphers fits (own_of c) m eui psk known long

  -- # All kinds

  pub step_good : (event : Event) → IsEvent event → StepGood w (step ciphers w event)
  step_good (events.Coordinator eui key) e = coordinator_good eui key e.0 e.1.0 e.1.1
  step_good (events.Meter eui psk) e = meter_good eui psk e.0 e.1.0 e.1.1
  step_good (events.Depot node) e = depot_good node
  step_good (events.Near a b cost) e = near_good a b cost e.2.1
  step_good (events.Counter node value) e = preset_good node _ (λ role m sized. counter_ok role m sized value e.1) (λ l. counter_quiet l value)
  step_good (events.Number node value) e = preset_good node _ (λ role m sized. number_ok role m sized value e.1 e.2) (λ l. number_quiet l value)
  step_good (events.Allow node) e = allow_good node
  step_good (events.RandomOctets node value) e = rand_good node value
  step_good (events.Join node agent) e = join_good node agent
  step_good (events.Leave node) e = leave_good node
  step_good (events.Send from to datagram) e = send_good from to datagram
  step_good (events.Deliver flight node cost) e = deliver_good flight node cost
  step_good (events.Inject node cost octets) e = inject_good node cost octets e.2.2
  step_good (events.Lose flight) e = lose_good flight
  step_good (events.Break node next) e = break_good node next
  step_good (events.Tick seconds) e = tick_good seconds
  step_good (events.Restart node) e = restart_good node
  step_good (events.Cut node nth keeps_new) e = cut_good node nth keeps_new
  step_good (events.Rekey index key) e = rekey_good index key e.1.0 e.1.1
  step_good (events.Challenge node) e = challenge_good node
  step_good (events.Activate node index) e = activate_good node index e.1
  step_good (events.Kick node) e = kick_good node
  step_good (events.Show node) e = show_good node
  step_good events.Checks e = Fails faults.Setup
  step_good (events.Bcast node datagram) e = Fails faults.Setup
  step_good (events.Scan node) e = Fails faults.Setup
  step_good (events.Choose node k) e = Fails faults.Setup
  step_good (events.Path from to) e = Fails faults.Setup
