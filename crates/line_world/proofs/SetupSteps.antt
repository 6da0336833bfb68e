-- Setup: a node of which no loss of power is known stays so, and what was set is there.
use Rattle.std.proofs.Common.{◌≡◌, ◌≢◌, ℕ, zero, suc, ◌+◌, ◌<◌, ◌≤◌, Bool, true, false, not, ◌&&◌, ◌||◌, List, [], ◌∷◌, ◌++◌, length, Option, Some, None}
use Rattle.std.proofs.Common.{Result, Ok, Err, refl, sym, ap, subst, ◌∙◌, if◌then◌else◌, arith}
use Rattle.std.specs.Prelude.{All, IfSome, IsSome, slice_get, slice_set, is_some, nat_lt, ◌==◌}
use Rattle.std.specs.Option.{option_map_or}
use Rattle.std.specs.Result.{OnOk, OnErr, is_err}
use Rattle.std.specs.FinMap.{insert}
use Rattle.std.proofs.lemmas.Bool.{eqb-true, ltb-false}
use Rattle.std.proofs.lemmas.Bool.Decides.{nat_tests}
use Rattle.std.proofs.lemmas.List.{append-nil, length-append, length-set}
use Rattle.std.proofs.lemmas.List.Elements.{All-push, All-set}
use Rattle.std.proofs.lemmas.Option.{get_or_from_slice_get, slice_get_within}
use Rattle.plc_base.specs.declared.address.Eui.{Eui}
use Rattle.plc_base.specs.declared.key.Key.{Key}
use Rattle.plc_base.specs.declared.out_frame.Out.{Out}
use Rattle.plc_base.specs.Grant.{Granted}
use Rattle.plc_base.specs.Keeper.{Records, Write}
use Rattle.store_tables.specs.Writes.{Written, write}
use Rattle.store_tables.proofs.SlotTables.{slice_get-set_other}
use Rattle.node_rules.specs.declared.refusal.RingRefusal.{RingRefusal}
use Rattle.node_rules.specs.declared.refusal.CoordinatorRefusal.{CoordinatorRefusal}
use Rattle.node_rules.specs.declared.refusal.CoordinatorRefusal.TheVariants as orders
use Rattle.node_rules.specs.declared.refusal.PresetFault.{PresetFault}
use Rattle.node_rules.specs.Calls as calls
use Rattle.node_rules.specs.CarriedPlans.{nothing}
use Rattle.node_rules.specs.Ciphers.{network}
use Rattle.node_rules.specs.Coordinators as coordinator_rules
use Rattle.node_rules.specs.Laws.{ChangesNothing, RefusesCleanly}
use Rattle.node_rules.specs.Memory.{Memory, Node, Role, Coordinator, Meter, node_address}
use Rattle.node_rules.specs.Meters as meters
use Rattle.node_rules.specs.NodeSteps.{NodeStep, acts, answering, left_by, of_station, stays}
use Rattle.node_rules.specs.Plans.{Plan, carry_out, finished, halted}
use Rattle.node_rules.proofs.Refusals.{orders_refused}
use Rattle.line_world.specs.NodeOutcomes.{Did}
use Rattle.reach_rules.specs.ReachingNodes.{Beside, nothing_beside}
use Rattle.line_events.specs.declared.event.Answer.TheVariants as answers
use Rattle.line_events.specs.declared.event.StepFault.{StepFault}
use Rattle.line_events.specs.declared.event.StepFault.TheVariants as faults
use Rattle.line_events.specs.declared.event.TheConstants.{MAX_EVENTS}
use Rattle.line_events.specs.declared.happenings.Happenings.{Happenings}
use Rattle.line_rules.specs.Worlds.{World, Trace, node_at}
use Rattle.line_rules.specs.Steps.{Step, at_coordinator, blank_node, coordinator, coordinator_node, depot, depot_at, depot_by, happenings, has_begun, in_setup}
use Rattle.line_rules.specs.Steps.{is_known, issued_by, keeps_rank, made_node, meter, near, near_by, offered_near, on_node, provisioned, psk_of, ranks_full}
use Rattle.line_rules.specs.Steps.{set_up, takes_setup, world_after, trace_of}
use Rattle.line_world.specs.Bounds.{IsBounded, IsUncut}
use Rattle.line_world.specs.NamedNodes.{found}
use Rattle.line_world.specs.Steps.{HasMemory, Steps}
use Rattle.line_world.proofs.EventSteps.{IsThere, at_node, begun, not_found, second_not_found, steps_as, after_is}

-- # A node of which no loss of power is known

-- with no loss of power to come every put is made, and none is to come afterwards
record WroteAll (w : Written) : Type 0 where
  whole : w.whole ≡ true
  cut : w.cut ≡ None

wrote_all : (puts : List Write) (records : Records) → WroteAll (write puts None records)
wrote_all [] records = record { whole = refl; cut = refl }
wrote_all (w ∷ rest) records = wrote_all rest (insert records w.slot w.octets)

-- the plan of a node is carried out in full
in_full : {A : Type 0} (records : Records) (p : Plan Memory A) → carry_out records None p ≡ finished (write p.puts None records) p
unfolding carry_out
in_full records p =
    let w = write p.puts None records in
    ap (λ (b : Bool). if b then finished w p else halted w p) (wrote_all p.puts records).whole

-- what a node does of which no loss of power is known
does_all : {A : Type 0} (x : Node) (m : Memory) (halting : A) (plan : Memory → Plan Memory A) → x.memory ≡ Some m → x.store.cut ≡ None
    → acts x halting plan ≡ left_by x (finished (write (plan m).puts None x.store.records) (plan m))
unfolding acts
does_all x m halting plan held uncut =
    (λ i. option_map_or (λ n. left_by x (carry_out x.store.records (uncut i) (plan n))) (held i) (stays x halting))
    ∙ ap (λ o. left_by x o) (in_full x.store.records (plan m))

held_by : {A : Type 0} (o : Option A) → IsSome o → (m : A) × (o ≡ Some m)
held_by None some = absurd (cc)
held_by (Some m) some = (m, refl)

pub stays_uncut : {A : Type 0} (x : Node) (halting : A) (plan : Memory → Plan Memory A) → IsUncut x → IsUncut (acts x halting plan).node
stays_uncut x halting plan u =
    let m = held_by x.memory u.running in
    subst (λ d. IsUncut d.node) (sym (does_all x m.0 halting plan m.1 u.cut)) (record { running = refl; cut = (wrote_all (plan m.0).puts x.store.records).cut })

-- # An order that is refused

same_node : {A H : Type 0} (x : Node) (m : Memory) (p : Plan Memory (Result A H)) → x.memory ≡ Some m → x.store.cut ≡ None → ChangesNothing m p
    → (left_by x (finished (write p.puts None x.store.records) p)).node ≡ x
same_node x m p held uncut same =
    (λ i. record x {
      store = record x.store {
        records = (write (same.puts i) None x.store.records).records;
        cut = (write (same.puts i) None x.store.records).cut;
      };
      memory = Some (same.memory i);
    })
    ∙ (λ i. record x { store = record x.store { cut = sym uncut i }; memory = sym held i })

-- a depot that the coordinator refuses leaves it as it is
pub depot_refused : (c : Node) (eui : Eui) (psk : Key) (reason : CoordinatorRefusal) → IsUncut c
    → Err reason ≡ (acts c (Err orders.Halted) (λ m. coordinator_rules.depot m eui psk)).answer
    → (acts c (Err orders.Halted) (λ m. coordinator_rules.depot m eui psk)).node ≡ c
depot_refused c eui psk reason u is =
    let m = held_by c.memory u.running in
    let all = does_all c m.0 (Err orders.Halted) (λ m. coordinator_rules.depot m eui psk) m.1 u.cut in
    let clean : RefusesCleanly orders.Store m.0 (coordinator_rules.depot m.0 eui psk) = (orders_refused c.eui m.0 eui psk 0 0).1 in
    ap (λ d. d.node) all ∙ same_node c m.0 (coordinator_rules.depot m.0 eui psk) m.1 u.cut (clean.1 reason (sym (is ∙ ap (λ d. d.answer) all)))

-- # Nodes that are new

pub blank_uncut : (role : Role) (eui : Eui) → IsUncut (blank_node role eui)
blank_uncut role eui = record { running = refl; cut = refl }

pub coordinator_uncut : (eui : Eui) (key : Key) → IsUncut (coordinator_node eui key)
coordinator_uncut eui key = stays_uncut (blank_node Coordinator eui) (Ok tt) _ (blank_uncut Coordinator eui)

-- # What was set

-- the same of an answer that is read as another
pub quietly : {A B : Type 0} (f : A → B) (d : NodeStep A) (old : List Node) (number : ℕ) (answer : A) (out : Out) (new : List Node)
    → Did d old number answer out new
    → Did (answering f d) old number (f answer) out new
quietly f d old number answer out new did = record { answer_is = ap f did.answer_is; out_is = did.out_is; nodes_are = did.nodes_are }

-- the world after a node that sent nothing
pub after_quiet : {A : Type 0} (w : World) (number : ℕ) (d : NodeStep A) (answer : A) (nodes : List Node) → Did d w.nodes number answer nothing nodes
    → world_after network w number d ≡ record w { nodes = nodes }
after_quiet w number d answer nodes did =
    after_is w number d nodes nothing did.out_is did.nodes_are ∙ (λ i. record w { nodes = nodes; flights = append-nil w.flights i; made = append-nil w.made i })

-- the bounds after an event of setup that left these nodes
pub bounded_setup : (w : World) (nodes : List Node) → IsBounded w → w.events < MAX_EVENTS → length nodes ≤ 1000 → (w.running ≡ false → All IsUncut nodes)
    → IsBounded (record (set_up w) { nodes = nodes })
bounded_setup w nodes b room few uncut = record {
  events = let e = room in omega (arith, e);
  clock = let e = b.clock in omega (arith, e);
  nodes = few;
  flights = let e = b.flights in omega (arith, e);
  made = let e = b.made in omega (arith, e);
  sends = let e = b.sends in omega (arith, e);
  ups = let e = b.ups in omega (arith, e);
  forged = let e = b.forged in omega (arith, e);
  done = let e = b.done in omega (arith, e);
  uncut = uncut;
}

-- an event of setup that left these nodes
pub was_set : (takes : Bool) (w new : World) (step : Step) (trace : Trace) (h : Happenings) (nodes : List Node) → IsBounded w → w.events < MAX_EVENTS
    → length nodes ≤ 1000
    → (w.running ≡ false → All IsUncut nodes) → step ≡ Ok (record (set_up w) { nodes = nodes }, trace) → h ≡ trace.happenings
    → new ≡ record (set_up w) { nodes = nodes } → Steps takes w (Ok h) new step
was_set takes w new step trace h nodes b room few uncut taken world_after is = record {
  gives = record { trace = trace; taken = taken ∙ (λ i. Ok (sym is i, trace)); reported = world_after };
  memory = by takes;
  bounds = subst IsBounded (sym is) (bounded_setup w nodes b room few uncut);
}
  where
    by : (t : Bool) → HasMemory t (Ok h)
    by true = tt
    by false = tt

-- # The tests before a step of setup

pub no_setup : (w : World) (step : Step) → false ≡ takes_setup w → in_setup w step ≡ Err faults.Setup
no_setup w step is = ap (λ (b : Bool). if b then step else Err faults.Setup) (sym is)

pub in_setup_is : (w : World) (step : Step) → true ≡ takes_setup w → in_setup w step ≡ step
in_setup_is w step is = ap (λ (b : Bool). if b then step else Err faults.Setup) (sym is)

and_first : (a b : Bool) → true ≡ (a && b) → true ≡ a
and_first true b is = refl
and_first false b is = is

-- an event of setup of a node that was not found is not taken
pub no_such_node : (w : World) (number : ℕ) (k : Node → Step) (fault : StepFault) → IsBounded w → true ≡ takes_setup w → Err fault ≡ found w number
    → Steps false w (Err fault) w (in_setup w (on_node w number k))
no_such_node w number k fault bounds takes is =
    steps_as _ _ (in_setup_is w _ takes ∙ sym (begun w (on_node w number k) (and_first (has_begun w) (not w.running) takes)))
    (not_found false w number k fault bounds is)

-- nor one of a second node that was not found
pub no_such_second : (w : World) (number at other : ℕ) (k : Node → Node → Step) (fault : StepFault) → IsBounded w → true ≡ takes_setup w
    → Ok at ≡ found w number → Err fault ≡ found w other
    → Steps false w (Err fault) w (in_setup w (on_node w number (λ x. on_node w other (k x))))
no_such_second w number at other k fault bounds takes first is =
    steps_as _ _ (in_setup_is w _ takes ∙ sym (begun w (on_node w number (λ x. on_node w other (k x))) (and_first (has_begun w) (not w.running) takes)))
    (second_not_found false w number at other k fault bounds first is)

not_so : (a b : Bool) → true ≡ (a && not b) → b ≡ false
not_so a false is = refl
not_so true true is = is
not_so false true is = is

-- while setup lasts no node has lost power
pub still_uncut : (w : World) → IsBounded w → true ≡ takes_setup w → All IsUncut w.nodes
still_uncut w b takes = b.uncut (not_so (has_begun w) w.running takes)

first_of : {A : Type 0} (xs : List A) → true ≡ nat_lt 0 (length xs) → (x : A) × (slice_get xs 0 ≡ Some x)
first_of [] is = absurd (cc)
first_of (x ∷ xs) is = (x, refl)

-- while setup lasts there is a coordinator
pub first_there : (w : World) → true ≡ takes_setup w → (c : Node) × (node_at w 0 ≡ Some c)
first_there w takes = first_of w.nodes (and_first (has_begun w) (not w.running) takes)

pub uncut_at : (xs : List Node) (n : ℕ) (x : Node) → All IsUncut xs → slice_get xs n ≡ Some x → IsUncut x
uncut_at xs n x all at = subst IsUncut (get_or_from_slice_get xs n x x at) (all n x (slice_get_within xs n x at))

-- # counter, number

-- a value was set at a node
pub value_set : {A : Type 0} (w new : World) {number found : ℕ} (there : IsThere w number found) (d : Node → NodeStep A) (answer : A) (nodes : List Node)
    (h : Happenings) → IsBounded w
    → w.events < MAX_EVENTS → true ≡ takes_setup w → ((x : Node) → IsUncut x → IsUncut (d x).node)
    → IfSome (slice_get w.nodes found) (λ x. Did (d x) w.nodes found answer nothing nodes)
    → h ≡ happenings w answers.Set → new ≡ record (set_up w) { nodes = nodes }
    → Steps false w (Ok h) new (in_setup w (on_node w number (λ x. Ok (world_after network (set_up w) number (d x), trace_of (happenings w answers.Set)))))
value_set w new {number} {found} there d answer nodes h b room takes keeps did node_trace is =
    let x = there.node in
    let own : Did (d x) w.nodes number answer nothing nodes =
    subst (λ n. Did (d x) w.nodes n answer nothing nodes) there.same
    (subst (λ o. IfSome o (λ y. Did (d y) w.nodes found answer nothing nodes)) (ap (λ n. slice_get w.nodes n) there.same ∙ there.at) did) in
    let uncut = still_uncut w b takes in
    let left : All IsUncut nodes = subst (All IsUncut) (sym own.nodes_are)
    (All-set IsUncut w.nodes number (d x).node (keeps x (uncut_at w.nodes number x uncut there.at)) uncut) in
    let same : length nodes ≡ length w.nodes = ap (λ (ns : List Node). length ns) own.nodes_are ∙ length-set w.nodes number (d x).node in
    was_set false w new _ (trace_of (happenings w answers.Set)) h nodes b room (let few = b.nodes in omega (arith, few, same)) (λ running. left)
    (in_setup_is w _ takes ∙ at_node w number x _ there.at
    ∙ ap (λ (v : World). Ok (v, trace_of (happenings w answers.Set))) (after_quiet (set_up w) number (d x) answer nodes own)) node_trace is

-- # depot

same_set : {A : Type 0} (xs : List A) (n : ℕ) (x : A) → slice_get xs n ≡ Some x → slice_set xs n x ≡ xs
same_set [] n x at = refl
same_set (y ∷ xs) zero x at = ap (λ z. z ∷ xs) (cc)
same_set (y ∷ xs) (suc n) x at = ap (λ zs. y ∷ zs) (same_set xs n x at)

-- what is found before a depot: the meter, which has no address, and the coordinator
pub record MayDepot (w : World) (number : ℕ) (x c : Node) (psk : Key) : Type 0 where
  pub takes : true ≡ takes_setup w
  pub meter : node_at w number ≡ Some x
  pub first : node_at w 0 ≡ Some c
  pub above : 0 < number
  pub unjoined : node_address x ≡ None
  pub pair : psk_of x ≡ Some psk

not_first : (n : ℕ) → 0 < n → (n == 0) ≡ false
not_first n above = grind (arith, nat_tests)

module _ (w : World) (number : ℕ) (x c : Node) (psk : Key) (may : MayDepot w number x c psk) where
  -- what the coordinator does
  abbrev pub granting : NodeStep (Result Granted CoordinatorRefusal)
  granting = acts c (Err orders.Halted) (λ m. coordinator_rules.depot m x.eui psk)

  found_both : depot network w number ≡ depot_at network w number x c
  unfolding depot
  found_both =
      in_setup_is w _ may.takes ∙ at_node w number x (λ y. at_coordinator w (λ k. depot_at network w number y k)) may.meter
      ∙ at_node w 0 c (λ k. depot_at network w number x k) may.first

  depots : depot network w number ≡ depot_by network w number x granting
  depots =
      found_both
      ∙ (λ i. if not_first number may.above i || is_some (may.unjoined i) then Err faults.Setup
      else option_map_or (λ p. depot_by network w number x (acts c (Err orders.Halted) (λ m. coordinator_rules.depot m x.eui p))) (may.pair i)
      (Err faults.Setup))

  uncut_first : IsBounded w → IsUncut c
  uncut_first b = uncut_at w.nodes 0 c (still_uncut w b may.takes) may.first

  -- the coordinator refused it, and the world is as it was
  pub was_refused : (new : World) (reason : CoordinatorRefusal) (nodes : List Node) → IsBounded w → Did granting w.nodes 0 (Err reason) nothing nodes
      → new ≡ record w { nodes = nodes }
      → Steps false w (Err faults.Setup) new (depot network w number)
  was_refused new reason nodes b did is =
      let same : nodes ≡ w.nodes = did.nodes_are ∙ ap (λ k. slice_set w.nodes 0 k) (depot_refused c x.eui psk reason (uncut_first b) did.answer_is)
      ∙ same_set w.nodes 0 c may.first in
      let left : new ≡ w = is ∙ (λ i. record w { nodes = same i }) in
      record {
        gives = (depots ∙ (λ i. depot_by network w number x (record granting { answer = sym did.answer_is i })), left);
        memory = refl;
        bounds = subst IsBounded (sym left) b;
      }

  -- the coordinator granted it, and the meter has it
  pub was_joined : (new : World) (g : Granted) (answer : Result (Unit {0}) RingRefusal) (between nodes : List Node) (h : Happenings) → IsBounded w
      → w.events < MAX_EVENTS
      → Did granting w.nodes 0 (Ok g) nothing between
      → IfSome (slice_get between number) (λ y. Did (acts y (Ok tt) (λ m. meters.provision m g)) between number answer nothing nodes)
      → h ≡ happenings w answers.Joined → new ≡ record (set_up w) { nodes = nodes } → Steps false w (Ok h) new (depot network w number)
  unfolding acts world_after
  was_joined new g answer between nodes h b room first second node_trace is =
      let other : number ≢ 0 = λ e. absurd (omega (arith, may.above, e)) in
      let at : slice_get between number
      ≡ Some x = ap (λ ns. slice_get ns number) first.nodes_are ∙ slice_get-set_other w.nodes 0 number granting.node other ∙ may.meter in
      let d = acts x (Ok tt) (λ m. meters.provision m g) in
      let did : Did d between number answer nothing nodes = subst
      (λ o. IfSome o (λ y. Did (acts y (Ok tt) (λ m. meters.provision m g)) between number answer nothing nodes)) at second in
      let uncut = still_uncut w b may.takes in
      let one : All IsUncut between = subst (All IsUncut) (sym first.nodes_are)
      (All-set IsUncut w.nodes 0 granting.node (stays_uncut c _ _ (uncut_first b)) uncut) in
      let two : All IsUncut nodes = subst (All IsUncut) (sym did.nodes_are)
      (All-set IsUncut between number d.node (stays_uncut x _ _ (uncut_at w.nodes number x uncut may.meter)) one) in
      let same : length nodes ≡ length w.nodes =
      ap (λ (ns : List Node). length ns) did.nodes_are ∙ length-set between number d.node ∙ ap (λ (ns : List Node). length ns) first.nodes_are
      ∙ length-set w.nodes 0 granting.node in
      let trace = record (trace_of (happenings w answers.Joined)) { issued = issued_by x.eui g } in
      was_set false w new _ trace h nodes b room (let few = b.nodes in omega (arith, few, same)) (λ running. two)
      (depots ∙ (λ i. depot_by network w number x (record granting { answer = sym first.answer_is i }))
      ∙ ap (λ (v : World). Ok (provisioned network v number x g)) (after_quiet (set_up w) 0 granting (Ok g) between first)
      ∙ ap (λ (v : World). Ok (v, trace)) (after_quiet (record (set_up w) { nodes = between }) number d answer nodes did)) node_trace is

-- # near

-- what is found before two nodes are made neighbours
pub record MayMeet (w : World) (a b : ℕ) (x y : Node) (p q : ℕ) : Type 0 where
  pub takes : true ≡ takes_setup w
  pub first : node_at w a ≡ Some x
  pub second : node_at w b ≡ Some y
  pub other : b ≢ a
  pub first_address : node_address x ≡ Some p
  pub second_address : node_address y ≡ Some q
  pub room : (keeps_rank x q || (ranks_full x || ranks_full y)) ≡ false

pub met : (w : World) (a b cost : ℕ) (x y : Node) → true ≡ takes_setup w → node_at w a ≡ Some x → node_at w b ≡ Some y
    → near network w a b cost ≡ near_by network w a b cost x y (node_address x) (node_address y)
unfolding near
met w a b cost x y takes first second =
    in_setup_is w _ takes ∙ at_node w a x (λ u. on_node w b (λ v. near_by network w a b cost u v (node_address u) (node_address v))) first
    ∙ at_node w b y (λ v. near_by network w a b cost x v (node_address x) (node_address v)) second

module _ (w : World) (a b cost : ℕ) (x y : Node) (p q : ℕ) (may : MayMeet w a b x y p q) where
  offers : Node → ℕ → NodeStep (Result (Unit {0}) PresetFault)
  offers n to = acts n (Ok tt) (λ m. of_station m (calls.preset_near m.station to cost w.clock))

  apart : (a == b) ≡ false
  apart = by (a == b) refl
    where
      by : (t : Bool) → (a == b) ≡ t → t ≡ false
      by true is = absurd (may.other (sym (eqb-true a b is)))
      by false is = refl

  pub were_met : (new : World) (one two : Result (Unit {0}) PresetFault) (between nodes : List Node) (h : Happenings) → IsBounded w → w.events < MAX_EVENTS
      → IfSome (slice_get w.nodes a) (λ n. Did (acts n (Ok tt) (λ m. of_station m (calls.preset_near m.station q cost w.clock))) w.nodes a one nothing between)
      → IfSome (slice_get between b) (λ n. Did (acts n (Ok tt) (λ m. of_station m (calls.preset_near m.station p cost w.clock))) between b two nothing nodes)
      → h ≡ happenings w answers.Set → new ≡ record (set_up w) { nodes = nodes } → Steps false w (Ok h) new (near network w a b cost)
  unfolding offers
  were_met new one two between nodes h b_holds room at_a at_b node_trace is =
      let d1 = offers x q in
      let d2 = offers y p in
      let did1 : Did d1 w.nodes a one nothing between = subst (λ o. IfSome o (λ n. Did (offers n q) w.nodes a one nothing between)) may.first at_a in
      let at : slice_get between b ≡ Some y = ap (λ ns. slice_get ns b) did1.nodes_are ∙ slice_get-set_other w.nodes a b d1.node may.other ∙ may.second in
      let did2 : Did d2 between b two nothing nodes = subst (λ o. IfSome o (λ n. Did (offers n p) between b two nothing nodes)) at at_b in
      let uncut = still_uncut w b_holds may.takes in
      let left1 : All IsUncut between = subst (All IsUncut) (sym did1.nodes_are)
      (All-set IsUncut w.nodes a d1.node (stays_uncut x _ _ (uncut_at w.nodes a x uncut may.first)) uncut) in
      let left2 : All IsUncut nodes = subst (All IsUncut) (sym did2.nodes_are)
      (All-set IsUncut between b d2.node (stays_uncut y _ _ (uncut_at w.nodes b y uncut may.second)) left1) in
      let same : length nodes ≡ length w.nodes =
      ap (λ (ns : List Node). length ns) did2.nodes_are ∙ length-set between b d2.node ∙ ap (λ (ns : List Node). length ns) did1.nodes_are
      ∙ length-set w.nodes a d1.node in
      let trace = trace_of (happenings w answers.Set) in
      was_set false w new _ trace h nodes b_holds room (let few = b_holds.nodes in omega (arith, few, same)) (λ running. left2)
      (met w a b cost x y may.takes may.first may.second ∙ (λ i. near_by network w a b cost x y (may.first_address i) (may.second_address i))
      ∙ (λ i. if apart i || may.room i then Err faults.Setup
      else Ok (world_after network (world_after network (set_up w) a (offered_near x q cost w.clock)) b (offered_near y p cost w.clock), trace))
      ∙ ap (λ (v : World). Ok (world_after network v b (offered_near y p cost w.clock), trace))
      (after_quiet (set_up w) a (offered_near x q cost w.clock) tt between (quietly (λ _. tt) d1 w.nodes a one nothing between did1))
      ∙ ap (λ (v : World). Ok (v, trace)) (after_quiet (record (set_up w) { nodes = between }) b (offered_near y p cost w.clock) tt nodes
      (quietly (λ _. tt) d2 between b two nothing nodes did2))) node_trace is

-- # coordinator, meter

-- bounds do not speak of what stands beside the nodes
pub bounded_beside : (w : World) (beside : List Beside) → IsBounded w → IsBounded (record w { beside = beside })
bounded_beside w beside b = record {
  events = b.events;
  clock = b.clock;
  nodes = b.nodes;
  flights = b.flights;
  made = b.made;
  sends = b.sends;
  ups = b.ups;
  forged = b.forged;
  done = b.done;
  uncut = b.uncut;
}

-- the world with these nodes and what a new one more holds
abbrev pub one_node_more : World → List Node → World
one_node_more w nodes = record (set_up w) { nodes = nodes; beside = w.beside ++ nothing_beside ∷ [] }

-- a node was made
pub was_made : (w new : World) (step : Step) (x : Node) (nodes : List Node) (h : Happenings) → IsBounded w → w.events < MAX_EVENTS → length w.nodes ≤ 999
    → IsUncut x
    → nodes ≡ w.nodes ++ x ∷ [] → step ≡ Ok (made_node w x) → h ≡ happenings w answers.Made → new ≡ one_node_more w nodes → Steps true w (Ok h) new step
was_made w new step x nodes h b room few uncut are made node_trace is =
    let long : length nodes ≡ length w.nodes + 1 = ap (λ (ns : List Node). length ns) are ∙ length-append w.nodes (x ∷ []) in
    record {
      gives = record {
        trace = trace_of (happenings w answers.Made);
        taken =
            made ∙ (λ i. Ok (one_node_more w (sym are i), trace_of (happenings w answers.Made))) ∙ (λ i. Ok (sym is i, trace_of (happenings w answers.Made)));
        reported = node_trace;
      };
      memory = tt;
      bounds = subst IsBounded (sym is)
          (bounded_setup (record w { beside = w.beside ++ nothing_beside ∷ [] }) nodes (bounded_beside w _ b) room (omega (arith, few, long))
          (λ running. subst (All IsUncut) (sym are) (All-push IsUncut w.nodes x (b.uncut running) uncut)));
    }

pub had_begun : (w : World) (eui : Eui) (key : Key) → true ≡ has_begun w → coordinator w eui key ≡ Err faults.Setup
unfolding coordinator
had_begun w eui key is = ap (λ (b : Bool). if b then Err faults.Setup else Ok (made_node w (coordinator_node eui key))) (sym is)

pub makes_first : (w : World) (eui : Eui) (key : Key) → false ≡ has_begun w → coordinator w eui key ≡ Ok (made_node w (coordinator_node eui key))
unfolding coordinator
makes_first w eui key is = ap (λ (b : Bool). if b then Err faults.Setup else Ok (made_node w (coordinator_node eui key))) (sym is)

none_in : {A : Type 0} (xs : List A) → false ≡ nat_lt 0 (length xs) → xs ≡ []
none_in [] is = refl
none_in (x ∷ xs) is = let few : length (x ∷ xs) ≤ 0 = ltb-false 0 (length (x ∷ xs)) (sym is) in absurd (omega (arith, few))

pub no_nodes : (w : World) → false ≡ has_begun w → w.nodes ≡ []
no_nodes w is = none_in w.nodes is

-- the coordinator was made
pub first_made : (w new : World) (eui : Eui) (key : Key) (nodes : List Node) (h : Happenings) → IsBounded w → w.events < MAX_EVENTS → false ≡ has_begun w
    → nodes ≡ coordinator_node eui key ∷ [] → h ≡ happenings w answers.Made → new ≡ one_node_more w nodes → Steps true w (Ok h) new (coordinator w eui key)
first_made w new eui key nodes h b room none are node_trace is =
    let x = coordinator_node eui key in
    let empty : w.nodes ≡ [] = no_nodes w none in
    was_made w new _ x nodes h b room (omega (arith, ap (λ (ns : List Node). length ns) empty)) (coordinator_uncut eui key)
    (are ∙ ap (λ (ns : List Node). ns ++ x ∷ []) (sym empty)) (makes_first w eui key none) node_trace is

meter_by : (w : World) (eui : Eui) (psk : Key) (takes full known : Bool) → takes_setup w ≡ takes → nat_lt 999 (length w.nodes) ≡ full → is_known w eui ≡ known
    → meter w eui psk ≡ (if not takes || (full || known) then Err faults.Setup else Ok (made_node w (blank_node (Meter psk) eui)))
unfolding meter
meter_by w eui psk takes full known t f k = λ i. if not (t i) || (f i || k i) then Err faults.Setup else Ok (made_node w (blank_node (Meter psk) eui))

pub meter_late : (w : World) (eui : Eui) (psk : Key) → false ≡ takes_setup w → meter w eui psk ≡ Err faults.Setup
meter_late w eui psk takes = meter_by w eui psk false (nat_lt 999 (length w.nodes)) (is_known w eui) (sym takes) refl refl

full_at : (n : ℕ) → 1000 ≤ n → nat_lt 999 n ≡ true
full_at n full = grind (arith, nat_tests)

room_at : (n : ℕ) → n < 1000 → nat_lt 999 n ≡ false
room_at n room = grind (arith, nat_tests)

pub meter_full : (w : World) (eui : Eui) (psk : Key) → true ≡ takes_setup w → 1000 ≤ length w.nodes → meter w eui psk ≡ Err faults.Setup
meter_full w eui psk takes full = meter_by w eui psk true true (is_known w eui) (sym takes) (full_at (length w.nodes) full) refl

pub meter_known : (w : World) (eui : Eui) (psk : Key) → true ≡ takes_setup w → length w.nodes < 1000 → true ≡ is_known w eui
    → meter w eui psk ≡ Err faults.Setup
meter_known w eui psk takes room known = meter_by w eui psk true false true (sym takes) (room_at (length w.nodes) room) (sym known)

pub makes_meter : (w : World) (eui : Eui) (psk : Key) → true ≡ takes_setup w → length w.nodes < 1000 → false ≡ is_known w eui
    → meter w eui psk ≡ Ok (made_node w (blank_node (Meter psk) eui))
makes_meter w eui psk takes room unknown = meter_by w eui psk true false false (sym takes) (room_at (length w.nodes) room) (sym unknown)

-- a meter was made
pub meter_made : (w new : World) (eui : Eui) (psk : Key) (nodes : List Node) (h : Happenings) → IsBounded w → w.events < MAX_EVENTS → true ≡ takes_setup w
    → length w.nodes < 1000
    → false ≡ is_known w eui → nodes ≡ w.nodes ++ blank_node (Meter psk) eui ∷ [] → h ≡ happenings w answers.Made → new ≡ one_node_more w nodes
    → Steps true w (Ok h) new (meter w eui psk)
meter_made w new eui psk nodes h b room takes few unknown are node_trace is =
    was_made w new _ (blank_node (Meter psk) eui) nodes h b room (omega (arith, few)) (blank_uncut (Meter psk) eui) are
    (makes_meter w eui psk takes few unknown) node_trace is

-- # What the code found

pub went_well : {A E P : Type 0} (r : Result A E) → OnOk r P → false ≡ is_err r → P
went_well (Ok a) h is = h
went_well (Err e) h is = absurd (cc)

pub went_badly : {A E P : Type 0} (r : Result A E) → OnErr r P → true ≡ is_err r → P
went_badly (Ok a) h is = absurd (cc)
went_badly (Err e) h is = h

-- what holds of what is found by a number holds of the node that is there
pub at_there : {w : World} {number found : ℕ} (there : IsThere w number found) (P : Node → Type 0) → IfSome (slice_get w.nodes found) P → P there.node
at_there {w} there P h = subst (λ o. IfSome o P) (ap (λ n. slice_get w.nodes n) there.same ∙ there.at) h

none_of : {A : Type 0} (o : Option A) → false ≡ is_some o → o ≡ None
none_of None is = refl
none_of (Some x) is = absurd (cc)

err_of : {A E : Type 0} (r : Result A E) → ((a : A) → r ≡ Ok a → ⊥) → (e : E) × (r ≡ Err e)
err_of (Ok a) not_ok = absurd (not_ok a refl)
err_of (Err e) not_ok = (e, refl)

-- # A depot as the code has it

depot_found : (w : World) (number : ℕ) (x c : Node) → true ≡ takes_setup w → node_at w number ≡ Some x → node_at w 0 ≡ Some c
    → depot network w number ≡ depot_at network w number x c
unfolding depot
depot_found w number x c takes meter first =
    in_setup_is w _ takes ∙ at_node w number x (λ y. at_coordinator w (λ k. depot_at network w number y k)) meter
    ∙ at_node w 0 c (λ k. depot_at network w number x k) first

depot_when : (w : World) (number : ℕ) (x c : Node) (first joined : Bool) → (number == 0) ≡ first → is_some (node_address x) ≡ joined
    → depot_at network w number x c ≡ (if first || joined then Err faults.Setup
    else option_map_or (λ p. depot_by network w number x (acts c (Err orders.Halted) (λ m. coordinator_rules.depot m x.eui p))) (psk_of x) (Err faults.Setup))
depot_when w number x c first joined z j =
    λ i. if z i || j i then Err faults.Setup
    else option_map_or (λ p. depot_by network w number x (acts c (Err orders.Halted) (λ m. coordinator_rules.depot m x.eui p))) (psk_of x) (Err faults.Setup)

is_zero : (n : ℕ) → n ≡ 0 → (n == 0) ≡ true
is_zero n is = grind (arith, nat_tests)

-- node 0 is no meter
pub depot_first : {w : World} {number found : ℕ} → IsThere w number found → true ≡ takes_setup w → found ≡ 0 → depot network w number ≡ Err faults.Setup
depot_first {w} {number} there takes is =
    let c = first_there w takes in
    depot_found w number there.node c.0 takes there.at c.1
    ∙ depot_when w number there.node c.0 true (is_some (node_address there.node)) (is_zero number (sym there.same ∙ is)) refl

-- the meter has an address
pub depot_joined : {w : World} {number found : ℕ} (there : IsThere w number found) (address : Option ℕ) → true ≡ takes_setup w → 1 ≤ found
    → IfSome (slice_get w.nodes found) (λ x. address ≡ node_address x) → true ≡ is_some address → depot network w number ≡ Err faults.Setup
depot_joined {w} {number} there address takes above at is =
    let c = first_there w takes in
    let joined : is_some (node_address there.node)
    ≡ true = ap (λ (o : Option ℕ). is_some o) (sym (at_there there (λ x. address ≡ node_address x) at)) ∙ sym is in
    depot_found w number there.node c.0 takes there.at c.1
    ∙ depot_when w number there.node c.0 false true (not_first number (let same = there.same in omega (arith, above, same))) joined

may_depot : {w : World} {number found : ℕ} (there : IsThere w number found) (address : Option ℕ) (psk : Key) (takes : true ≡ takes_setup w) → 1 ≤ found
    → IfSome (slice_get w.nodes found) (λ x. address ≡ node_address x) → false ≡ is_some address → IfSome (slice_get w.nodes found) (λ x. psk_of x ≡ Some psk)
    → MayDepot w number there.node (first_there w takes).0 psk
may_depot {w} there address psk takes above at none pair = record {
  takes = takes;
  meter = there.at;
  first = (first_there w takes).1;
  above = let same = there.same in omega (arith, above, same);
  unjoined = sym (at_there there (λ x. address ≡ node_address x) at) ∙ none_of address none;
  pair = at_there there (λ x. psk_of x ≡ Some psk) pair;
}

-- what the coordinator did, by the node that is there and the EUI that it has
abbrev pub AtFirst : World → Eui → Key → Result Granted CoordinatorRefusal → List Node → Type 0
AtFirst w eui psk r nodes =
    IfSome (slice_get w.nodes 0) (λ c. Did (acts c (Err orders.Halted) (λ m. coordinator_rules.depot m eui psk)) w.nodes 0 r nothing nodes)

by_first : {w : World} {number found : ℕ} (there : IsThere w number found) (eui : Eui) (psk : Key) (r : Result Granted CoordinatorRefusal) (nodes : List Node)
    (takes : true ≡ takes_setup w)
    → IfSome (slice_get w.nodes found) (λ x. eui ≡ x.eui) → AtFirst w eui psk r nodes
    → Did (acts (first_there w takes).0 (Err orders.Halted) (λ m. coordinator_rules.depot m there.node.eui psk)) w.nodes 0 r nothing nodes
by_first {w} there eui psk r nodes takes own did =
    subst (λ (e : Eui). Did (acts (first_there w takes).0 (Err orders.Halted) (λ m. coordinator_rules.depot m e psk)) w.nodes 0 r nothing nodes)
    (at_there there (λ x. eui ≡ x.eui) own)
    (subst (λ o. IfSome o (λ c. Did (acts c (Err orders.Halted) (λ m. coordinator_rules.depot m eui psk)) w.nodes 0 r nothing nodes)) (first_there w takes).1
    did)

pub depot_not_granted : {w : World} (new : World) {number found : ℕ} (there : IsThere w number found) (address : Option ℕ) (eui : Eui) (psk : Key)
    (r : Result Granted CoordinatorRefusal)
    (nodes : List Node) → IsBounded w → true ≡ takes_setup w → 1 ≤ found → IfSome (slice_get w.nodes found) (λ x. address ≡ node_address x)
    → false ≡ is_some address
    → IfSome (slice_get w.nodes found) (λ x. eui ≡ x.eui) → IfSome (slice_get w.nodes found) (λ x. psk_of x ≡ Some psk) → AtFirst w eui psk r nodes
    → ((g : Granted) → r ≡ Ok g → ⊥) → new ≡ record w { nodes = nodes } → Steps false w (Err faults.Setup) new (depot network w number)
depot_not_granted {w} new {number} there address eui psk r nodes b takes above at none own pair did not_ok is =
    let e = err_of r not_ok in
    was_refused w number there.node (first_there w takes).0 psk (may_depot there address psk takes above at none pair) new e.0 nodes b
    (subst (λ (s : Result Granted CoordinatorRefusal). Did
    (acts (first_there w takes).0 (Err orders.Halted) (λ m. coordinator_rules.depot m there.node.eui psk)) w.nodes 0 s nothing nodes) e.1
    (by_first there eui psk r nodes takes own did)) is

pub depot_granted : {w : World} (new : World) {number found : ℕ} (there : IsThere w number found) (address : Option ℕ) (eui : Eui) (psk : Key)
    (r : Result Granted CoordinatorRefusal) (g : Granted)
    (answer : Result (Unit {0}) RingRefusal) (between nodes : List Node) (h : Happenings) → IsBounded w → w.events < MAX_EVENTS → true ≡ takes_setup w
    → 1 ≤ found
    → IfSome (slice_get w.nodes found) (λ x. address ≡ node_address x) → false ≡ is_some address
    → IfSome (slice_get w.nodes found) (λ x. eui ≡ x.eui) → IfSome (slice_get w.nodes found) (λ x. psk_of x ≡ Some psk) → AtFirst w eui psk r between → r ≡ Ok g
    → IfSome (slice_get between found) (λ y. Did (acts y (Ok tt) (λ m. meters.provision m g)) between found answer nothing nodes)
    → h ≡ happenings w answers.Joined → new ≡ record (set_up w) { nodes = nodes } → Steps false w (Ok h) new (depot network w number)
depot_granted {w} new {number} there address eui psk r g answer between nodes h b room takes above at none own pair did ok second node_trace is =
    was_joined w number there.node (first_there w takes).0 psk (may_depot there address psk takes above at none pair) new g answer between nodes h b room
    (subst (λ (s : Result Granted CoordinatorRefusal). Did
    (acts (first_there w takes).0 (Err orders.Halted) (λ m. coordinator_rules.depot m there.node.eui psk)) w.nodes 0 s nothing between) ok
    (by_first there eui psk r between takes own did))
    (subst (λ n. IfSome (slice_get between n) (λ y. Did (acts y (Ok tt) (λ m. meters.provision m g)) between n answer nothing nodes)) there.same second)
    node_trace
    is

-- the list of nodes is as long as before
pub as_long : (w : World) (eui : Eui) (psk : Key) (r : Result Granted CoordinatorRefusal) (between : List Node) → true ≡ takes_setup w
    → AtFirst w eui psk r between → length between ≡ length w.nodes
as_long w eui psk r between takes did =
    let c = first_there w takes in
    let d : Did (acts c.0 (Err orders.Halted) (λ m. coordinator_rules.depot m eui psk)) w.nodes 0 r nothing between =
    subst (λ o. IfSome o (λ c. Did (acts c (Err orders.Halted) (λ m. coordinator_rules.depot m eui psk)) w.nodes 0 r nothing between)) c.1 did in
    ap (λ (ns : List Node). length ns) d.nodes_are ∙ length-set w.nodes 0 (acts c.0 (Err orders.Halted) (λ m. coordinator_rules.depot m eui psk)).node

-- # Neighbours as the code has them

pub near_met : {w : World} {a b x y : ℕ} (there : IsThere w a x) (here : IsThere w b y) (cost : ℕ) → true ≡ takes_setup w
    → near network w a b cost ≡ near_by network w a b cost there.node here.node (node_address there.node) (node_address here.node)
near_met {w} {a} {b} there here cost takes = met w a b cost there.node here.node takes there.at here.at

-- the first has no address
pub near_first : {w : World} {a b x y : ℕ} (there : IsThere w a x) (here : IsThere w b y) (cost : ℕ) (p : Option ℕ) → true ≡ takes_setup w
    → IfSome (slice_get w.nodes x) (λ n. p ≡ node_address n) → p ≡ None → near network w a b cost ≡ Err faults.Setup
near_first {w} {a} {b} there here cost p takes at none =
    let is : node_address there.node ≡ None = sym (at_there there (λ n. p ≡ node_address n) at) ∙ none in
    near_met there here cost takes ∙ ap (λ (o : Option ℕ). near_by network w a b cost there.node here.node o (node_address here.node)) is

-- the second has none
pub near_second : {w : World} {a b x y : ℕ} (there : IsThere w a x) (here : IsThere w b y) (cost p : ℕ) (first second : Option ℕ) → true ≡ takes_setup w
    → IfSome (slice_get w.nodes x) (λ n. first ≡ node_address n) → first ≡ Some p → IfSome (slice_get w.nodes y) (λ n. second ≡ node_address n) → second ≡ None
    → near network w a b cost ≡ Err faults.Setup
near_second {w} {a} {b} there here cost p first second takes at_first is_first at_second is_second =
    let one : node_address there.node ≡ Some p = sym (at_there there (λ n. first ≡ node_address n) at_first) ∙ is_first in
    let two : node_address here.node ≡ None = sym (at_there here (λ n. second ≡ node_address n) at_second) ∙ is_second in
    near_met there here cost takes ∙ (λ i. near_by network w a b cost there.node here.node (one i) (two i))

-- Both have an address.
pub record HaveAddresses {w : World} {a b x y : ℕ} (there : IsThere w a x) (here : IsThere w b y) (p q : ℕ) : Type 0 where
  pub first : node_address there.node ≡ Some p
  pub second : node_address here.node ≡ Some q

pub have_addresses : {w : World} {a b x y : ℕ} (there : IsThere w a x) (here : IsThere w b y) (p q : ℕ) (first second : Option ℕ)
    → IfSome (slice_get w.nodes x) (λ n. first ≡ node_address n) → first ≡ Some p → IfSome (slice_get w.nodes y) (λ n. second ≡ node_address n)
    → second ≡ Some q
    → HaveAddresses there here p q
have_addresses there here p q first second at_first is_first at_second is_second = record {
  first = sym (at_there there (λ n. first ≡ node_address n) at_first) ∙ is_first;
  second = sym (at_there here (λ n. second ≡ node_address n) at_second) ∙ is_second;
}

near_when : {w : World} {a b x y : ℕ} (there : IsThere w a x) (here : IsThere w b y) (cost p q : ℕ) (same full : Bool) → true ≡ takes_setup w
    → HaveAddresses there here p q
    → (a == b) ≡ same → (keeps_rank there.node q || (ranks_full there.node || ranks_full here.node)) ≡ full
    → near network w a b cost ≡ (if same || full then Err faults.Setup
    else Ok (
      world_after network (world_after network (set_up w) a (offered_near there.node q cost w.clock)) b (offered_near here.node p cost w.clock),
      trace_of (happenings w answers.Set),
    ))
near_when {w} {a} {b} there here cost p q same full takes have s f =
    near_met there here cost takes ∙ (λ i. near_by network w a b cost there.node here.node (have.first i) (have.second i))
    ∙ (λ i. if s i || f i then Err faults.Setup
    else Ok (
      world_after network (world_after network (set_up w) a (offered_near there.node q cost w.clock)) b (offered_near here.node p cost w.clock),
      trace_of (happenings w answers.Set),
    ))

is_same : (a b : ℕ) → a ≡ b → (a == b) ≡ true
is_same a b is = grind (arith, nat_tests)

or_full : (b : Bool) → (b || true) ≡ true
or_full true = refl
or_full false = refl

pub near_itself : {w : World} {a b x y : ℕ} (there : IsThere w a x) (here : IsThere w b y) (cost p q : ℕ) → true ≡ takes_setup w → HaveAddresses there here p q
    → a ≡ b
    → near network w a b cost ≡ Err faults.Setup
near_itself {w} {a} {b} there here cost p q takes have same = near_when there here cost p q true _ takes have (is_same a b same) refl

-- whether they can meet, as the code found it
abbrev pub CanMeet : World → (x y to : ℕ) → Bool → Type 0
CanMeet w x y to r = IfSome (slice_get w.nodes x) (λ m. IfSome (slice_get w.nodes y) (λ n. r ≡ not (keeps_rank m to || (ranks_full m || ranks_full n))))

not_not : (b : Bool) → not (not b) ≡ b
not_not true = refl
not_not false = refl

full_is : {w : World} {a b x y : ℕ} (there : IsThere w a x) (here : IsThere w b y) (to : ℕ) (r : Bool) → CanMeet w x y to r
    → (keeps_rank there.node to || (ranks_full there.node || ranks_full here.node)) ≡ not r
full_is {w} {a} {b} {x} {y} there here to r can =
    let at : IfSome (slice_get w.nodes y) (λ n. r ≡ not (keeps_rank there.node to || (ranks_full there.node || ranks_full n))) =
    at_there there (λ m. IfSome (slice_get w.nodes y) (λ n. r ≡ not (keeps_rank m to || (ranks_full m || ranks_full n)))) can in
    let is : r ≡ not (keeps_rank there.node to || (ranks_full there.node || ranks_full here.node)) = at_there here
    (λ n. r ≡ not (keeps_rank there.node to || (ranks_full there.node || ranks_full n))) at in
    sym (not_not _) ∙ ap (λ (t : Bool). not t) (sym is)

pub near_full : {w : World} {a b x y : ℕ} (there : IsThere w a x) (here : IsThere w b y) (cost p q : ℕ) (r : Bool) → true ≡ takes_setup w
    → HaveAddresses there here p q
    → CanMeet w x y q r → r ≡ false → near network w a b cost ≡ Err faults.Setup
near_full {w} {a} {b} there here cost p q r takes have can is =
    near_when there here cost p q _ true takes have refl (full_is there here q r can ∙ ap (λ (t : Bool). not t) is)
    ∙ ap (λ (t : Bool). if t then Err faults.Setup
    else Ok (
      world_after network (world_after network (set_up w) a (offered_near there.node q cost w.clock)) b (offered_near here.node p cost w.clock),
      trace_of (happenings w answers.Set),
    ))
    (or_full (a == b))

pub near_done : {w : World} (new : World) {a b x y : ℕ} (there : IsThere w a x) (here : IsThere w b y) (cost p q : ℕ) (r : Bool)
    (one two : Result (Unit {0}) PresetFault) (between nodes : List Node)
    (h : Happenings) → IsBounded w → w.events < MAX_EVENTS → true ≡ takes_setup w → HaveAddresses there here p q → a ≢ b → CanMeet w x y q r → r ≡ true
    → IfSome (slice_get w.nodes x) (λ n. Did (acts n (Ok tt) (λ m. of_station m (calls.preset_near m.station q cost w.clock))) w.nodes x one nothing between)
    → IfSome (slice_get between y) (λ n. Did (acts n (Ok tt) (λ m. of_station m (calls.preset_near m.station p cost w.clock))) between y two nothing nodes)
    → h ≡ happenings w answers.Set → new ≡ record (set_up w) { nodes = nodes } → Steps false w (Ok h) new (near network w a b cost)
near_done {w} new {a} {b} {x} {y} there here cost p q r one two between nodes h bounds room takes have apart can is_true first second node_trace is =
    were_met w a b cost there.node here.node p q
    (record {
      takes = takes;
      first = there.at;
      second = here.at;
      other = λ e. apart (sym e);
      first_address = have.first;
      second_address = have.second;
      room = full_is there here q r can ∙ ap (λ (t : Bool). not t) is_true;
    })
    new one two between nodes h bounds room
    (subst (λ n. IfSome (slice_get w.nodes n)
    (λ k. Did (acts k (Ok tt) (λ m. of_station m (calls.preset_near m.station q cost w.clock))) w.nodes n one nothing between)) there.same first)
    (subst (λ n. IfSome (slice_get between n)
    (λ k. Did (acts k (Ok tt) (λ m. of_station m (calls.preset_near m.station p cost w.clock))) between n two nothing nodes)) here.same second)
    node_trace is

pub near_long : {w : World} {a x : ℕ} (there : IsThere w a x) (cost to : ℕ) (one : Result (Unit {0}) PresetFault) (between : List Node)
    → IfSome (slice_get w.nodes x) (λ n. Did (acts n (Ok tt) (λ m. of_station m (calls.preset_near m.station to cost w.clock))) w.nodes x one nothing between)
    → length between ≡ length w.nodes
near_long {w} {a} {x} there cost to one between first =
    let step : Node → NodeStep (Result (Unit {0}) PresetFault) = λ n. acts n (Ok tt) (λ m. of_station m (calls.preset_near m.station to cost w.clock)) in
    let d : Did (step there.node) w.nodes x one nothing between = at_there there (λ n. Did (step n) w.nodes x one nothing between) first in
    ap (λ (ns : List Node). length ns) d.nodes_are ∙ length-set w.nodes x (step there.node).node
