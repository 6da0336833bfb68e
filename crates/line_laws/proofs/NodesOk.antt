-- What a node does by itself, and a new node, is as a line needs it.
use Rattle.std.proofs.Common.{◌≡◌, ℕ, zero, suc, ◌+◌, ◌≤◌, ◌<◌, ◌^◌, Bool, true, false, not, [], length, Option, Some}
use Rattle.std.proofs.Common.{None, refl, sym, ap, subst, arith}
use Rattle.std.specs.Prelude.{IfSome, nat_lt, replicate, get_or}
use Rattle.std.specs.List.{filter}
use Rattle.std.specs.Option.{option_map}
use Rattle.std.specs.Ordering.{nat_cmp}
use Rattle.std.specs.FinMap.{empty, get-empty}
use Rattle.std.proofs.lemmas.List.Elements.{All-nil, All-filter}
use Rattle.plc_base.specs.Keeper.{Records}
use Rattle.store_tables.specs.SlotTables as slots
use Rattle.plc_base.specs.declared.address.Eui.{Eui}
use Rattle.plc_base.specs.declared.key.Key.{Key}
use Rattle.frame_counters.specs.SendCounter as counter
use Rattle.frame_counters.specs.PeerMarks as marks
use Rattle.group_keys.specs.KeyRing as ring
use Rattle.group_keys.specs.KeyBook as book
use Rattle.routing_set.specs.RoutingSet as routing
use Rattle.routing_set.specs.OwnNumber as own_number
use Rattle.fragment_buffers.specs.PieceIntake as pieces
use Rattle.fragment_buffers.specs.Reassembly.{Reassembly}
use Rattle.std.proofs.lemmas.List.Filters.{length-filter_both, sum_by-filter_both}
use Rattle.node_rules.specs.Memory.{StationMemory, Body, Memory, Role, Coordinator, Meter, CoordinatorSession, Node}
use Rattle.node_rules.specs.Plans.{Plan, resting}
use Rattle.node_rules.specs.Calls as calls
use Rattle.node_rules.specs.Meters as meters
use Rattle.node_rules.specs.Coordinators as coordinator_rules
use Rattle.node_rules.specs.RestartStates.{blank_station, blank_routing, tag_in}
use Rattle.node_rules.specs.Laws.{IsShort}
use Rattle.line_rules.specs.Steps.{blank_node, restarts, memory_by, ticked}
use Rattle.node_rules.specs.NodeSteps.{NodeStep, acts, answering}
use Rattle.line_laws.specs.Stores.{IsStationKept, BookKept, IsNamed, IsKept}
use Rattle.line_laws.specs.Sizes.{IsAnyLoad, IsStationSized, IsMemorySized}
use Rattle.line_laws.specs.Owed.{AreOctets}
use Rattle.line_laws.proofs.KeptMemory.{Left, leads_beside}
use Rattle.line_laws.proofs.StoreFold.{ended_kept, beside_kept}
use Rattle.line_laws.proofs.SizeFold.{stays_sized}
use Rattle.line_laws.proofs.Restarts.{Again, again}
use Rattle.line_laws.proofs.Nodes.{PlanOk, NodeOk, DidOk, acts_ok}
use Rattle.line_laws.specs.Live.{marks_of}
use Rattle.line_laws.proofs.MarkOrder.{Raised}
use Rattle.line_laws.proofs.MarkWrites.{away_leads}
use Rattle.line_laws.proofs.MarkNodes.{AreCovered, marks_held, restart_raised}
use Rattle.line_laws.proofs.Frontiers.{next_of, frontier, same_low}
use Rattle.frame_counters.proofs.Limits.{stored_limit-kept}
use Rattle.fragment_buffers.specs.declared.times.TheConstants.{REASSEMBLY_TIME, WAITING_TIME}
use Rattle.node_rules.specs.declared.session_time.TheConstants.{SESSION_TIME}

-- # What a node does by itself

pub answering_ok : {A B : Type 0} (x : Node) (reads : A → B) (d : NodeStep A) → DidOk x d → DidOk x (answering reads d)
answering_ok x reads d h = record { node = h.node; role = h.role; eui = h.eui; few = h.few; rises = h.rises; from = h.from; marked = h.marked }

-- a plan of the coordinator, at node 0
pub coordinator_acts : {A : Type 0} (x : Node) (halted : A) (plan : Memory → Plan Memory A) → x.role ≡ Coordinator → NodeOk x
    → ((m : Memory) → IsMemorySized m → PlanOk Coordinator m (plan m)) → DidOk x (acts x halted plan)
coordinator_acts x halted plan is ok f = acts_ok x halted plan ok (λ m there kept sized. subst (λ r. PlanOk r m (plan m)) (sym is) (f m sized))

-- what a restart gives
pub read_again : (role : Role) (r : Records) (o : Option Memory) → Left (IsKept role) r o → Again role r
read_again role r None k = again role k.memory r k.kept
read_again role r (Some m) k = again role m r k

-- a restart goes on from the limit
frontier_low : (role : Role) (r : Records) (o : Option Memory) → Left (IsKept role) r o → next_of o r ≤ counter.stored_limit r
frontier_low role r None k = same_low (counter.stored_limit r)
frontier_low role r (Some m) k = let e = stored_limit-kept m.station.counter r k.station.counter in let below = k.station.counter.below in omega arith

pub restarts_ok : (x : Node) → NodeOk x → DidOk x (restarts x)
restarts_ok x ok =
    let a = read_again x.role x.store.records x.memory ok.kept in
    let low = frontier_low x.role x.store.records x.memory ok.kept in
    let next = a.next in
    let rises : next_of x.memory x.store.records ≤ a.memory.station.counter.next = omega arith in
    record {
      node = record {
        kept = subst (λ o. Left (IsKept x.role) x.store.records (memory_by o)) (sym a.is) a.kept;
        sized = subst (λ o. IfSome (memory_by o) IsMemorySized) (sym a.is) a.sized;
        covered = subst (λ o. AreCovered (memory_by o)) (sym a.is) a.covered;
      };
      role = refl;
      eui = refl;
      few = omega arith;
      rises = subst (λ o. next_of x.memory x.store.records ≤ next_of (memory_by o) x.store.records) (sym a.is) rises;
      from = tt;
      marked = subst (λ o. Raised (marks_of x) (marks_held x.role x.store.records (memory_by o))) (sym a.is)
          (restart_raised x.role x.store.records x.memory a ok.kept ok.covered);
    }

-- time
tick_station_kept : (now : ℕ) (l : StationMemory) (r : Records) → IsStationKept l r → IsStationKept (calls.tick now l) r
tick_station_kept now l r k = beside_kept _ _ r (ended_kept l r (routing.is_old now) k) refl refl refl refl refl refl

tick_station_sized : (now : ℕ) (l : StationMemory) → IsStationSized l → IsStationSized (calls.tick now l)
unfolding pieces.unexpired
tick_station_sized now l h =
    let young : Reassembly → Bool = λ r. nat_lt now (r.since + REASSEMBLY_TIME) in
    let count : length (filter young l.reassemblies) + length (filter (λ r. not (young r)) l.reassemblies)
    ≡ length l.reassemblies = length-filter_both young (λ r. not (young r)) (λ r. refl) l.reassemblies in
    let sum : pieces.blocks_held (filter young l.reassemblies) + pieces.blocks_held (filter (λ r. not (young r)) l.reassemblies)
    ≡ pieces.blocks_held l.reassemblies
    = sum_by-filter_both young (λ r. not (young r)) (λ r. refl) (λ (r : Reassembly). pieces.blocks r.size) l.reassemblies in
    let few = h.reassemblies.0 in
    let low = h.reassemblies.1 in
    let w = stays_sized l (λ (b : Body). calls.is_within WAITING_TIME now b.since) h in
    record {
      reassemblies = (omega arith, omega arith);
      waiting = record { bodies = w.waiting.bodies; blocks = w.waiting.blocks; datagrams = w.waiting.datagrams };
      loads = w.loads;
      tag = w.tag;
    }

tick_meter : (now : ℕ) (psk : Key) (m : Memory) (r : Records) → IsKept (Meter psk) m r → IsMemorySized m
    → IsKept (Meter psk) (meters.tick now m) r × IsMemorySized (meters.tick now m)
tick_meter now psk m r k h = (
  record { station = tick_station_kept now m.station r k.station; book = k.book; sessions = k.sessions },
  record { station = tick_station_sized now m.station h.station; sessions = h.sessions; randoms = h.randoms },
)

tick_coordinator : (now : ℕ) (m : Memory) (r : Records) → IsKept Coordinator m r → IsMemorySized m
    → IsKept Coordinator (coordinator_rules.tick now m) r × IsMemorySized (coordinator_rules.tick now m)
tick_coordinator now m r k h =
    let young : CoordinatorSession → Bool = λ s. calls.is_within SESSION_TIME now s.since in
    let count : length (filter young m.sessions) + length (filter (λ s. not (young s)) m.sessions)
    ≡ length m.sessions = length-filter_both young (λ s. not (young s)) (λ s. refl) m.sessions in
    let few = h.sessions in (
      record {
        station = tick_station_kept now m.station r k.station;
        book = k.book;
        sessions = All-filter (λ (s : CoordinatorSession). calls.is_within SESSION_TIME now s.since) IsNamed m.sessions k.sessions;
      },
      record { station = tick_station_sized now m.station h.station; sessions = omega arith; randoms = h.randoms },
    )

pub ticked_ok : (now : ℕ) (x : Node) → NodeOk x → NodeOk (ticked now x)
ticked_ok now x ok = by_role x.role x.memory ok.kept ok.sized ok.covered
  where
    by_role : (role : Role) (o : Option Memory) → Left (IsKept role) x.store.records o → IfSome o IsMemorySized → AreCovered o
        → NodeOk (ticked now (record { role = role; eui = x.eui; store = x.store; memory = o }))
    by_role Coordinator None k h c = record { kept = k; sized = tt; covered = tt }
    by_role (Meter psk) None k h c = record { kept = k; sized = tt; covered = tt }
    by_role Coordinator (Some m) k h c = let t = tick_coordinator now m x.store.records k h in record { kept = t.0; sized = t.1; covered = c }
    by_role (Meter psk) (Some m) k h c = let t = tick_meter now psk m x.store.records k h in record { kept = t.0; sized = t.1; covered = c }

pub resting_ok : {A : Type 0} (role : Role) (m : Memory) → IsMemorySized m → (answer failed : A) → PlanOk role m (resting m answer failed)
unfolding resting
resting_ok role m h answer failed = record {
  leads = leads_beside (IsKept role) m m (λ r k. k);
  sized = h;
  few = omega arith;
  rises = λ fits. record { high = tt; with_own_number = omega arith };
  from = tt;
  marked = λ first. away_leads first m m [] tt refl;
}

-- # A new node

none_table : {A : Type 0} (layout : slots.Layout A) → slots.IsTable layout []
none_table layout = record { distinct = λ i j d lt inside. absurd (omega arith); short = omega arith }

none_stored : {A : Type 0} (layout : slots.Layout A) → slots.IsStored layout [] empty
none_stored layout = record { short = omega arith; each = λ place within. ap (option_map (layout.read place)) (get-empty nat_cmp (slots.slot_of layout place)) }

zeros_low : (n k : ℕ) → get_or (replicate n 0) k 0 < 2 ^ 16
zeros_low zero k = omega arith
zeros_low (suc n) zero = omega arith
zeros_low (suc n) (suc k) = zeros_low n k

zero_floors : (class : ℕ) → get_or blank_routing.floors class 0 < 2 ^ 16
zero_floors class = zeros_low 16 class

pub blank_kept : IsStationKept blank_station empty
unfolding routing.floors_in
blank_kept = record {
  range = record {
    ring = tt;
    counter = omega arith;
    number = (omega arith, omega arith);
    tag = omega arith;
    routing = record { entries = none_table routing.ranks; sixteen = refl };
    floors = zero_floors;
    ranks = All-nil _;
    marks = none_table marks.peers;
  };
  ring = record { stored = ap ring.ring_at (get-empty nat_cmp 1) };
  counter = record { limit = ap counter.limit_in (get-empty nat_cmp 2); below = omega arith };
  number = record { limit = ap own_number.limit_in (get-empty nat_cmp 3); below = omega arith };
  tag = ap tag_in (get-empty nat_cmp 4);
  routing = record { floors = ap routing.floors_in (get-empty nat_cmp 5); ranks = none_stored routing.ranks };
  marks = none_stored marks.peers;
}

-- the pair key of a role is octets
abbrev pub PairOctets : Role → Type 0
PairOctets Coordinator = Unit {0}
PairOctets (Meter psk) = AreOctets psk.0

pub blank_ok : (role : Role) (eui : Eui) → PairOctets role → NodeOk (blank_node role eui)
blank_ok role eui pair = record {
  kept = record { station = blank_kept; book = by_role role pair; sessions = All-nil IsNamed };
  sized = record {
    station = record {
      reassemblies = (omega arith, omega arith);
      waiting = record { bodies = omega arith; blocks = omega arith; datagrams = All-nil (λ (b : Body). IsShort b.load) };
      loads = All-nil (λ (b : Body). IsAnyLoad b.load);
      tag = omega arith;
    };
    sessions = omega arith;
    randoms = omega arith;
  };
  covered = All-nil _;
}
  where
    by_role : (role : Role) → PairOctets role → BookKept role [] empty
    by_role Coordinator pair = record { table = none_table book.entries; each = All-nil _; stored = none_stored book.entries }
    by_role (Meter psk) pair = (refl, pair)

pub ticked_frontier : (now : ℕ) (x : Node) → frontier (ticked now x) ≡ frontier x
ticked_frontier now x = by_role x.role x.memory
  where
    by_role : (role : Role) (o : Option Memory)
        → frontier (ticked now (record { role = role; eui = x.eui; store = x.store; memory = o })) ≡ next_of o x.store.records
    by_role Coordinator None = refl
    by_role (Meter psk) None = refl
    by_role Coordinator (Some m) = refl
    by_role (Meter psk) (Some m) = refl

pub true_false : true ≡ false → ⊥
true_false e = cc
