-- The account of ranks of what one node does: a call, time, a new start, and a node that is new.
use Rattle.std.proofs.Common.{◌≡◌, ◌⊎◌, inl, inr, ⊎_elim, ℕ, Bool, true, false, cond, List, [], ◌∷◌, map, Option, Some, None, Result, Ok, Err, refl, sym, ap}
use Rattle.std.proofs.Common.{◌∙◌, subst}
use Rattle.std.specs.Prelude.{All, IfSome, ◌==◌}
use Rattle.std.specs.List.{find}
use Rattle.std.specs.Option.{option_map, option_map_or, option_and_then}
use Rattle.std.specs.FinMap.{get, empty}
use Rattle.std.proofs.lemmas.Option.{same_Some, none-some}
use Rattle.std.proofs.lemmas.List.Elements.{All-nil}
use Rattle.plc_base.specs.Keeper.{Records}
use Rattle.store_tables.specs.SlotTables as slots
use Rattle.plc_base.specs.declared.keeper.BadStore.{BadStore}
use Rattle.plc_base.specs.declared.address.Eui.{Eui}
use Rattle.plc_base.specs.declared.key.Key.{Key}
use Rattle.frame_counters.specs.SendCounter as counter
use Rattle.frame_counters.specs.PeerMarks as marks
use Rattle.group_keys.specs.KeyRing as ring
use Rattle.group_keys.specs.KeyBook as book
use Rattle.routing_set.specs.declared.rank.Rank.{Rank}
use Rattle.routing_set.specs.declared.entry.Route.{Route}
use Rattle.routing_set.specs.declared.entry.RoutingEntry.{RoutingEntry}
use Rattle.routing_set.specs.RoutingSet as routing
use Rattle.routing_set.specs.OwnNumber as own_number
use Rattle.routing_set.proofs.Histories.{opened_again}
use Rattle.routing_set.proofs.LookUps.{is_at}
use Rattle.routing_set.proofs.RisingRanks.{route-by, ended_routes}
use Rattle.node_rules.specs.Frames.{Sent}
use Rattle.node_rules.specs.Memory.{StationMemory, Memory, Node, Role, Coordinator, Meter, address_of}
use Rattle.node_rules.specs.Plans.{Plan, carry_out}
use Rattle.node_rules.specs.RestartStates.{memory_of, station_of, remembering, reading, tag_in, blank_routing, first_grant}
use Rattle.node_rules.specs.Drafts.{tag_slot}
use Rattle.node_rules.specs.Laws.{IsWhole, IsCutOff}
use Rattle.node_rules.specs.NodeSteps.{NodeStep, acts, stays, left_by}
use Rattle.line_rules.specs.Steps.{restarts, memory_by, ticked, blank_node, coordinator_node}
use Rattle.node_rules.specs.Coordinators as coordinator_rules
use Rattle.node_rules.proofs.FailedWrites.{clean}
use Rattle.line_laws.specs.Stores.{IsKept}
use Rattle.line_laws.specs.Sizes.{IsMemorySized}
use Rattle.line_laws.proofs.KeptMemory.{Left}
use Rattle.line_laws.proofs.Nodes.{NodeOk}
use Rattle.line_laws.proofs.NodesOk.{blank_ok, blank_kept}
use Rattle.line_laws.proofs.RankPlans.{rank_read, NodeCause, Stood, Came, NodeRanks, acts_ranks}
use Rattle.line_laws.proofs.RankCalls.{begin_ranks}
use Rattle.line_laws.proofs.RankSaid.{FrameBacked}
use Rattle.line_laws.specs.Loops.{ranks_in, stored}
use Rattle.line_laws.specs.Ranked.{via}

-- # Calls

-- what holds of the frames of a plan holds of those that go out
pub acts_frames : {A : Type 0} (P : Sent → Type 0) (x : Node) (halted : A) (plan : Memory → Plan Memory A) → NodeOk x
    → ((m : Memory) → x.memory ≡ Some m → IsKept x.role m x.store.records → IsMemorySized m → All P (plan m).frames) → All P (acts x halted plan).frames
unfolding acts
acts_frames {A = A} P x halted plan ok f = by_memory x.memory refl ok.kept ok.sized
  where
    by_plan : (m : Memory) → All P (plan m).frames → All P (carry_out x.store.records x.store.cut (plan m)).frames
    by_plan m all = ⊎_elim
        (λ (w : IsWhole x.store.records x.store.cut (plan m) (carry_out x.store.records x.store.cut (plan m))). rw w.frames all)
        (λ (c : IsCutOff x.store.records x.store.cut (plan m) (carry_out x.store.records x.store.cut (plan m))). rw c.frames (All-nil P))
        (clean x.store.records x.store.cut (plan m))

    by_memory : (o : Option Memory) → x.memory ≡ o → Left (IsKept x.role) x.store.records o → IfSome o IsMemorySized
        → let d : NodeStep A = option_map_or (λ m. left_by x (carry_out x.store.records x.store.cut (plan m))) o (stays x halted) in All P d.frames
    by_memory None e kept sized = All-nil P
    by_memory (Some m) e kept sized = by_plan m (f m e kept sized)

-- the memory that a call leaves is its plan's
pub acts_memory : {A : Type 0} (P : Memory → Type 0) (x : Node) (halted : A) (plan : Memory → Plan Memory A)
    → ((m : Memory) → x.memory ≡ Some m → P (plan m).memory)
    → (n : Memory) → (acts x halted plan).node.memory ≡ Some n → P n
unfolding acts
acts_memory {A = A} P x halted plan f n = by_memory x.memory refl
  where
    by_plan : (m : Memory) → x.memory ≡ Some m → (carry_out x.store.records x.store.cut (plan m)).memory ≡ Some n → P n
    by_plan m there e = ⊎_elim
        (λ (w : IsWhole x.store.records x.store.cut (plan m) (carry_out x.store.records x.store.cut (plan m))). subst P (same_Some _ _ (sym w.memory ∙ e))
        (f m there))
        (λ (c : IsCutOff x.store.records x.store.cut (plan m) (carry_out x.store.records x.store.cut (plan m))). absurd (none-some n (sym c.memory ∙ e)))
        (clean x.store.records x.store.cut (plan m))

    by_memory : (o : Option Memory) → x.memory ≡ o
        → let d : NodeStep A = option_map_or (λ m. left_by x (carry_out x.store.records x.store.cut (plan m))) o (stays x halted) in d.node.memory ≡ Some n
        → P n
    by_memory None e k = absurd (none-some n (sym e ∙ k))
    by_memory (Some m) e k = by_plan m e k

-- # The same store

module _ (At Own : ℕ → Type 0) (C : ℕ → ℕ → Rank → Type 0) where
  -- a node with the same records, of whose routes some have ended
  pub same_store : (x y : Node) → y.store.records ≡ x.store.records → ((dest next : ℕ) → via y dest ≡ Some next → via x dest ≡ Some next)
      → NodeRanks At Own C x y []
  same_store x y e still = record {
    above = λ dest. inl (ap (λ r. routing.held (ranks_in r) dest) e);
    not_own = λ dest own none. ap (λ r. routing.rank_of (ranks_in r) dest) e ∙ none;
    routes = λ dest next k. Stood (still dest next k) (ap (λ r. routing.rank_of (ranks_in r) dest) e);
    backed = All-nil (FrameBacked At (stored y));
  }

  -- # Time

  expired_next : (t : routing.Routing) (now dest next : ℕ) → routing.next_of (routing.expired t now) dest ≡ Some next → routing.next_of t dest ≡ Some next
  expired_next t now dest next e = by_route (ended_routes (routing.is_old now) t dest)
    where
      by_route : (routing.route_of (routing.expired t now) dest ≡ routing.route_of t dest) ⊎ (routing.route_of (routing.expired t now) dest ≡ None)
          → routing.next_of t dest ≡ Some next
      by_route (inl same) = sym (ap (option_map (λ (r : Route). r.next)) same) ∙ e
      by_route (inr none) = absurd (none-some next (sym (ap (option_map (λ (r : Route). r.next)) none) ∙ e))

  pub ticked_ranks : (now : ℕ) (x : Node) → NodeRanks At Own C x (ticked now x) []
  unfolding via
  ticked_ranks now x = same_store x (ticked now x) refl (λ dest next e. by_role x.role x.memory dest next e)
    where
      by_role : (role : Role) (o : Option Memory) (dest next : ℕ)
          → via (ticked now (record { role = role; eui = x.eui; store = x.store; memory = o })) dest ≡ Some next
          → via (record { role = role; eui = x.eui; store = x.store; memory = o }) dest ≡ Some next
      by_role Coordinator None dest next e = e
      by_role (Meter psk) None dest next e = e
      by_role Coordinator (Some m) dest next e = expired_next m.station.routing now dest next e
      by_role (Meter psk) (Some m) dest next e = expired_next m.station.routing now dest next e

  -- # A new start

  rested_found : (entries : List RoutingEntry) (dest : ℕ)
      → option_and_then (λ (e : RoutingEntry). e.route) (find (is_at dest) (map routing.without_route entries)) ≡ None
  rested_found [] dest = refl
  rested_found (e ∷ entries) dest = by_here (e.address == dest) (rested_found entries dest)
    where
      by_here : (b : Bool) → option_and_then (λ (x : RoutingEntry). x.route) (find (is_at dest) (map routing.without_route entries)) ≡ None
          → option_and_then (λ (x : RoutingEntry). x.route) (cond b (Some (routing.without_route e)) (find (is_at dest) (map routing.without_route entries)))
          ≡ None
      by_here true h = refl
      by_here false h = h

  rested_route : (t : routing.Routing) (dest : ℕ) → routing.next_of (routing.at_rest t) dest ≡ None
  rested_route t dest = ap (option_map (λ (r : Route). r.next)) (route-by (routing.at_rest t) dest ∙ rested_found t.entries dest)

  opened_station : (r : Records) (t : routing.Routing) → routing.opened r ≡ Ok t → (l : StationMemory) → station_of r ≡ Ok l → l.routing ≡ t
  unfolding station_of
  opened_station r t is l = by_ring (ring.opened r)
    where
      not_ok : (bad : BadStore) → Err bad ≡ Ok l → ⊥
      not_ok bad e = cc

      by_marks : (a : ring.Ring) (b : counter.Counting) (c : own_number.Numbering) (tag : ℕ) (m : Result marks.Table BadStore)
          → reading m (λ m. Ok (record { ring = a; counter = b; marks = m; routing = t; own_number = c; next_tag = tag; reassemblies = []; waiting = [] }))
          ≡ Ok l → l.routing ≡ t
      by_marks a b c tag (Err bad) e = absurd (not_ok bad e)
      by_marks a b c tag (Ok m) e = cc

      by_routing : (a : ring.Ring) (b : counter.Counting) (c : own_number.Numbering) (tag : ℕ) (o : Result routing.Routing BadStore) → o ≡ Ok t
          → reading o (λ s. reading (slots.opened marks.peers r) (λ m. Ok
          (record { ring = a; counter = b; marks = m; routing = s; own_number = c; next_tag = tag; reassemblies = []; waiting = [] }))) ≡ Ok l → l.routing ≡ t
      by_routing a b c tag (Err bad) k e = absurd (not_ok bad e)
      by_routing a b c tag (Ok s) k e =
          let same : s ≡ t = cc in
          by_marks a b c tag (slots.opened marks.peers r) (subst (λ (v : routing.Routing). reading (slots.opened marks.peers r)
          (λ m. Ok (record { ring = a; counter = b; marks = m; routing = v; own_number = c; next_tag = tag; reassemblies = []; waiting = [] })) ≡ Ok l) same e)

      by_tag : (a : ring.Ring) (b : counter.Counting) (c : own_number.Numbering) (o : Result ℕ BadStore)
          → reading o (λ tag. reading (routing.opened r) (λ s. reading (slots.opened marks.peers r)
          (λ m. Ok (record { ring = a; counter = b; marks = m; routing = s; own_number = c; next_tag = tag; reassemblies = []; waiting = [] })))) ≡ Ok l
          → l.routing ≡ t
      by_tag a b c (Err bad) e = absurd (not_ok bad e)
      by_tag a b c (Ok tag) e = by_routing a b c tag (routing.opened r) is e

      by_number : (a : ring.Ring) (b : counter.Counting) (o : Result own_number.Numbering BadStore)
          → reading o (λ c. reading (tag_in (get r tag_slot)) (λ tag. reading (routing.opened r)
          (λ s. reading (slots.opened marks.peers r) (λ m. Ok (record {
            ring = a;
            counter = b;
            marks = m;
            routing = s;
            own_number = c;
            next_tag = tag;
            reassemblies = [];
            waiting = [];
          }))))) ≡ Ok l → l.routing ≡ t
      by_number a b (Err bad) e = absurd (not_ok bad e)
      by_number a b (Ok c) e = by_tag a b c (tag_in (get r tag_slot)) e

      by_counter : (a : ring.Ring) (o : Result counter.Counting BadStore)
          → reading o (λ b. reading (own_number.opened r) (λ c. reading (tag_in (get r tag_slot))
          (λ tag. reading (routing.opened r) (λ s. reading (slots.opened marks.peers r)
          (λ m. Ok (record { ring = a; counter = b; marks = m; routing = s; own_number = c; next_tag = tag; reassemblies = []; waiting = [] })))))) ≡ Ok l
          → l.routing ≡ t
      by_counter a (Err bad) e = absurd (not_ok bad e)
      by_counter a (Ok b) e = by_number a b (own_number.opened r) e

      by_ring : (o : Result ring.Ring BadStore)
          → reading o (λ a. reading (counter.opened r) (λ b. reading (own_number.opened r)
          (λ c. reading (tag_in (get r tag_slot)) (λ tag. reading (routing.opened r)
          (λ s. reading (slots.opened marks.peers r) (λ m. Ok (record {
            ring = a;
            counter = b;
            marks = m;
            routing = s;
            own_number = c;
            next_tag = tag;
            reassemblies = [];
            waiting = [];
          }))))))) ≡ Ok l → l.routing ≡ t
      by_ring (Err bad) e = absurd (not_ok bad e)
      by_ring (Ok a) e = by_counter a (counter.opened r) e

  memory_station : (role : Role) (r : Records) (t : routing.Routing) → routing.opened r ≡ Ok t → (n : Memory) → memory_of role r ≡ Ok n → n.station.routing ≡ t
  memory_station (Meter psk) r t is n e = by_station (station_of r) refl e
    where
      by_station : (o : Result StationMemory BadStore) → station_of r ≡ o → reading o (λ l. Ok (remembering l [])) ≡ Ok n → n.station.routing ≡ t
      by_station (Err bad) k e = absurd (cc)
      by_station (Ok l) k e = let same : remembering l [] ≡ n = cc in ap (λ (m : Memory). m.station.routing) (sym same) ∙ opened_station r t is l k
  memory_station Coordinator r t is n e = by_station (station_of r) refl e
    where
      by_book : (l : StationMemory) (o : Result book.Book BadStore) → station_of r ≡ Ok l → reading o (λ b. Ok (remembering l b)) ≡ Ok n → n.station.routing ≡ t
      by_book l (Err bad) k e = absurd (cc)
      by_book l (Ok b) k e = let same : remembering l b ≡ n = cc in ap (λ (m : Memory). m.station.routing) (sym same) ∙ opened_station r t is l k

      by_station : (o : Result StationMemory BadStore) → station_of r ≡ o
          → reading o (λ l. reading (slots.opened book.entries r) (λ b. Ok (remembering l b))) ≡ Ok n → n.station.routing ≡ t
      by_station (Err bad) k e = absurd (cc)
      by_station (Ok l) k e = by_book l (slots.opened book.entries r) k e

  left_routing : (role : Role) (r : Records) (o : Option Memory) → Left (IsKept role) r o → (t : routing.Routing) × (routing.opened r ≡ Ok (routing.at_rest t))
  left_routing role r None k = (k.memory.station.routing, opened_again k.memory.station.routing r k.kept.station.range.routing.entries k.kept.station.routing)
  left_routing role r (Some m) k = (m.station.routing, opened_again m.station.routing r k.station.range.routing.entries k.station.routing)

  -- a node that restarts has no valid route
  pub restarted_none : (x : Node) → NodeOk x → (dest next : ℕ) → via (restarts x).node dest ≡ Some next → ⊥
  unfolding via
  restarted_none x ok dest next e = no_route dest next (memory_of x.role x.store.records) refl e
    where
      no_route : (dest next : ℕ) (o : Result Memory BadStore) → memory_of x.role x.store.records ≡ o
          → option_and_then (λ (m : Memory). routing.next_of m.station.routing dest) (memory_by o) ≡ Some next → ⊥
      no_route dest next (Err bad) is e = none-some next e
      no_route dest next (Ok n) is e =
          let t = left_routing x.role x.store.records x.memory ok.kept in
          let same = memory_station x.role x.store.records (routing.at_rest t.0) t.1 n is in
          none-some next (sym (rested_route t.0 dest) ∙ ap (λ s. routing.next_of s dest) (sym same) ∙ e)

  pub restarted_ranks : (x : Node) → NodeOk x → NodeRanks At Own C x (restarts x).node []
  restarted_ranks x ok = same_store x (restarts x).node refl (λ dest next e. absurd (restarted_none x ok dest next e))

-- # A new node

pub blank_ranks : (role : Role) (eui : Eui) (dest : ℕ) → routing.rank_of (stored (blank_node role eui)) dest ≡ None
unfolding routing.rank_of
blank_ranks role eui dest =
    rank_read blank_routing empty blank_kept.range.routing blank_kept.routing dest

pub blank_routes : (role : Role) (eui : Eui) (dest next : ℕ) → via (blank_node role eui) dest ≡ Some next → ⊥
unfolding via routing.route_of
blank_routes role eui dest next e = none-some next e

abbrev Every : ℕ → Type 0
Every address = Unit {0}

abbrev Nobody : ℕ → ℕ → Rank → Type 0
Nobody by origin rank = ⊥

begun_ranks : (eui : Eui) (key : Key) → NodeRanks Every Every Nobody (blank_node Coordinator eui) (coordinator_node eui key)
    (acts (blank_node Coordinator eui) (Ok tt) (λ m. coordinator_rules.begin m (first_grant key))).frames
begun_ranks eui key =
    acts_ranks Every Every Nobody (blank_node Coordinator eui) (Ok tt) (λ m. coordinator_rules.begin m (first_grant key)) (blank_ok Coordinator eui tt)
    (λ m there kept. begin_ranks Every Every Nobody m (by_address (address_of m.station)) key tt)
  where
    by_address : (o : Option ℕ) → IfSome o Every
    by_address None = tt
    by_address (Some a) = tt

pub coordinator_ranks : (eui : Eui) (key : Key) (dest : ℕ) → routing.rank_of (stored (coordinator_node eui key)) dest ≡ None
coordinator_ranks eui key dest = (begun_ranks eui key).not_own dest tt (blank_ranks Coordinator eui dest)

pub coordinator_routes : (eui : Eui) (key : Key) (dest next : ℕ) → via (coordinator_node eui key) dest ≡ Some next → ⊥
coordinator_routes eui key dest next e = by_cause ((begun_ranks eui key).routes dest next e)
  where
    by_cause : NodeCause Nobody (blank_node Coordinator eui) (coordinator_node eui key) dest next → ⊥
    by_cause (Stood e k) = blank_routes Coordinator eui dest next e
    by_cause (Came rank e c) = c
