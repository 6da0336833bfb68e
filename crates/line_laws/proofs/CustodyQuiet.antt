-- Events that bring no datagram keep custody: restarts, links that break, joining, leaving, random values and orders.
use Rattle.std.proofs.Common.{◌≡◌, ℕ, ◌<◌, [], Result, Ok, Err, refl, arith}
use Rattle.plc_base.specs.Keeper.{Records}
use Rattle.plc_base.specs.declared.address.Eui.{Eui}
use Rattle.plc_base.specs.declared.key.Key.{Key}
use Rattle.plc_base.specs.declared.key.RandomOctets.{RandomOctets}
use Rattle.plc_base.specs.declared.keeper.BadStore.{BadStore}
use Rattle.line_events.specs.declared.event.Answer.{Answer}
use Rattle.node_rules.specs.Memory.{StationMemory, Memory, Node, Role, Coordinator, Meter}
use Rattle.node_rules.specs.Plans.{resting}
use Rattle.node_rules.specs.Calls as calls
use Rattle.node_rules.specs.Meters as meters
use Rattle.node_rules.specs.Coordinators as coordinators
use Rattle.node_rules.specs.MemoryDrafts.{with_station, give_random, given_ends}
use Rattle.std.specs.FinMap.{get}
use Rattle.store_tables.specs.SlotTables as slots
use Rattle.frame_counters.specs.SendCounter as counter
use Rattle.frame_counters.specs.PeerMarks as marks
use Rattle.group_keys.specs.KeyRing as ring
use Rattle.group_keys.specs.KeyBook as book
use Rattle.routing_set.specs.RoutingSet as routing
use Rattle.routing_set.specs.OwnNumber as own_number
use Rattle.node_rules.specs.Drafts.{tag_slot}
use Rattle.node_rules.specs.RestartStates.{tag_in, reading, station_of, memory_of, remembering}
use Rattle.line_rules.specs.Steps.{restarts, memory_by}
use Rattle.line_laws.specs.Custody.{keeps}
use Rattle.line_laws.specs.Places.{node_keeps}
use Rattle.line_laws.proofs.Made.{RingWord}
use Rattle.line_laws.proofs.MeterForms.{RingCause, joins_is, leaves_is}
use Rattle.line_laws.proofs.CoordinatorForms as coordinator
use Rattle.line_laws.proofs.CallForms as forms
use Rattle.line_laws.proofs.NodeCalls.{NoGrant, NoPair, NoEui, NoWord, call_given, no_some}
use Rattle.line_laws.proofs.CustodyPlans.{BringsIn, up_by, BodiesKept, plan_kept, DidKeep}
use Rattle.line_laws.proofs.CustodyCalls.{SaysNoDatagram, meter_says, coordinator_says, CoordinatorWord, Says, Draws, Activates, AnyEui, AnyPair}

-- # Restarts

module _ (n i : ℕ) where
  -- nothing waits and nothing is gathered where a store was read
  abbrev Empty : {A : Type 0} → (A → ℕ) → Result A BadStore → Type 0
  Empty f (Ok a) = f a ≡ 0
  Empty f (Err bad) = Unit {0}

  station_empty : (records : Records) → Empty (keeps n i) (station_of records)
  unfolding station_of
  station_empty records = by_parts (ring.opened records) (counter.opened records) (own_number.opened records) (tag_in (get records tag_slot))
      (routing.opened records) (slots.opened marks.peers records)
    where
      by_parts : (a : Result ring.Ring BadStore) (b : Result counter.Counting BadStore) (c : Result own_number.Numbering BadStore) (d : Result ℕ BadStore)
          (e : Result routing.Routing BadStore) (f : Result marks.Table BadStore)
          → Empty (keeps n i) (reading a (λ r. reading b (λ u. reading c
          (λ k. reading d (λ tag. reading e (λ t. reading f
          (λ m. Ok (record { ring = r; counter = u; marks = m; routing = t; own_number = k; next_tag = tag; reassemblies = []; waiting = [] }))))))))
      by_parts (Ok a) (Ok b) (Ok c) (Ok d) (Ok e) (Ok f) = refl
      by_parts (Err x) b c d e f = tt
      by_parts (Ok a) (Err x) c d e f = tt
      by_parts (Ok a) (Ok b) (Err x) d e f = tt
      by_parts (Ok a) (Ok b) (Ok c) (Err x) e f = tt
      by_parts (Ok a) (Ok b) (Ok c) (Ok d) (Err x) f = tt
      by_parts (Ok a) (Ok b) (Ok c) (Ok d) (Ok e) (Err x) = tt

  after_station : (r : Result StationMemory BadStore) (rest : StationMemory → Result Memory BadStore) → Empty (keeps n i) r
      → ((l : StationMemory) → keeps n i l ≡ 0 → Empty (λ (m : Memory). keeps n i m.station) (rest l))
      → Empty (λ (m : Memory). keeps n i m.station) (reading r rest)
  after_station (Ok l) rest e h = h l e
  after_station (Err bad) rest e h = tt

  book_read : (l : StationMemory) → keeps n i l ≡ 0 → (r : Result book.Book BadStore)
      → Empty (λ (m : Memory). keeps n i m.station) (reading r (λ b. Ok (remembering l b)))
  book_read l e (Ok b) = e
  book_read l e (Err bad) = tt

  memory_empty : (role : Role) (records : Records) → Empty (λ (m : Memory). keeps n i m.station) (memory_of role records)
  memory_empty (Meter psk) records = after_station (station_of records) _ (station_empty records) (λ l e. e)
  memory_empty Coordinator records = after_station (station_of records) _ (station_empty records) (λ l e. book_read l e (slots.opened book.entries records))

  left_empty : (r : Result Memory BadStore) → Empty (λ (m : Memory). keeps n i m.station) r → node_keeps n i (memory_by r) ≡ 0
  left_empty (Ok m) e = e
  left_empty (Err bad) e = refl

  pub restart_kept : (x : Node) → DidKeep n i 0 (λ (a : Answer). 0) x (restarts x)
  restart_kept x = record { kept = let none = left_empty (memory_of x.role x.store.records) (memory_empty x.role x.store.records) in omega arith }

-- # Plans that bring nothing

module _ (n i : ℕ) (some : 0 < n) (m : Memory) where
  quiet_brings : (W : RingWord → Type 0) (now : ℕ) → SaysNoDatagram W n i → BringsIn W (call_given 0 0 now) n i 0
  quiet_brings W now says = record {
    first = record { comes = λ by u c. absurd (no_some _ c.is); carries = says.none };
    later = record { comes = λ by u c. absurd (no_some _ c.is); carries = says.none };
  }

  -- of a meter
  pub join_kept : (x : meters.Identity) (agent now : ℕ) → BodiesKept n i 0 (up_by (λ a. 0)) m (meters.join x m agent now)
  join_kept x agent now = plan_kept (RingCause (call_given 0 0 now) x m) (call_given 0 0 now) n i 0 some
      (quiet_brings (RingCause (call_given 0 0 now) x m) now (meter_says (call_given 0 0 now) x m n i)) NoGrant NoPair NoEui m meters.joining_ends (λ a. 0) _ _
      (λ k answer none. absurd none) (λ d answer h. (h.0, refl)) _ (joins_is NoGrant NoPair NoEui (call_given 0 0 now) x m agent)

  pub leave_kept : (x : meters.Identity) → BodiesKept n i 0 (up_by (λ a. 0)) m (meters.leave m)
  leave_kept x = plan_kept (RingCause (call_given 0 0 0) x m) (call_given 0 0 0) n i 0 some
      (quiet_brings (RingCause (call_given 0 0 0) x m) 0 (meter_says (call_given 0 0 0) x m n i)) NoGrant NoPair NoEui m meters.leaving_ends (λ a. 0) _ _
      (λ k answer none. absurd none) (λ d answer h. (h.0, refl)) _ (leaves_is NoGrant NoPair NoEui (call_given 0 0 0) x m)

  no_words : SaysNoDatagram NoWord n i
  no_words = record { none = λ to note load none. absurd none }

  pub random_kept : (value : RandomOctets) → BodiesKept n i 0 (up_by (λ a. 0)) m (give_random m value)
  random_kept value = plan_kept NoWord (call_given 0 0 0) n i 0 some (quiet_brings NoWord 0 no_words) NoGrant NoPair NoEui m given_ends (λ a. 0) _ _
      (λ k answer none. absurd none) (λ d answer h. (h.0, refl)) _ (forms.random_is NoWord NoGrant NoPair NoEui (call_given 0 0 0) m value)

  pub broke_kept : {A : Type 0} (next : ℕ) (answer : A)
      → BodiesKept n i 0 (λ (a : A). 0) m (resting (with_station (calls.broke next m.station) m) answer answer)
  unfolding resting
  broke_kept next answer = record { kept = omega arith; fails = refl }

  -- of the coordinator
  module _ (own : coordinators.CoordinatorIdentity) (now : ℕ) where
    order_kept : {A : Type 0} (p : coordinators.Ordering A)
        → coordinator.IsOrder CoordinatorWord AnyPair AnyEui (call_given 0 0 now) own m (λ to there join said. Says to join) p
        → BodiesKept n i 0 (up_by (λ (a : A). 0)) m p
    order_kept p s = plan_kept CoordinatorWord (call_given 0 0 now) n i 0 some (quiet_brings CoordinatorWord now (coordinator_says n i))
        (λ granted. coordinator.IsGranted m granted) AnyPair AnyEui m coordinators.orders (λ a. 0) _ _
        (λ k answer none. absurd none) (λ d answer h. (h.0, refl)) p s

    pub allow_kept : (eui : Eui) (psk : Key) → BodiesKept n i 0 (up_by (λ a. 0)) m (coordinators.allow m eui psk)
    allow_kept eui psk =
        order_kept _ (coordinator.allow_is CoordinatorWord AnyPair AnyEui (call_given 0 0 now) own m (λ to there join said. Says to join) eui psk tt tt)

    pub rekey_kept : (index : ℕ) (key : Key) → BodiesKept n i 0 (up_by (λ a. 0)) m (coordinators.rekey m index key)
    rekey_kept index key = order_kept _
        (coordinator.rekey_is CoordinatorWord AnyPair AnyEui (call_given 0 0 now) own m (λ to there join said. Says to join) index key (Draws index key))

    pub activate_self_kept : (index : ℕ) → BodiesKept n i 0 (up_by (λ a. 0)) m (coordinators.activate_self m index)
    activate_self_kept index = order_kept _
        (coordinator.activate_self_is CoordinatorWord AnyPair AnyEui (call_given 0 0 now) own m (λ to there join said. Says to join) index (Activates index))

    pub challenge_kept : (eui : Eui) → BodiesKept n i 0 (up_by (λ a. 0)) m (coordinators.challenge own.eui m eui now)
    challenge_kept eui =
        order_kept _ (coordinator.challenge_is CoordinatorWord AnyPair AnyEui (call_given 0 0 now) own m (λ to there join said. Says to join) eui tt)

    pub activate_kept : (eui : Eui) (index : ℕ) → BodiesKept n i 0 (up_by (λ a. 0)) m (coordinators.activate m eui index now)
    activate_kept eui index =
        order_kept _ (coordinator.activate_is CoordinatorWord AnyPair AnyEui (call_given 0 0 now) own m (λ to there join said. Says to join) eui index)

    pub kick_kept : (eui : Eui) → BodiesKept n i 0 (up_by (λ a. 0)) m (coordinators.kick m eui)
    kick_kept eui = order_kept _ (coordinator.kick_is CoordinatorWord AnyPair AnyEui (call_given 0 0 now) own m (λ to there join said. Says to join) eui tt)
