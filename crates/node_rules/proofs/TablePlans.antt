-- The writes of each plan are in place.
use Rattle.std.proofs.Common.{ℕ, Bool, true, false, List, [], length, Option, Some, None, Result, Ok, Err, arith}
use Rattle.std.specs.Prelude.{is_some}
use Rattle.std.proofs.lemmas.List.Elements.{All-nil, All-cons}
use Rattle.plc_base.specs.declared.key.RandomOctets.{RandomOctets}
use Rattle.plc_base.specs.Grant.{Granted}
use Rattle.plc_base.specs.Keeper.{Write}
use Rattle.frame_counters.specs.SendCounter as counter
use Rattle.node_rules.specs.declared.refusal.RingRefusal.{RingRefusal}
use Rattle.node_rules.specs.declared.refusal.RingRefusal.TheVariants as ring_faults
use Rattle.group_keys.specs.KeyBook as book
use Rattle.group_keys.specs.KeyRing as ring
use Rattle.routing_set.specs.OwnNumber as own_number
use Rattle.node_rules.specs.Memory.{StationMemory, Memory}
use Rattle.node_rules.specs.Plans.{Plan, resting, within}
use Rattle.node_rules.specs.Acceptance.{Accepting, marking}
use Rattle.node_rules.specs.Drafts.{Draft, StationPlace, Ends, alone, empty_draft, with_rank, with_ring, choose}
use Rattle.node_rules.specs.MemoryDrafts.{in_memory, with_station, with_memory_by, given_ends, give_random}
use Rattle.node_rules.specs.Calls as calls
use Rattle.node_rules.specs.Neighbours.{local_ends, local_draft, send_local}
use Rattle.node_rules.specs.Coordinators as coordinator_rules
use Rattle.node_rules.specs.Tables.{IsInPlace, ArePlaced, HasShortTables, StationsWriteInPlace, MetersWriteInPlace, CoordinatorsWriteInPlace}
use Rattle.node_rules.proofs.Shapes.{Shape, Rests, Keeps, Ended, checked_shape, choose_shape, sealed_shape}
use Rattle.node_rules.proofs.TablePuts.{Membership, RingOf, PutOf, OfFloors, OfNumber, OfRing, OfMark, OfRank, OfEntry, AnyMembership, Any, AreOf, Puts, Does}
use Rattle.node_rules.proofs.TablePuts.{begun_puts, ranked_puts, ringed_puts, goes_puts, counter_of, mark_of, both, begins, remembers, quiet_does}
use Rattle.node_rules.proofs.HearingShapes.{hear_shape}
use Rattle.node_rules.proofs.CallShapes.{AcceptShape, Stays, Marks, accept_shape, send_shape, send_command_shape}
use Rattle.node_rules.proofs.MeterShapes.{meter_shape, joins_shape, leaves_shape}
use Rattle.node_rules.proofs.CoordinatorShapes.{HomeOf, coordinator_shape, allow_shape, depot_shape, rekey_shape, activate_self_shape, challenge_shape}
use Rattle.node_rules.proofs.CoordinatorShapes.{activate_shape, kick_shape}

-- # Puts of a kind are in place

module _ (R : Membership → Type 0) (b : book.Book) (l : StationMemory) (short : HasShortTables l) where
  in_place : (w : Write) → PutOf R b l w → IsInPlace l b w
  in_place w (OfFloors floors) =
      record { mark = λ p within e. absurd (omega arith); rank = λ p within e. absurd (omega arith); entry = λ p within e. absurd (omega arith) }
  in_place w (OfNumber at number low high) =
      record { mark = λ p within e. absurd (omega arith); rank = λ p within e. absurd (omega arith); entry = λ p within e. absurd (omega arith) }
  in_place w (OfRing r h) =
      record { mark = λ p within e. absurd (omega arith); rank = λ p within e. absurd (omega arith); entry = λ p within e. absurd (omega arith) }
  in_place w (OfMark place peer small) =
      let few = short.marks in
      record { mark = λ p within e. omega arith; rank = λ p within e. absurd (omega arith); entry = λ p within e. absurd (omega arith) }
  in_place w (OfRank place x small) =
      let few = short.ranks in
      record { mark = λ p within e. absurd (omega arith); rank = λ p within e. omega arith; entry = λ p within e. absurd (omega arith) }
  in_place w (OfEntry place x small y) =
      record { mark = λ p within e. absurd (omega arith); rank = λ p within e. absurd (omega arith); entry = λ p within e. omega arith }

  placed : (puts : List Write) → AreOf R b l puts → ArePlaced l b puts
  placed puts are k d within = in_place _ (are k d within)

-- # The puts of a plan

module _ {M H E : Type 0} (R : Membership → Type 0) (b : book.Book) (l : StationMemory) (h : StationPlace M) (ends : Ends E) (m : M) where
  pub puts_by : (D : Draft M → Type 0) → ((d : Draft M) → D d → Puts R b l d) → (p : Plan M (Result H E)) → Shape h ends m D p → AreOf R b l p.puts
  unfolding resting
  puts_by D of p (Rests answer) = All-nil (PutOf R b l)
  puts_by D of p (Keeps n answer) = All-nil (PutOf R b l)
  puts_by D of p (Ended d answer f) = both R b l _ _ (of d f) (counter_of R b l (h.station d.memory).counter (length d.units))

  pub plan_puts : (p : Plan M (Result H E)) → Shape h ends m (Does R b l) p → AreOf R b l p.puts
  plan_puts p s = puts_by (Does R b l) (λ d f. f.puts) p s

-- # What a station does

module _ (R : Membership → Type 0) (b : book.Book) (l : StationMemory) where
  pub accept_puts : (p : Accepting) → AcceptShape l p → AreOf R b l p.puts
  unfolding resting marking
  accept_puts p (Stays answer) = All-nil (PutOf R b l)
  accept_puts p (Marks from count accepted room) = mark_of R b l from count

  pub local_puts : (code : ℕ) (to : Option ℕ) (body : List ℕ) → AreOf R b l (send_local l code to body).puts
  local_puts code to body =
      puts_by R b l alone local_ends l (Puts R b l) (λ d f. f) _
      (sealed_shape alone local_ends l (Puts R b l) (local_draft l code to body) tt (goes_puts R b l _ _ 0 (empty_draft l) (begun_puts R b l l)))

  pub near_puts : (to cost now : ℕ) → AreOf R b l (calls.preset_near l to cost now).puts
  near_puts to cost now =
      puts_by R b l alone calls.presetting_ends l (Puts R b l) (λ d f. f) _
      (checked_shape alone calls.presetting_ends l (Puts R b l) (calls.preset_fault l to cost now) _
      (Ended (with_rank to (calls.near_rank cost) to now (empty_draft l)) tt (ranked_puts R b l to (calls.near_rank cost) to now)))

  -- a ring is put
  pub ring_puts : (r : ring.Ring) (d : Draft StationMemory) → R (RingOf r) → Puts R b l d → AreOf R b l (calls.ring_ends (with_ring r d)).puts
  ring_puts r d h p = puts_by {H = Unit {0}} R b l alone calls.ringing_ends l (Puts R b l) (λ d f. f) _ (Ended (with_ring r d) tt (ringed_puts R b l r d h p))

module _ (b : book.Book) (l : StationMemory) where
  pub activate_puts : (index : ℕ) → AreOf AnyMembership b l (calls.activate l index).puts
  unfolding choose resting
  activate_puts index = by_test (calls.has_key l index)
    where
      by_test : (t : Bool) → AreOf AnyMembership b l
          (choose t (calls.ring_ends (calls.with_active l index (empty_draft l))) (resting l (Err ring_faults.NotHeld) (Err ring_faults.Store))).puts
      by_test true = ring_puts AnyMembership b l _ (empty_draft l) (Any _) (begun_puts AnyMembership b l l)
      by_test false = All-nil (PutOf AnyMembership b l)

pub stations : StationsWriteInPlace
stations l b short = record {
  accepts = λ own a. at _ (accept_puts AnyMembership b l _ (accept_shape l own a));
  hears = λ got cost note now. at _ (plan_puts AnyMembership b l alone _ l _ (hear_shape AnyMembership b l got cost note now));
  sends = λ to octets note now. at _ (plan_puts AnyMembership b l alone _ l _ (send_shape AnyMembership b l to octets note now));
  commands = λ to octets now. at _ (plan_puts AnyMembership b l alone _ l _ (send_command_shape AnyMembership b l to octets now));
  sends_local = λ code to body. at _ (local_puts AnyMembership b l code to body);
  counter = λ value. at (calls.preset_counter l value).puts
      (All-cons (PutOf AnyMembership b l) _ [] (OfNumber counter.limit_at value (omega arith) (omega arith)) (All-nil (PutOf AnyMembership b l)));
  number = λ value. at (calls.preset_number l value).puts
      (All-cons (PutOf AnyMembership b l) _ [] (OfNumber own_number.limit_at value (omega arith) (omega arith)) (All-nil (PutOf AnyMembership b l)));
  near = λ to cost now. at _ (near_puts AnyMembership b l to cost now);
  installs = λ granted. at _ (ring_puts AnyMembership b l (Some granted) (empty_draft l) (Any _) (begun_puts AnyMembership b l l));
  puts_key = λ index key. at _ (ring_puts AnyMembership b l (ring.with_key l.ring index key) (empty_draft l) (Any _) (begun_puts AnyMembership b l l));
  activates = λ index. at _ (activate_puts b l index);
  leaves = at _ (ring_puts AnyMembership b l None (record (empty_draft l) { memory = calls.idled (empty_draft l).memory }) (Any _)
      (begun_puts AnyMembership b l l));
}
  where
    at : (puts : List Write) → AreOf AnyMembership b l puts → ArePlaced l b puts
    at puts are = placed AnyMembership b l short puts are

-- # What a meter and the coordinator do

pub random_puts : (m : Memory) (value : RandomOctets) → AreOf AnyMembership m.book m.station (give_random m value).puts
random_puts m value =
    plan_puts {H = Unit {0}} AnyMembership m.book m.station in_memory given_ends m _
    (choose_shape in_memory given_ends m (Does AnyMembership m.book m.station) _ _ _ (Rests _)
    (Ended (with_memory_by _ (empty_draft m)) tt
    (quiet_does AnyMembership m.book m.station _ (remembers AnyMembership m.book m.station _ _ (begins AnyMembership m.book m.station m)))))

pub meters_in_place : MetersWriteInPlace
meters_in_place x m short = record {
  hears = λ got cost note now. at _ (plan_puts AnyMembership m.book m.station in_memory _ m _ (meter_shape x m got cost note now));
  joins = λ agent now. at _ (plan_puts AnyMembership m.book m.station in_memory _ m _ (joins_shape x m agent now));
  leaves = at _ (plan_puts AnyMembership m.book m.station in_memory _ m _ (leaves_shape x m));
  provisions = λ granted. at _ (ring_puts AnyMembership m.book m.station (Some granted) (empty_draft m.station) (Any _)
      (begun_puts AnyMembership m.book m.station m.station));
  takes_random = λ value. at _ (random_puts m value);
}
  where
    at : (puts : List Write) → AreOf AnyMembership m.book m.station puts → ArePlaced m.station m.book puts
    at puts are = placed AnyMembership m.book m.station short puts are

-- a coordinator that begins installs its grant, or has a ring
pub begin_puts : (R : Membership → Type 0) (m : Memory) (granted : Granted) → R (RingOf (Some granted))
    → AreOf R m.book m.station (coordinator_rules.begin m granted).puts
unfolding choose resting
begin_puts R m granted h = by_test (is_some m.station.ring)
  where
    by_test : (t : Bool) → AreOf R m.book m.station (choose t (resting m (Ok tt) (Err ring_faults.Store))
        (within (λ l. with_station l m) (λ (r : Result (Unit {0}) RingRefusal). r) (calls.install m.station granted))).puts
    by_test true = All-nil (PutOf R m.book m.station)
    by_test false = ring_puts R m.book m.station (Some granted) (empty_draft m.station) h (begun_puts R m.book m.station m.station)

pub coordinators_in_place : CoordinatorsWriteInPlace
coordinators_in_place own m short = record {
  hears = λ got cost note now. at _ (plan_puts (HomeOf m) m.book m.station in_memory _ m _ (coordinator_shape own m got cost note now));
  begins = λ granted. placed AnyMembership m.book m.station short _ (begin_puts AnyMembership m granted (Any _));
  allows = λ eui psk. at _ (plan_puts (HomeOf m) m.book m.station in_memory _ m _ (allow_shape own m eui psk));
  depots = λ eui psk. at _ (plan_puts (HomeOf m) m.book m.station in_memory _ m _ (depot_shape own m eui psk));
  rekeys = λ index key. at _ (plan_puts (HomeOf m) m.book m.station in_memory _ m _ (rekey_shape own m index key));
  seals_with = λ index. at _ (plan_puts (HomeOf m) m.book m.station in_memory _ m _ (activate_self_shape own m index));
  challenges = λ eui now. at _ (plan_puts (HomeOf m) m.book m.station in_memory _ m _ (challenge_shape own m eui now));
  activates = λ eui index now. at _ (plan_puts (HomeOf m) m.book m.station in_memory _ m _ (activate_shape own m eui index now));
  kicks = λ eui. at _ (plan_puts (HomeOf m) m.book m.station in_memory _ m _ (kick_shape own m eui));
}
  where
    at : (puts : List Write) → AreOf (HomeOf m) m.book m.station puts → ArePlaced m.station m.book puts
    at puts are = placed (HomeOf m) m.book m.station short puts are
