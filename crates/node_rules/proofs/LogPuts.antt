-- No plan writes a slot of the log of broadcasts.
use Rattle.std.proofs.Common.{◌≢◌, ◌⊎◌, inl, inr, ◌<◌, ◌≤◌, refl, sym, ◌∙◌, List, [], Some, None}
use Rattle.std.proofs.Common.{arith}
use Rattle.std.specs.Prelude.{All}
use Rattle.std.proofs.lemmas.List.Elements.{All-nil, All-cons}
use Rattle.plc_base.specs.Keeper.{Write}
use Rattle.frame_counters.specs.SendCounter as counter
use Rattle.group_keys.specs.KeyBook as book
use Rattle.group_keys.specs.KeyRing as ring
use Rattle.routing_set.specs.OwnNumber as own_number
use Rattle.node_rules.specs.Memory.{StationMemory}
use Rattle.node_rules.specs.Plans.{within}
use Rattle.node_rules.specs.Drafts.{alone, empty_draft}
use Rattle.node_rules.specs.MemoryDrafts.{in_memory}
use Rattle.node_rules.specs.Calls as calls
use Rattle.node_rules.specs.Tables.{HasShortTables}
use Rattle.node_rules.specs.LogSlots.{IsBesideLog, IsLogSlot, SameLog, StationsLeaveLog, MetersLeaveLog, CoordinatorsLeaveLog, CarryingOutLeavesLog}
use Rattle.node_rules.proofs.Tables.{Keep, carried_keeps}
use Rattle.node_rules.proofs.TablePlans.{plan_puts, accept_puts, local_puts, near_puts, ring_puts, activate_puts, random_puts, begin_puts}
use Rattle.plc_base.specs.Keeper.{Records}
use Rattle.store_tables.proofs.StoreLemmas.{get-insert_other}
use Rattle.std.specs.FinMap.{get, insert}
use Rattle.node_rules.proofs.TablePuts.{Membership, PutOf, OfFloors, OfNumber, OfRing, OfMark, OfRank, OfEntry, AnyMembership, Any, AreOf}
use Rattle.node_rules.proofs.TablePuts.{begun_puts, begins}
use Rattle.node_rules.proofs.HearingShapes.{hear_shape}
use Rattle.node_rules.proofs.CallShapes.{accept_shape, send_shape, send_command_shape}
use Rattle.node_rules.proofs.MeterShapes.{meter_shape, joins_shape, leaves_shape}
use Rattle.node_rules.proofs.CoordinatorShapes.{HomeOf, coordinator_shape, allow_shape, depot_shape, rekey_shape, activate_self_shape, challenge_shape}
use Rattle.node_rules.proofs.CoordinatorShapes.{activate_shape, kick_shape}

module _ (R : Membership → Type 0) (b : book.Book) (l : StationMemory) (short : HasShortTables l) where
  put_beside : (w : Write) → PutOf R b l w → IsBesideLog w
  put_beside w (OfFloors floors) = record { limit = λ e. omega arith; marks = inl (omega arith) }
  put_beside w (OfNumber at number low high) = record { limit = λ e. omega arith; marks = inl (omega arith) }
  put_beside w (OfRing r h) = record { limit = λ e. omega arith; marks = inl (omega arith) }
  put_beside w (OfMark place peer small) = let few = short.marks in record { limit = λ e. omega arith; marks = inl (omega arith) }
  put_beside w (OfRank place x small) = let few = short.ranks in record { limit = λ e. omega arith; marks = inl (omega arith) }
  put_beside w (OfEntry place x small h) = record { limit = λ e. omega arith; marks = inr (omega arith) }

  all_beside : (puts : List Write) → AreOf R b l puts → All IsBesideLog puts
  all_beside puts are k d within = put_beside _ (are k d within)

-- # What a station does

pub stations_leave_log : StationsLeaveLog
stations_leave_log l short = record {
  accepts = λ own a. at _ (accept_puts AnyMembership [] l _ (accept_shape l own a));
  hears = λ got cost note now. at _ (plan_puts AnyMembership [] l alone _ l _ (hear_shape AnyMembership [] l got cost note now));
  sends = λ to octets note now. at _ (plan_puts AnyMembership [] l alone _ l _ (send_shape AnyMembership [] l to octets note now));
  commands = λ to octets now. at _ (plan_puts AnyMembership [] l alone _ l _ (send_command_shape AnyMembership [] l to octets now));
  sends_local = λ code to body. at _ (local_puts AnyMembership [] l code to body);
  counter = λ value. at (calls.preset_counter l value).puts
      (All-cons (PutOf AnyMembership [] l) _ [] (OfNumber counter.limit_at value (omega arith) (omega arith)) (All-nil (PutOf AnyMembership [] l)));
  number = λ value. at (calls.preset_number l value).puts
      (All-cons (PutOf AnyMembership [] l) _ [] (OfNumber own_number.limit_at value (omega arith) (omega arith)) (All-nil (PutOf AnyMembership [] l)));
  near = λ to cost now. at _ (near_puts AnyMembership [] l to cost now);
  installs = λ granted. at _ (ring_puts AnyMembership [] l (Some granted) (empty_draft l) (Any _) (begun_puts AnyMembership [] l l));
  puts_key = λ index key. at _ (ring_puts AnyMembership [] l (ring.with_key l.ring index key) (empty_draft l) (Any _) (begun_puts AnyMembership [] l l));
  activates = λ index. at _ (activate_puts [] l index);
  leaves = at _ (ring_puts AnyMembership [] l None (record (empty_draft l) { memory = calls.idled (empty_draft l).memory }) (Any _)
      (begun_puts AnyMembership [] l l));
}
  where
    at : (puts : List Write) → AreOf AnyMembership [] l puts → All IsBesideLog puts
    at puts are = all_beside AnyMembership [] l short puts are

-- # What a meter and the coordinator do

pub meters_leave_log : MetersLeaveLog
meters_leave_log x m short = record {
  hears = λ got cost note now. at _ (plan_puts AnyMembership m.book m.station in_memory _ m _ (meter_shape x m got cost note now));
  joins = λ agent now. at _ (plan_puts AnyMembership m.book m.station in_memory _ m _ (joins_shape x m agent now));
  leaves = at _ (plan_puts AnyMembership m.book m.station in_memory _ m _ (leaves_shape x m));
  provisions = λ granted. at _ (ring_puts AnyMembership m.book m.station (Some granted) (empty_draft m.station) (Any _)
      (begun_puts AnyMembership m.book m.station m.station));
  takes_random = λ value. at _ (random_puts m value);
}
  where
    at : (puts : List Write) → AreOf AnyMembership m.book m.station puts → All IsBesideLog puts
    at puts are = all_beside AnyMembership m.book m.station short puts are

pub coordinators_leave_log : CoordinatorsLeaveLog
coordinators_leave_log own m short = record {
  hears = λ got cost note now. at _ (plan_puts (HomeOf m) m.book m.station in_memory _ m _ (coordinator_shape own m got cost note now));
  begins = λ granted. all_beside AnyMembership m.book m.station short _ (begin_puts AnyMembership m granted (Any _));
  allows = λ eui psk. at _ (plan_puts (HomeOf m) m.book m.station in_memory _ m _ (allow_shape own m eui psk));
  depots = λ eui psk. at _ (plan_puts (HomeOf m) m.book m.station in_memory _ m _ (depot_shape own m eui psk));
  rekeys = λ index key. at _ (plan_puts (HomeOf m) m.book m.station in_memory _ m _ (rekey_shape own m index key));
  seals_with = λ index. at _ (plan_puts (HomeOf m) m.book m.station in_memory _ m _ (activate_self_shape own m index));
  challenges = λ eui now. at _ (plan_puts (HomeOf m) m.book m.station in_memory _ m _ (challenge_shape own m eui now));
  activates = λ eui index now. at _ (plan_puts (HomeOf m) m.book m.station in_memory _ m _ (activate_shape own m eui index now));
  kicks = λ eui. at _ (plan_puts (HomeOf m) m.book m.station in_memory _ m _ (kick_shape own m eui));
}
  where
    at : (puts : List Write) → AreOf (HomeOf m) m.book m.station puts → All IsBesideLog puts
    at puts are = all_beside (HomeOf m) m.book m.station short puts are

-- # The log stays

module _ (old : Records) where
  pub same_put : (w : Write) → IsBesideLog w → (r : Records) → SameLog old r → SameLog old (insert r w.slot w.octets)
  same_put w beside r h slot is = get-insert_other r w.slot slot w.octets (apart is beside.marks) ∙ h slot is
    where
      apart : IsLogSlot slot → (w.slot < 0x0300) ⊎ (0x0320 ≤ w.slot) → slot ≢ w.slot
      apart (inl six) side e = beside.limit (sym e ∙ six)
      apart (inr (low, high)) (inl under) e = omega arith
      apart (inr (low, high)) (inr over) e = omega arith

  keep_same : (puts : List Write) → All IsBesideLog puts → Keep (SameLog old) puts
  keep_same puts beside k d within = same_put _ (beside k d within)

pub carrying_out_leaves_log : {M A : Type 0} → CarryingOutLeavesLog M A
carrying_out_leaves_log {M} {A} r cut p beside = carried_keeps (SameLog r) r cut p (keep_same r p.puts beside) (λ slot is. refl)
