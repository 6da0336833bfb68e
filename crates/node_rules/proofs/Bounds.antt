-- What plans send and store at most.
use Rattle.std.proofs.Common.{◌≡◌, ℕ, suc, ◌+◌, ◌≤◌, List, [], ◌∷◌, length, Option, Some, None, Result, refl, ap, arith}
use Rattle.std.specs.Option.{option_map_or}
use Rattle.std.proofs.lemmas.List.{length-append}
use Rattle.plc_base.specs.declared.key.Key.{Key}
use Rattle.plc_base.specs.Grant.{Granted}
use Rattle.group_keys.specs.KeyBook.{Book}
use Rattle.group_keys.specs.KeyRing as ring
use Rattle.node_rules.specs.Memory.{StationMemory}
use Rattle.node_rules.specs.Plans.{Plan, resting}
use Rattle.node_rules.specs.Drafts.{StationPlace, Ends, UnsealedUnit, sealed_units, sealed_by, sealing_key}
use Rattle.node_rules.specs.Laws.{IsBounded, HearingIsBounded, AMetersHearingIsBounded, ACoordinatorsHearingIsBounded, ASendIsBounded, AJoinIsBounded}
use Rattle.node_rules.specs.Laws.{AnOrderIsBounded}
use Rattle.node_rules.proofs.Sizes.{pending_bound}
use Rattle.node_rules.proofs.Words.{InTurn-append, in_turn, counter_turn}
use Rattle.node_rules.proofs.TablePuts.{Membership, AnyMembership, Does}
use Rattle.node_rules.proofs.Shapes.{Shape, Rests, Keeps, Ended}
use Rattle.node_rules.proofs.HearingShapes.{hear_shape}
use Rattle.node_rules.proofs.CallShapes.{send_shape, send_command_shape}
use Rattle.node_rules.proofs.MeterShapes.{meter_shape, joins_shape, leaves_shape}
use Rattle.node_rules.specs.Ciphers.{network}
use Rattle.node_rules.proofs.CoordinatorShapes.{coordinator_shape, allow_shape, depot_shape, rekey_shape, activate_self_shape, challenge_shape, activate_shape}
use Rattle.node_rules.proofs.CoordinatorShapes.{kick_shape}

-- # Letters

length-sealed_units : (g : Granted) (key : Key) (first : ℕ) (units : List UnsealedUnit) → length (sealed_units g key first units) ≡ length units
length-sealed_units g key first [] = refl
length-sealed_units g key first (o ∷ rest) = ap suc (length-sealed_units g key (first + 1) rest)

with_key : (g : Granted) (key : Option Key) (first : ℕ) (units : List UnsealedUnit)
    → length (option_map_or (λ k. sealed_units g k first units) key []) ≤ length units
with_key g None first units = omega arith
with_key g (Some key) first units = let same = length-sealed_units g key first units in omega arith

pub sealed_few : (r : ring.Ring) (first : ℕ) (units : List UnsealedUnit) → length (sealed_by r first units) ≤ length units
sealed_few None first units = omega arith
sealed_few (Some g) first units = with_key g (sealing_key g) first units

-- # Plans

module _ {M H E : Type 0} (h : StationPlace M) (ends : Ends E) (m : M) (l : StationMemory) {R : Membership → Type 0} {listed : Book} where
  pub bounded : (p : Plan M (Result H E)) → Shape h ends m (Does R listed l) p → IsBounded l p
  unfolding resting
  bounded p (Rests answer) = record { frames = λ w. omega arith; writes = tt }
  bounded p (Keeps n answer) = record { frames = λ w. omega arith; writes = tt }
  bounded p (Ended d answer f) = record {
    frames = λ w.
        let few = f.done.few (pending_bound l w) in
        let sealed_units_few = sealed_few (h.station d.memory).ring (h.station d.memory).counter.next d.units in
        let both = length-append d.plain (sealed_by (h.station d.memory).ring (h.station d.memory).counter.next d.units) in
        omega arith;
    writes = in_turn 0 4 _ (InTurn-append 0 3 4 d.puts _ f.done.turns (counter_turn (h.station d.memory).counter (length d.units)));
  }

pub hears : HearingIsBounded
hears l got cost note now = bounded _ _ l l _ (hear_shape AnyMembership [] l got cost note now)

pub meters_hear : AMetersHearingIsBounded
meters_hear x m got cost note now = bounded _ _ m m.station _ (meter_shape x m got cost note now)

pub coordinators_hear : ACoordinatorsHearingIsBounded
coordinators_hear own m got cost note now = bounded _ _ m m.station _ (coordinator_shape own m got cost note now)

pub sends_bounded : ASendIsBounded
sends_bounded l to octets note now =
    (bounded _ _ l l _ (send_shape AnyMembership [] l to octets note now), bounded _ _ l l _ (send_command_shape AnyMembership [] l to octets now))

pub joins_bounded : AJoinIsBounded
joins_bounded x m agent now = (bounded _ _ m m.station _ (joins_shape x m agent now), bounded _ _ m m.station _ (leaves_shape x m))

pub orders_bounded : AnOrderIsBounded
orders_bounded own m eui key index now = (
  bounded _ _ m m.station _ (allow_shape (record { eui = own; ciphers = network }) m eui key),
  bounded _ _ m m.station _ (depot_shape (record { eui = own; ciphers = network }) m eui key),
  bounded _ _ m m.station _ (rekey_shape (record { eui = own; ciphers = network }) m index key),
  bounded _ _ m m.station _ (activate_self_shape (record { eui = own; ciphers = network }) m index),
  bounded _ _ m m.station _ (challenge_shape (record { eui = own; ciphers = network }) m eui now),
  bounded _ _ m m.station _ (activate_shape (record { eui = own; ciphers = network }) m eui index now),
  bounded _ _ m m.station _ (kick_shape (record { eui = own; ciphers = network }) m eui),
)
