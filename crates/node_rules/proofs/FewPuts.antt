-- No call makes more than four puts: three of its doings, and that of the counter.
use Rattle.std.proofs.Common.{length, Result, arith}
use Rattle.frame_counters.specs.SendCounter.{reserve_write}
use Rattle.node_rules.specs.Ciphers.{network}
use Rattle.node_rules.specs.Plans.{Plan, resting}
use Rattle.node_rules.specs.Drafts.{StationPlace, Ends}
use Rattle.node_rules.proofs.Shapes.{Shape, Rests, Keeps, Ended}
use Rattle.node_rules.specs.FewPuts.{PutsFew, HearingPutsFew, AMetersHearingPutsFew, ACoordinatorsHearingPutsFew, SendingPutsFew, JoiningPutsFew, OrdersPutFew}
use Rattle.node_rules.proofs.PutCounts.{Does, one_more_put}
use Rattle.node_rules.proofs.HeardPuts.{hear_few}
use Rattle.node_rules.proofs.SendPuts.{send_few, command_few, grant_few, near_few}
use Rattle.node_rules.proofs.MeterPuts.{meter_few, joins_few, leaves_few}
use Rattle.node_rules.proofs.OrderPuts.{coordinator_few, allow_few, depot_few, rekey_few, activate_self_few, challenge_few, activate_few, kick_few}

module _ {M H E : Type 0} (h : StationPlace M) (ends : Ends E) (m : M) where
  few : (p : Plan M (Result H E)) → Shape h ends m Does p → PutsFew p
  unfolding resting
  few p (Rests answer) = omega arith
  few p (Keeps n answer) = omega arith
  few p (Ended d answer does) = one_more_put 3 d.puts (reserve_write (h.station d.memory).counter (length d.units)) does.few

pub hears : HearingPutsFew
hears l got cost note now = few _ _ l _ (hear_few l got cost note now)

pub meters_hear : AMetersHearingPutsFew
meters_hear x m got cost note now = few _ _ m _ (meter_few x m got cost note now)

pub coordinators_hear : ACoordinatorsHearingPutsFew
coordinators_hear own m got cost note now = few _ _ m _ (coordinator_few own m got cost note now)

pub sends : SendingPutsFew
sends l to octets note now = (few _ _ l _ (send_few l to octets note now), few _ _ l _ (command_few l to octets now))

pub joins : JoiningPutsFew
joins x m granted address cost now = (
  few _ _ m _ (joins_few x m address now),
  few _ _ m _ (leaves_few x m),
  few _ _ m.station _ (grant_few m.station granted),
  few _ _ m.station _ (near_few m.station address cost now),
)

pub orders : OrdersPutFew
orders own m eui key index now = (
  few _ _ m _ (allow_few (record { eui = own; ciphers = network }) m eui key),
  few _ _ m _ (depot_few (record { eui = own; ciphers = network }) m eui key),
  few _ _ m _ (rekey_few (record { eui = own; ciphers = network }) m index key),
  few _ _ m _ (activate_self_few (record { eui = own; ciphers = network }) m index),
  few _ _ m _ (challenge_few (record { eui = own; ciphers = network }) m eui now),
  few _ _ m _ (activate_few (record { eui = own; ciphers = network }) m eui index now),
  few _ _ m _ (kick_few (record { eui = own; ciphers = network }) m eui),
)
