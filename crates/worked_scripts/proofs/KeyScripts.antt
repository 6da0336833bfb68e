-- What becomes of keys: rotation, activation, kicks, and leaving: the runs are computed.
use Rattle.std.proofs.Common.{refl}
use Rattle.worked_scripts.proofs.ComputedScripts.{computed}
use Rattle.worked_scripts.specs.KeyScripts.{RotationAndKick, AMeterAnswersUnderItsNewRing, OrdersAreRefused, AnotherKeyIsNotIssued, AnOrderMayLackRoom}
use Rattle.worked_scripts.specs.KeyScripts.{KickGoesWhereItCan, LeavingKeepsRanksAndMarks}

pub rotation_and_kick : RotationAndKick
unfolding computed RotationAndKick
rotation_and_kick = (refl, refl, refl, refl)

pub a_meter_answers_under_its_new_ring : AMeterAnswersUnderItsNewRing
unfolding computed AMeterAnswersUnderItsNewRing
a_meter_answers_under_its_new_ring = (refl, refl, refl, refl, refl)

pub orders_are_refused : OrdersAreRefused
unfolding computed OrdersAreRefused
orders_are_refused = (refl, refl)

pub another_key_is_not_issued : AnotherKeyIsNotIssued
unfolding computed AnotherKeyIsNotIssued
another_key_is_not_issued = (refl, refl)

pub an_order_may_lack_room : AnOrderMayLackRoom
unfolding computed AnOrderMayLackRoom
an_order_may_lack_room = (refl, refl, refl, refl)

pub kick_goes_where_it_can : KickGoesWhereItCan
unfolding computed KickGoesWhereItCan
kick_goes_where_it_can = (refl, refl, refl, refl, refl, refl)

pub leaving_keeps_ranks_and_marks : LeavingKeepsRanksAndMarks
unfolding computed LeavingKeepsRanksAndMarks
leaving_keeps_ranks_and_marks = (refl, refl, refl, refl, refl, refl, refl, refl, refl)
