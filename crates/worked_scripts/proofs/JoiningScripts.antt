-- What becomes of joinings: over the air and through an agent, in time and late, with packets that are refused: the runs are computed.
use Rattle.std.proofs.Common.{refl}
use Rattle.worked_scripts.proofs.ComputedScripts.{computed}
use Rattle.worked_scripts.specs.JoiningScripts.{AMeterJoinsOverTheAir, AnOldThirdPacketIsRefused, PlainFramesTakeNoCounter, AMeterJoinsThroughAnAgent}
use Rattle.worked_scripts.specs.JoiningScripts.{ASessionEndsAfterTwoMinutes, ChallengesAreJudgedInOrder, AForgedGrantIsNamed, AForgedAnswerIsNamed}
use Rattle.worked_scripts.specs.JoiningScripts.{PacketsAreChecked, EightSessionsAreOpen, AKickedMeterMayNotKnow, TwoJoiningsHaveTwoValues}

pub a_meter_joins_over_the_air : AMeterJoinsOverTheAir
unfolding computed AMeterJoinsOverTheAir
a_meter_joins_over_the_air = (refl, refl, refl, refl, refl, refl)

pub an_old_third_packet_is_refused : AnOldThirdPacketIsRefused
unfolding computed AnOldThirdPacketIsRefused
an_old_third_packet_is_refused = refl

pub plain_frames_take_no_counter : PlainFramesTakeNoCounter
unfolding computed PlainFramesTakeNoCounter
plain_frames_take_no_counter = refl

pub a_meter_joins_through_an_agent : AMeterJoinsThroughAnAgent
unfolding computed AMeterJoinsThroughAnAgent
a_meter_joins_through_an_agent = (refl, refl, refl, refl, refl)

pub a_session_ends_after_two_minutes : ASessionEndsAfterTwoMinutes
unfolding computed ASessionEndsAfterTwoMinutes
a_session_ends_after_two_minutes = (refl, refl, refl, refl, refl, refl)

pub challenges_are_judged_in_order : ChallengesAreJudgedInOrder
unfolding computed ChallengesAreJudgedInOrder
challenges_are_judged_in_order = refl

pub a_forged_grant_is_named : AForgedGrantIsNamed
unfolding computed AForgedGrantIsNamed
a_forged_grant_is_named = (refl, refl, refl, refl, refl, refl, refl)

pub a_forged_answer_is_named : AForgedAnswerIsNamed
unfolding computed AForgedAnswerIsNamed
a_forged_answer_is_named = (refl, refl, refl, refl, refl)

pub packets_are_checked : PacketsAreChecked
unfolding computed PacketsAreChecked
packets_are_checked = (refl, refl)

pub eight_sessions_are_open : EightSessionsAreOpen
unfolding computed EightSessionsAreOpen
eight_sessions_are_open = (refl, refl)

pub a_kicked_meter_may_not_know : AKickedMeterMayNotKnow
unfolding computed AKickedMeterMayNotKnow
a_kicked_meter_may_not_know = (refl, refl)

pub two_joinings_have_two_values : TwoJoiningsHaveTwoValues
unfolding computed TwoJoiningsHaveTwoValues
two_joinings_have_two_values = (refl, refl, refl, refl, refl)
