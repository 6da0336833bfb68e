-- What becomes of ranks that messages offer: which are refused, which are kept, and which are forgotten: the runs are computed.
use Rattle.std.proofs.Common.{refl}
use Rattle.worked_scripts.proofs.ComputedScripts.{computed}
use Rattle.worked_scripts.specs.RankScripts.{CostsAreSpent, RequestsOfferRanks, RepliesOfferRanks, AReplyGoesByTheHopFromBefore, AnAnswerTakesANumber}
use Rattle.worked_scripts.specs.RankScripts.{ARouteEndsAfterSixHours, AFullTableRefuses, AFullTableForgetsTheEarliest, AFullTableForgetsTheBroken}
use Rattle.worked_scripts.specs.RankScripts.{FloorsAreStoredFirst, ANodeHearsSixtyFourSenders}

pub costs_are_spent : CostsAreSpent
unfolding computed CostsAreSpent
costs_are_spent = (refl, refl, refl)

pub requests_offer_ranks : RequestsOfferRanks
unfolding computed RequestsOfferRanks
requests_offer_ranks = (refl, refl, refl, refl, refl, refl, refl)

pub replies_offer_ranks : RepliesOfferRanks
unfolding computed RepliesOfferRanks
replies_offer_ranks = (refl, refl, refl, refl)

pub a_reply_goes_by_the_hop_from_before : AReplyGoesByTheHopFromBefore
unfolding computed AReplyGoesByTheHopFromBefore
a_reply_goes_by_the_hop_from_before = (refl, refl, refl)

pub an_answer_takes_a_number : AnAnswerTakesANumber
unfolding computed AnAnswerTakesANumber
an_answer_takes_a_number = (refl, refl)

pub a_route_ends_after_six_hours : ARouteEndsAfterSixHours
unfolding computed ARouteEndsAfterSixHours
a_route_ends_after_six_hours = (refl, refl, refl, refl)

pub a_full_table_refuses : AFullTableRefuses
unfolding computed AFullTableRefuses
a_full_table_refuses = refl

pub a_full_table_forgets_the_earliest : AFullTableForgetsTheEarliest
unfolding computed AFullTableForgetsTheEarliest
a_full_table_forgets_the_earliest = (refl, refl, refl, refl, refl)

pub a_full_table_forgets_the_broken : AFullTableForgetsTheBroken
unfolding computed AFullTableForgetsTheBroken
a_full_table_forgets_the_broken = (refl, refl, refl, refl, refl)

pub floors_are_stored_first : FloorsAreStoredFirst
unfolding computed FloorsAreStoredFirst
floors_are_stored_first = (refl, refl, refl)

pub a_node_hears_sixty_four_senders : ANodeHearsSixtyFourSenders
unfolding computed ANodeHearsSixtyFourSenders
a_node_hears_sixty_four_senders = (refl, refl)
