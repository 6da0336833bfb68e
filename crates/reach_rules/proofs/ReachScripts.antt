-- What becomes of acknowledgements, broadcasts, beacons and path requests: the scripts are computed.
use Rattle.std.proofs.Common.{refl}
use Rattle.reach_rules.proofs.ComputedScripts.{computed}
use Rattle.reach_rules.specs.ReachScripts.{ALateNeighbourIsListed, ANeighbourInTimeIsBelieved, WithoutChecksAllAreBelieved, BroadcastsGoOnAndEnd}
use Rattle.reach_rules.specs.ReachScripts.{TheCheapestAgentIsChosen, TheCoordinatorIsAnAgent, APathIsAnswered, ABrokenPathIsNotAnswered}

pub a_late_neighbour_is_listed : ALateNeighbourIsListed
unfolding computed ALateNeighbourIsListed
a_late_neighbour_is_listed = (refl, refl)

pub a_neighbour_in_time_is_believed : ANeighbourInTimeIsBelieved
unfolding computed ANeighbourInTimeIsBelieved
a_neighbour_in_time_is_believed = (refl, refl)

pub without_checks_all_are_believed : WithoutChecksAllAreBelieved
unfolding computed WithoutChecksAllAreBelieved
without_checks_all_are_believed = (refl, refl)

pub broadcasts_go_on_and_end : BroadcastsGoOnAndEnd
unfolding computed BroadcastsGoOnAndEnd
broadcasts_go_on_and_end = (refl, refl)

pub the_cheapest_agent_is_chosen : TheCheapestAgentIsChosen
unfolding computed TheCheapestAgentIsChosen
the_cheapest_agent_is_chosen = (refl, refl, refl, refl)

pub the_coordinator_is_an_agent : TheCoordinatorIsAnAgent
unfolding computed TheCoordinatorIsAnAgent
the_coordinator_is_an_agent = (refl, refl, refl)

pub a_path_is_answered : APathIsAnswered
unfolding computed APathIsAnswered
a_path_is_answered = (refl, refl)

pub a_broken_path_is_not_answered : ABrokenPathIsNotAnswered
unfolding computed ABrokenPathIsNotAnswered
a_broken_path_is_not_answered = (refl, refl)
