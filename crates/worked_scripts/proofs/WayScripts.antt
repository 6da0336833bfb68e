-- Which joining messages are taken by which way, and what each other one is answered: the runs are computed.
use Rattle.std.proofs.Common.{refl}
use Rattle.worked_scripts.proofs.ComputedScripts.{computed}
use Rattle.worked_scripts.specs.WayScripts.{OnlyAJoinGoesUp, PlainFramesComeDown, CommandsComeFromTheCoordinator, OnlyAJoinReachesTheCoordinator}
use Rattle.worked_scripts.specs.WayScripts.{AnAnswerByCommandMayLackRoom}

pub only_a_join_goes_up : OnlyAJoinGoesUp
unfolding computed OnlyAJoinGoesUp
only_a_join_goes_up = (refl, refl, refl, refl)

pub plain_frames_come_down : PlainFramesComeDown
unfolding computed PlainFramesComeDown
plain_frames_come_down = (refl, refl, refl, refl, refl)

pub commands_come_from_the_coordinator : CommandsComeFromTheCoordinator
unfolding computed CommandsComeFromTheCoordinator
commands_come_from_the_coordinator = (refl, refl, refl, refl, refl, refl, refl)

pub only_a_join_reaches_the_coordinator : OnlyAJoinReachesTheCoordinator
unfolding computed OnlyAJoinReachesTheCoordinator
only_a_join_reaches_the_coordinator = (refl, refl, refl, refl, refl, refl, refl)

pub an_answer_by_command_may_lack_room : AnAnswerByCommandMayLackRoom
unfolding computed AnAnswerByCommandMayLackRoom
an_answer_by_command_may_lack_room = (refl, refl, refl, refl, refl, refl, refl, refl, refl, refl)
