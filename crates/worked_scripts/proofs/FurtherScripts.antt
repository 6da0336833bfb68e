-- The worked rows of further reach: the runs are computed.
use Rattle.std.proofs.Common.{refl}
use Rattle.worked_scripts.proofs.ComputedScripts.{computed}
use Rattle.worked_scripts.specs.FurtherScripts.{RepliesAreAcknowledged, BroadcastsComeOnce, MetersChooseAgents, PathsAreAnswered}

pub replies_are_acknowledged : RepliesAreAcknowledged
unfolding computed RepliesAreAcknowledged
replies_are_acknowledged = (refl, refl, refl, refl)

pub broadcasts_come_once : BroadcastsComeOnce
unfolding computed BroadcastsComeOnce
broadcasts_come_once = (refl, refl, refl)

pub meters_choose_agents : MetersChooseAgents
unfolding computed MetersChooseAgents
meters_choose_agents = (refl, refl, refl, refl, refl, refl, refl)

pub paths_are_answered : PathsAreAnswered
unfolding computed PathsAreAnswered
paths_are_answered = (refl, refl, refl, refl)
