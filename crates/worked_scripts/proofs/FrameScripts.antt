-- What becomes of frames that no node sent, and how frames are spelled: the runs are computed.
use Rattle.std.proofs.Common.{refl}
use Rattle.worked_scripts.proofs.ComputedScripts.{computed}
use Rattle.worked_scripts.specs.FrameScripts.{AForgedFrameIsNamed, ALostFrameIsNotForged, MaliciousFramesAreRefused, FramesHaveTheirNodes, UnitsHaveTheirPaths}
use Rattle.worked_scripts.specs.FrameScripts.{FramesAreSpelled}

pub a_forged_frame_is_named : AForgedFrameIsNamed
unfolding computed AForgedFrameIsNamed
a_forged_frame_is_named = (refl, refl, refl, refl)

pub a_lost_frame_is_not_forged : ALostFrameIsNotForged
unfolding computed ALostFrameIsNotForged
a_lost_frame_is_not_forged = (refl, refl, refl)

pub malicious_frames_are_refused : MaliciousFramesAreRefused
unfolding computed MaliciousFramesAreRefused
malicious_frames_are_refused = (refl, refl)

pub frames_have_their_nodes : FramesHaveTheirNodes
unfolding computed FramesHaveTheirNodes
frames_have_their_nodes = refl

pub units_have_their_paths : UnitsHaveTheirPaths
unfolding computed UnitsHaveTheirPaths
units_have_their_paths = (refl, refl)

pub frames_are_spelled : FramesAreSpelled
unfolding computed FramesAreSpelled
frames_are_spelled = (refl, refl, refl, refl, refl, refl)
