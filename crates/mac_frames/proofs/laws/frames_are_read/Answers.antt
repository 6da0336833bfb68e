use Rattle.mac_frames.proofs.HeadsRead.{frame_read}
use Rattle.mac_frames.proofs.laws.frames_are_read.Goals as goal

pub returns : goal.returns
returns c = frame_read
