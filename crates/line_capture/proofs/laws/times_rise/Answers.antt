use Rattle.line_capture.proofs.PacketTimes.{times_rise_is}
use Rattle.line_capture.proofs.laws.times_rise.Goals as goal

pub returns : goal.returns
returns c = times_rise_is
