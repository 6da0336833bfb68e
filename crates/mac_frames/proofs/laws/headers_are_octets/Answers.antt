use Rattle.mac_frames.proofs.FrameOctets.{header_octets}
use Rattle.mac_frames.proofs.laws.headers_are_octets.Goals as goal

pub returns : goal.returns
returns c = header_octets
