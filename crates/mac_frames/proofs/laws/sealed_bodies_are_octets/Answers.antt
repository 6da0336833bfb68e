use Rattle.mac_frames.proofs.FrameOctets.{sealed_octets}
use Rattle.mac_frames.proofs.laws.sealed_bodies_are_octets.Goals as goal

pub returns : goal.returns
returns c = sealed_octets
