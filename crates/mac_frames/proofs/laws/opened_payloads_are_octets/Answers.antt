use Rattle.mac_frames.proofs.FrameOctets.{body_octets, opened_octets}
use Rattle.mac_frames.proofs.laws.opened_payloads_are_octets.Goals as goal

pub returns-clause-body : goal.returns-clause-body
returns-clause-body c = body_octets

pub returns-clause-payload : goal.returns-clause-payload
returns-clause-payload c = opened_octets
