use Rattle.mac_frames.proofs.HeadsSaid.{sealed_say, plain_say, nonces_in_range}
use Rattle.mac_frames.proofs.laws.heads_say_their_nonces.Goals as goal

pub returns-clause-sealed : goal.returns-clause-sealed
returns-clause-sealed c = sealed_say

pub returns-clause-plain : goal.returns-clause-plain
returns-clause-plain c = plain_say

pub returns-clause-range : goal.returns-clause-range
returns-clause-range c = nonces_in_range
