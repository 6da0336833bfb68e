use Rattle.mac_frames.proofs.OpensAgain.{bodies_open, bodies_longer}
use Rattle.mac_frames.proofs.laws.sealed_bodies_open.Goals as goal

pub returns-clause-opens : goal.returns-clause-opens
returns-clause-opens c = bodies_open

pub returns-clause-longer : goal.returns-clause-longer
returns-clause-longer c = bodies_longer
