use Rattle.std.proofs.Common.{refl}
use Rattle.aes_modes.specs.Sliced.{circuit}
use Rattle.aes_modes.proofs.Lanes.{octets_of_circuit}
use Rattle.aes_modes.proofs.sliced.circuit.Goals as goal

pub returns-clause-circuit : goal.returns-clause-circuit
unfolding circuit
returns-clause-circuit c = refl

pub returns-clause-octets : goal.returns-clause-octets
unfolding circuit
returns-clause-octets c = octets_of_circuit c.args.u7 c.args.u6 c.args.u5 c.args.u4 c.args.u3 c.args.u2 c.args.u1 c.args.u0
