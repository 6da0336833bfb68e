use Rattle.std.proofs.Common.{nat_lt}
use Rattle.line_sim.proofs.Scripts.{no_script}
use Rattle.line_sim.proofs.recorder.Recorder.new.Goals as goal

pub invariant_of-result : goal.invariant_of-result
invariant_of-result g c = rw (c.new-2.ensures.items, c.in_ok-world.ensures) (no_script (nat_lt 0 g.row.INJECTS) c.new-3.result)

pub returns : goal.returns
returns g c = λ i. record { script = c.new-2.ensures.items i; world = c.in_ok-world.ensures i; order = c.new-3.ensures i }
