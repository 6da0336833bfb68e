use Rattle.line_sim.specs.Tool.{Said}
use Rattle.line_sim.proofs.tool.write_apart.Goals as goal

pub returns-in-Ok : goal.returns-in-Ok
returns-in-Ok g c = Said (rw c.in-Ok.ensures at (rw c.as_bytes.ensures.value at c.write_whole.ensures))
