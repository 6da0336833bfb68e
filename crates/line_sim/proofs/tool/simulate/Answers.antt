use Rattle.line_sim.specs.Tool.{Described, Bad}
use Rattle.line_sim.proofs.tool.simulate.Goals as goal

pub returns-in-Ok : goal.returns-in-Ok
returns-in-Ok g c = Described c.in-Ok.it c.in-Ok.ensures.plan c.write_wanted.ensures

pub returns-in-Err-Bad : goal.returns-in-Err-Bad
returns-in-Err-Bad g c =
    Bad _ (rw c.in-Err-Bad.field-0-is at c.in-Err-Bad.ensures.refused)
    (rw c.in-Err-Bad.field-0-is at (rw c.as_bytes.ensures.value at c.write_whole.ensures))
