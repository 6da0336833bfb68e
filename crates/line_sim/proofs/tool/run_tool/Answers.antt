use Rattle.std.proofs.Common.{refl}
use Rattle.line_sim.proofs.tool.run_tool.Goals as goal

pub returns-in-Some : goal.returns-in-Some
returns-in-Some g c = record {
  runs = rw (← c.in-Some.ensures) c.simulate.ensures;
}

pub returns-in-None : goal.returns-in-None
returns-in-None g c = record {
  runs = rw (← c.in-None.ensures) (record { written = c.write_whole.ensures; unread = refl });
}
