use Rattle.line_sim.proofs.tool.write_wanted.Goals as goal

pub returns-in-OfRun : goal.returns-in-OfRun
returns-in-OfRun g c = rw c.in-OfRun.is c.run_plan.ensures

pub returns-in-Links : goal.returns-in-Links
returns-in-Links g c = rw c.in-Links.is c.write_links.ensures
