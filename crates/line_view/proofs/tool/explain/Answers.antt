use Rattle.std.proofs.Common.{refl}
use Rattle.line_view.proofs.Recorded.{recorded_world}
use Rattle.line_view.specs.ExplainRuns.{ExplainRun, nothing_explained, rules}
use Rattle.line_view.specs.RunMachines.{FollowsRun}
use Rattle.line_view.proofs.tool.explain.Goals as goal

pub returns-clause-explains : goal.returns-clause-explains
returns-clause-explains g c =
    let first : ExplainRun = nothing_explained c.args.chosen in
    let follows : FollowsRun rules first
    = record { begins = refl; entries = λ row entry m. recorded_world row entry m.run; quiet = λ m content. tt } in
    c.tell.ensures.tells first c.new.ensures follows
