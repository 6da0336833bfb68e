use Rattle.std.proofs.Common.{refl}
use Rattle.line_view.proofs.Recorded.{recorded_world}
use Rattle.line_view.specs.CaptureRuns.{CaptureRun, nothing_captured, rules}
use Rattle.line_view.specs.RunMachines.{FollowsRun}
use Rattle.line_view.proofs.tool.capture.Goals as goal

pub returns-clause-captures : goal.returns-clause-captures
returns-clause-captures g c =
    let first : CaptureRun = nothing_captured c.args.wanted in
    let follows : FollowsRun rules first
    = record { begins = refl; entries = λ row entry m. recorded_world row entry m.run; quiet = λ m content. tt } in
    c.account.ensures.accounts first c.new.ensures follows
