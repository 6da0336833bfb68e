use Rattle.std.proofs.Common.{◌∙◌, ◌+◌, sym}
use Rattle.line_readings.proofs.Counting.{came_and_missing}
use Rattle.line_readings.proofs.counts.counts_of.Goals as goal

pub returns-clause-sum : goal.returns-clause-sum
returns-clause-sum c =
    (λ i. c.came_of.ensures i + c.missing_of.ensures i) ∙ came_and_missing c.args.node c.args.readings.now ∙ sym c.due_of.ensures
