use Rattle.std.proofs.Common.{rules}
use Rattle.line_air.specs.Counts.{count_of, counts_after, counts_without}
use Rattle.line_air.proofs.given_up.GivenUp.add.Goals as goal

pub returns-then-saturating_add-break_after-clause-counts :
    goal.returns-then-saturating_add-break_after-clause-counts
unfolding count_of counts_after counts_without
returns-then-saturating_add-break_after-clause-counts c = search rules

pub returns-clause-counts : goal.returns-clause-counts
unfolding count_of counts_after counts_without
returns-clause-counts c = search rules
