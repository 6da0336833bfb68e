use Rattle.line_rules.proofs.LogsKept.{kept_at_first, logs_kept}
use Rattle.line_rules.proofs.laws.logs_are_kept.Goals as goal

pub returns-clause-first : goal.returns-clause-first
returns-clause-first c = kept_at_first

pub returns-clause-later : goal.returns-clause-later
returns-clause-later c = logs_kept
