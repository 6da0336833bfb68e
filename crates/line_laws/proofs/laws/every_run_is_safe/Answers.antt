-- The law, of the laws of its parts.
use Rattle.line_laws.proofs.SafeRun.{every_safe}
use Rattle.line_laws.proofs.laws.every_run_is_safe.Goals as goal

pub returns : goal.returns
returns c = every_safe
