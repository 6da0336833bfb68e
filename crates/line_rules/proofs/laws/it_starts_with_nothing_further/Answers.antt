-- The law, by what empty histories say.
use Rattle.std.proofs.Common.{refl}
use Rattle.neighbour_checks.specs.History as checking
use Rattle.pan_discovery.specs.History as scanning
use Rattle.line_rules.proofs.laws.it_starts_with_nothing_further.Goals as goal

pub returns : goal.returns
unfolding checking.after_history scanning.after_history
returns c = record { history = record { checks = λ number. refl; scan = λ number. refl }; once = tt; walked = tt }
