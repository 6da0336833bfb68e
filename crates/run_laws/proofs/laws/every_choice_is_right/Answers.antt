-- The law, by the histories of scans.
use Rattle.std.specs.Prelude.{[]}
use Rattle.line_rules.specs.Worlds.{start}
use Rattle.run_laws.proofs.Choices.{chosen_from}
use Rattle.run_laws.proofs.laws.every_choice_is_right.Goals as goal

pub returns : goal.returns
returns c entries run = chosen_from [] start c.it_starts_with_nothing_further.ensures.history entries run.run (c.every_history_is_kept.ensures entries run)
