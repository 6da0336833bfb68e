-- The law, by the histories and the stored logs.
use Rattle.std.specs.Prelude.{[]}
use Rattle.run_laws.proofs.BesideSizes.{all_sized}
use Rattle.run_laws.proofs.laws.tables_beside_keep_their_sizes.Goals as goal

pub returns : goal.returns
returns c entries run =
    all_sized c.at_most_64.ensures.neighbours [] entries (c.every_history_is_kept.ensures entries run) (c.every_log_is_kept.ensures entries run)
