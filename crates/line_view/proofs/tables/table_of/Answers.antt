use Rattle.std.proofs.Common.{subst, ◌∙◌}
use Rattle.line_view.specs.TableRuns.{IsTableBy, node_count}
use Rattle.line_view.proofs.tables.table_of.Goals as goal

pub returns : goal.returns
returns c =
    subst (λ stories. IsTableBy c.args.table c.args.journal.now.spares.items (node_count c.args.run.now) stories c.in_ok-text.text.items)
    (c.seen-view.ensures ∙ c.in_ok-run_stories.ensures) c.in_ok-text.ensures
