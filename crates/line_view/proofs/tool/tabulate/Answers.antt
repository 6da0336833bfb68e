use Rattle.line_view.proofs.Tabled.{table_follows}
use Rattle.line_view.specs.TableRuns.{nothing_tabled}
use Rattle.line_view.proofs.tool.tabulate.Goals as goal

pub returns-clause-tabulates : goal.returns-clause-tabulates
returns-clause-tabulates g c = c.tell.ensures.tells (nothing_tabled c.args.table) c.new.ensures (table_follows c.args.table)
