use Rattle.std.proofs.Common.{Some, ◌∙◌, ap}
use Rattle.toml.proofs.Views.{table_get}
use Rattle.toml.specs.Data.{as_table}
use Rattle.toml.specs.View.{members_view}
use Rattle.line_plan.specs.Options.{inner_of}
use Rattle.line_plan.proofs.options.inner.Goals as goal

pub returns-in-None : goal.returns-in-None
returns-in-None c =
    let found = table_get c.get.result c.args.name.now c.args.table.now.entries c.get.ensures.value in
    ap (λ es. Some (members_view es)) c.new.ensures.empty ∙ ap inner_of (rw c.in-None.is at found)

pub returns-in_ok-copy-in-Some : goal.returns-in_ok-copy-in-Some
returns-in_ok-copy-in-Some c =
    let found = table_get c.get.result c.args.name.now c.args.table.now.entries c.get.ensures.value in
    c.table_of.ensures ∙ ap as_table c.in_ok-copy-in-Some.ensures.cases ∙ ap inner_of (rw c.in-Some.is at found)
