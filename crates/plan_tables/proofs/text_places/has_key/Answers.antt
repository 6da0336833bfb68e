use Rattle.std.proofs.Common.{ap, ◌∙◌}
use Rattle.std.specs.Prelude.{is_some}
use Rattle.toml.proofs.Views.{table_get}
use Rattle.toml.specs.View.{view}
use Rattle.plan_tables.proofs.Lines.{still_some}
use Rattle.plan_tables.proofs.text_places.has_key.Goals as goal

pub returns : goal.returns
returns c =
    let found = table_get c.get.result c.args.key.now c.args.table.now.entries c.get.ensures.value in
    c.is_some.ensures ∙ still_some (λ v. view v.now) c.get.result ∙ ap is_some found
