use Rattle.toml.proofs.Views.{table_get}
use Rattle.plan_tables.proofs.fields.Fields.get.Goals as goal

pub returns-in-Some : goal.returns-in-Some
returns-in-Some c =
    let found = table_get c.get.result c.word.result.now c.in-Some.table.now.entries c.get.ensures.value in
    rw (c.in-Some.is, ← c.word.ensures) found
