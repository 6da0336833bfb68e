-- The table that the fields of a table stand for.
use Rattle.std.specs.Prelude.{Option, None, Some, String}
use Rattle.std.specs.Borrow.{Bor}
use Rattle.std.specs.BTreeMap.{BTreeMap}
use Rattle.std.specs.declared.alloc.Global.{Global}
use Rattle.toml.specs.Data.{Members, no_members}
use Rattle.toml.specs.View.{table_view}
use Rattle.toml.specs.declared.value.Value.{Value}
use Rattle.plan_tables.specs.declared.fields.Fields.{Fields}
use Rattle.plan_tables.specs.Faults.{TableAt}

abbrev pub members_of : Option (Bor (BTreeMap (String Global) Value)) → Members
members_of (Some table) = table_view table.now
members_of None = no_members

abbrev pub table_of : Fields → TableAt
table_of fields = record { section = fields.section; members = members_of fields.table }
