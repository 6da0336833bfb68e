-- The law: each put in place keeps the tables.
use Rattle.node_rules.proofs.Tables.{carrying_out_keeps_tables, writes_keep_tables}
use Rattle.node_rules.proofs.table_laws.carrying_out_keeps_tables.Goals as goal

pub returns-clause-carried : goal.returns-clause-carried
returns-clause-carried c start = carrying_out_keeps_tables

pub returns-clause-wrote : goal.returns-clause-wrote
returns-clause-wrote c start = writes_keep_tables
