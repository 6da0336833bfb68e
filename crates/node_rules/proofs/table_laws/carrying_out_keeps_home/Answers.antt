-- The law: each such put keeps slot 1.
use Rattle.node_rules.proofs.HomePuts.{carrying_out_keeps_home, writes_keep_home}
use Rattle.node_rules.proofs.table_laws.carrying_out_keeps_home.Goals as goal

pub returns-clause-carried : goal.returns-clause-carried
returns-clause-carried c start = carrying_out_keeps_home

pub returns-clause-wrote : goal.returns-clause-wrote
returns-clause-wrote c start = writes_keep_home
