-- The law, by the kinds of puts that the plans make.
use Rattle.node_rules.proofs.HomePuts.{coordinators_home}
use Rattle.node_rules.proofs.table_laws.coordinators_write_home.Goals as goal

pub returns : goal.returns
returns c = coordinators_home
