-- The law, by the kinds of puts that the plans make.
use Rattle.node_rules.proofs.StationPuts.{stations_write_their_own, writes_keep_membership}
use Rattle.node_rules.proofs.table_laws.stations_write_their_own.Goals as goal

pub returns-clause-stations : goal.returns-clause-stations
returns-clause-stations c = stations_write_their_own

pub returns-clause-wrote : goal.returns-clause-wrote
returns-clause-wrote c = writes_keep_membership
