-- The law, by the kinds of puts that the plans make.
use Rattle.node_rules.proofs.RingPuts.{coordinators_write_no_ring, writes_keep_ring}
use Rattle.node_rules.proofs.table_laws.coordinators_write_no_ring.Goals as goal

pub returns-clause-coordinators : goal.returns-clause-coordinators
returns-clause-coordinators c = coordinators_write_no_ring

pub returns-clause-wrote : goal.returns-clause-wrote
returns-clause-wrote c = writes_keep_ring
