-- The law, by the kinds of puts that the plans make.
use Rattle.node_rules.proofs.TablePlans.{stations, meters_in_place, coordinators_in_place}
use Rattle.node_rules.proofs.table_laws.plans_write_in_place.Goals as goal

pub returns-clause-stations : goal.returns-clause-stations
returns-clause-stations c = stations

pub returns-clause-meters : goal.returns-clause-meters
returns-clause-meters c = meters_in_place

pub returns-clause-coordinators : goal.returns-clause-coordinators
returns-clause-coordinators c = coordinators_in_place
