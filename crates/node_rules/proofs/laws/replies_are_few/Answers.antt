-- The law, by the shapes of the plans.
use Rattle.node_rules.proofs.ReplyFrames.{coordinators_replies_few, meters_replies_few, replies_few}
use Rattle.node_rules.proofs.laws.replies_are_few.Goals as goal

pub returns-clause-stations : goal.returns-clause-stations
returns-clause-stations c = replies_few

pub returns-clause-meters : goal.returns-clause-meters
returns-clause-meters c = meters_replies_few

pub returns-clause-coordinators : goal.returns-clause-coordinators
returns-clause-coordinators c = coordinators_replies_few
