-- The law, by the ways that events are made.
use Rattle.line_laws.proofs.FurtherRanges.{beacons_are_spelled, line_steps_spell}
use Rattle.line_laws.proofs.event_laws.line_steps_spell.Goals as goal

pub returns-clause-flights : goal.returns-clause-flights
returns-clause-flights c = line_steps_spell

pub returns-clause-beacons : goal.returns-clause-beacons
returns-clause-beacons c = beacons_are_spelled
