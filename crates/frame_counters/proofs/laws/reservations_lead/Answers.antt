use Rattle.store_tables.proofs.StoredLimits.{reservations_lead}
use Rattle.frame_counters.specs.SendCounter.{limit_at}
use Rattle.frame_counters.proofs.laws.reservations_lead.Goals as goal
use Rattle.frame_counters.specs.declared.send_counter.TheConstants.{COUNTERS_AHEAD}

pub returns : goal.returns
returns c = reservations_lead limit_at COUNTERS_AHEAD
