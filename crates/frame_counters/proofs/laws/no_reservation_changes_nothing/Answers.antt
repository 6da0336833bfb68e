use Rattle.frame_counters.proofs.AdmissionPuts.{no_reservation}
use Rattle.frame_counters.proofs.laws.no_reservation_changes_nothing.Goals as goal

pub returns : goal.returns
returns c = no_reservation
