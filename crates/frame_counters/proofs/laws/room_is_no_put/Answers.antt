use Rattle.frame_counters.proofs.AdmissionPuts.{room_answers}
use Rattle.frame_counters.proofs.laws.room_is_no_put.Goals as goal

pub returns : goal.returns
returns c = room_answers
