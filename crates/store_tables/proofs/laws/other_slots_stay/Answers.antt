use Rattle.store_tables.proofs.CutWrites.{put_outside, slot_stays}
use Rattle.store_tables.proofs.laws.other_slots_stay.Goals as goal

pub returns-clause-slots : goal.returns-clause-slots
returns-clause-slots c = slot_stays

pub returns-clause-outside : goal.returns-clause-outside
returns-clause-outside c = put_outside
