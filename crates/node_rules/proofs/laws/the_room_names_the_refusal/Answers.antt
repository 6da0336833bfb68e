-- The law, by what is tested.
use Rattle.node_rules.proofs.Rooms.{room_names}
use Rattle.node_rules.proofs.laws.the_room_names_the_refusal.Goals as goal

pub returns : goal.returns
returns c = room_names
