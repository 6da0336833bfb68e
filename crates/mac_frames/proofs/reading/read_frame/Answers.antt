use Rattle.mac_frames.proofs.HeadsRead.{places_read}
use Rattle.mac_frames.proofs.Values.{one_value, only_read}
use Rattle.mac_frames.proofs.reading.read_frame.Goals as goal

pub returns-clause-places : goal.returns-clause-places
returns-clause-places c = places_read c.args.octets.now c.frame_of.result c.frame_of.ensures.found

pub returns-clause-only : goal.returns-clause-only
returns-clause-only c = only_read c.args.octets.now c.frame_of.result c.frame_of.ensures.found c.frame_of.ensures.exact

pub returns-clause-one_value : goal.returns-clause-one_value
returns-clause-one_value c = λ a b x y left right. one_value a b x y c.args.octets.now left right
