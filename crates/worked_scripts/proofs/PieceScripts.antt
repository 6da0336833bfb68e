-- What becomes of the pieces of datagrams at the node that gathers them: the runs are computed.
use Rattle.std.proofs.Common.{refl}
use Rattle.worked_scripts.proofs.ComputedScripts.{computed}
use Rattle.worked_scripts.specs.PieceScripts.{ThePiecesMakeTheDatagram, PiecesComeInAnyOrder, ARepeatedPieceIsIgnored, AnOverlapBeginsAnew, PiecesAreNamed}
use Rattle.worked_scripts.specs.PieceScripts.{EightAreGathered, EightyBlocksAreGathered, GatheringEndsAfterAMinute}

pub the_pieces_make_the_datagram : ThePiecesMakeTheDatagram
unfolding computed ThePiecesMakeTheDatagram
the_pieces_make_the_datagram = (refl, refl, refl, refl, refl)

pub pieces_come_in_any_order : PiecesComeInAnyOrder
unfolding computed PiecesComeInAnyOrder
pieces_come_in_any_order = (refl, refl, refl, refl)

pub a_repeated_piece_is_ignored : ARepeatedPieceIsIgnored
unfolding computed ARepeatedPieceIsIgnored
a_repeated_piece_is_ignored = (refl, refl)

pub an_overlap_begins_anew : AnOverlapBeginsAnew
unfolding computed AnOverlapBeginsAnew
an_overlap_begins_anew = (refl, refl)

pub pieces_are_named : PiecesAreNamed
unfolding computed PiecesAreNamed
pieces_are_named = (refl, refl)

pub eight_are_gathered : EightAreGathered
unfolding computed EightAreGathered
eight_are_gathered = (refl, refl)

pub eighty_blocks_are_gathered : EightyBlocksAreGathered
unfolding computed EightyBlocksAreGathered
eighty_blocks_are_gathered = (refl, refl)

pub gathering_ends_after_a_minute : GatheringEndsAfterAMinute
unfolding computed GatheringEndsAfterAMinute
gathering_ends_after_a_minute = (refl, refl, refl, refl)
