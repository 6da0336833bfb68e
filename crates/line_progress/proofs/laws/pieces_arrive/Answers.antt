-- The law, by what the station makes of the piece.
use Rattle.line_progress.proofs.PieceArrivals.{pieces_arrive}
use Rattle.line_progress.proofs.laws.pieces_arrive.Goals as goal

pub returns : goal.returns
returns c = pieces_arrive
