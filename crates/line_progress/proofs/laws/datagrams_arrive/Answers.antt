-- The law: each frame over all links before the next one is an order of deliveries.
use Rattle.line_progress.proofs.PieceByPiece.{arrive}
use Rattle.line_progress.proofs.laws.datagrams_arrive.Goals as goal

pub returns : goal.returns
returns c = arrive
