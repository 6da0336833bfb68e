-- The law, by the rule of reassembly.
use Rattle.line_progress.proofs.PieceReceipts.{pieces_come}
use Rattle.line_progress.proofs.laws.pieces_come_in.Goals as goal

pub returns : goal.returns
returns c = pieces_come
