-- The law, by the cases of its rule.
use Rattle.line_progress.proofs.PiecesHeard.{hearing_keeps}
use Rattle.line_progress.proofs.laws.hearing_keeps_pieces.Goals as goal

pub returns : goal.returns
returns c = hearing_keeps
