-- The law, by the cases of its rule.
use Rattle.line_progress.proofs.PieceFates.{piece_fates}
use Rattle.line_progress.proofs.laws.pieces_have_fates.Goals as goal

pub returns : goal.returns
returns c = piece_fates
