-- The law, by the kinds of events.
use Rattle.line_progress.proofs.EventFates.{pieces_kept}
use Rattle.line_progress.proofs.laws.events_keep_pieces.Goals as goal

pub returns : goal.returns
returns c = pieces_kept
