-- The law, by the ways that events are made.
use Rattle.line_laws.proofs.FurtherGrowth.{line_books_grow}
use Rattle.line_laws.proofs.event_laws.line_books_grow.Goals as goal

pub returns : goal.returns
returns c = line_books_grow
