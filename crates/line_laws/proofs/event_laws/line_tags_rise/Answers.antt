-- The law, by the ways that events are made.
use Rattle.line_laws.proofs.FurtherTags.{line_tags_rise}
use Rattle.line_laws.proofs.event_laws.line_tags_rise.Goals as goal

pub returns : goal.returns
returns c = line_tags_rise
