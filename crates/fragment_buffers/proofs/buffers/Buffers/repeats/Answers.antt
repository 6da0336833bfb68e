use Rattle.std.proofs.Common.{ap, ◌∙◌}
use Rattle.std.specs.List.{list_any}
use Rattle.fragment_buffers.specs.Entries.{same_place, place_of}
use Rattle.fragment_buffers.proofs.buffers.Buffers.repeats.Goals as goal

pub returns-clause-value : goal.returns-clause-value
returns-clause-value c = c.has_place.ensures ∙ ap (list_any (same_place (place_of c.args.piece.now))) c.places_of.ensures.value
