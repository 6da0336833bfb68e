use Rattle.std.proofs.Common.{◌≡◌, false, take}
use Rattle.std.specs.List.{list_any}
use Rattle.line_flights.specs.Flights.{is_forged_tag}
use Rattle.line_flights.proofs.made_tags.MadeTags.has_forged.Given as goal

-- no tag so far is forged
abbrev pub invariant-loop-tag : goal.invariant-loop-tag
invariant-loop-tag l = list_any (is_forged_tag l.self.tags) (take l.tag-index l.tags) ≡ false
