use Rattle.std.proofs.Common.{◌≡◌, ◌+◌, ◌-◌, ◌++◌, length, take}
use Rattle.line_flights.proofs.made_tags.MadeTags.note.Given as goal

-- the tags so far are added
abbrev pub invariant-loop-tag : goal.invariant-loop-tag
invariant-loop-tag l = record {
  tags : l.self.tags ≡ l.initial.self.tags ++ take l.tag-index l.tags;
  count : length l.self.tags ≡ length l.initial.self.tags + l.tag-index;
  places : l.self.places ≡ l.initial.self.places - l.tag-index;
}
