use Rattle.std.proofs.Common.{◌≡◌, drop}
use Rattle.line_record.specs.NodeItems.{stories_ended}
use Rattle.line_record.proofs.keeping.end_stories.Given as goal

-- what comes of what is kept after that
abbrev pub invariant-loop-kept : goal.invariant-loop-kept
invariant-loop-kept l =
    stories_ended l.number l.recorded (drop l.kept-index l.keeping) l.stories.items ≡ stories_ended l.number l.recorded l.keeping l.fn.stories.items
