use Rattle.std.proofs.Common.{◌≡◌, drop}
use Rattle.story_accounts.specs.Indexes.{makers_with}
use Rattle.story_accounts.proofs.index.push_makers.Given as goal

-- what comes of the flights to come
abbrev pub invariant-loop-course : goal.invariant-loop-course
invariant-loop-course l = makers_with l.number (drop l.course-index l.courses) l.events.items ≡ makers_with l.number l.courses l.fn.events.items
