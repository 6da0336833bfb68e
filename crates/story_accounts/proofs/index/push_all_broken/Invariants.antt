use Rattle.std.proofs.Common.{◌≡◌, drop}
use Rattle.story_accounts.specs.Indexes.{broken_from}
use Rattle.story_accounts.proofs.index.push_all_broken.Given as goal

-- what comes of the flights to come
abbrev pub invariant-loop-i : goal.invariant-loop-i
invariant-loop-i l = broken_from l.i (drop l.i l.courses) l.broken.items ≡ broken_from 0 l.courses l.fn.broken.items
