use Rattle.std.proofs.Common.{◌≡◌, drop}
use Rattle.story_accounts.specs.Indexes.{searches_from}
use Rattle.story_accounts.proofs.index.push_searches.Given as goal

-- what comes of the flights to come
abbrev pub invariant-loop-i : goal.invariant-loop-i
invariant-loop-i l = searches_from l.i (drop l.i l.courses) l.searches.items ≡ searches_from 0 l.courses l.fn.searches.items
