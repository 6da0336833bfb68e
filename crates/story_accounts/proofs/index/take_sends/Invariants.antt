use Rattle.std.proofs.Common.{◌≡◌, drop}
use Rattle.story_accounts.specs.Indexes.{sends_from}
use Rattle.story_accounts.proofs.index.take_sends.Given as goal

-- what comes of the sends to come
abbrev pub invariant-loop-i : goal.invariant-loop-i
invariant-loop-i l = sends_from l.i (drop l.i l.sent) l.sends.items ≡ sends_from 0 l.sent l.fn.sends.items
