use Rattle.std.proofs.Common.{◌≡◌, ◌++◌, drop}
use Rattle.story_accounts.specs.Waits.{takers_from}
use Rattle.story_accounts.proofs.waiting.takers_of.Given as goal

-- the nodes so far and those to come
abbrev pub invariant-loop-i : goal.invariant-loop-i
invariant-loop-i l = l.takers.items ++ takers_from l.i (drop l.i l.states) ≡ takers_from 0 l.states
