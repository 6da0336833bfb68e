use Rattle.std.proofs.Common.{◌≡◌, drop}
use Rattle.story_accounts.specs.Waits.{has_refuser}
use Rattle.story_accounts.proofs.waiting.has_refuser.Given as goal

-- what the nodes to come say
abbrev pub invariant-loop-i : goal.invariant-loop-i
invariant-loop-i l = has_refuser l.asker l.i (drop l.i l.states) ≡ has_refuser l.asker 0 l.states
