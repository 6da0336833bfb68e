use Rattle.std.proofs.Common.{◌≡◌}
use Rattle.line_owner.specs.Agents.{nth_agent}
use Rattle.line_owner.proofs.agents.nth_agent.Given as goal

abbrev pub invariant-loop-k : goal.invariant-loop-k
invariant-loop-k l = l.agent ≡ nth_agent l.place l.members l.node l.k
