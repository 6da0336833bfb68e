use Rattle.std.proofs.Common.{◌≡◌, ◌≤◌, drop}
use Rattle.std.specs.List.{fold}
use Rattle.line_owner.specs.Agents.{count_step}
use Rattle.line_owner.proofs.agents.agent_count.Given as goal

-- the agents so far and those to come are all
abbrev pub invariant-loop-link : goal.invariant-loop-link
invariant-loop-link l =
    (l.count ≤ l.link-index)
    × (fold (count_step l.place l.members l.node) l.count (drop l.link-index l.link-items) ≡ fold (count_step l.place l.members l.node) 0 l.link-items)
