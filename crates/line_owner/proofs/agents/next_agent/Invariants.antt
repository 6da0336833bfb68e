use Rattle.std.proofs.Common.{◌≡◌, None, drop}
use Rattle.std.specs.List.{fold}
use Rattle.line_owner.specs.Agents.{best_step}
use Rattle.line_owner.proofs.agents.next_agent.Given as goal

-- the best of the hearers so far and of those to come is the best of all
abbrev pub invariant-loop-link : goal.invariant-loop-link
invariant-loop-link l =
    fold (best_step l.place l.members l.node l.last) l.best (drop l.link-index l.link-items)
    ≡ fold (best_step l.place l.members l.node l.last) None l.link-items
