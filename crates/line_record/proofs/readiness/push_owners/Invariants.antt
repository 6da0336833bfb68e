use Rattle.std.proofs.Common.{◌≡◌, ◌++◌, drop}
use Rattle.line_record.specs.Stories.{ready_owners}
use Rattle.line_record.proofs.readiness.push_owners.Given as goal

-- the stories so far and those to come
abbrev pub invariant-loop-node : goal.invariant-loop-node
invariant-loop-node l =
    l.owners.items ++ ready_owners l.joined l.story l.line (drop l.node-index l.ready)
    ≡ l.fn.owners.items ++ ready_owners l.joined l.story l.line l.ready
